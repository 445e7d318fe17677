-- What each call of a store leaves of its meaning. States `docs/HEAP.md`, "The store of segments".
use Rattle.std.specs.Prelude.{ℕ, cond, [], ◌∷◌, ◌++◌}
use Rattle.py_data.specs.Heap.{Rec, at, put_at}
use Rattle.py_data.specs.Sight.{no_marks, with_mark}
use Rattle.seg_store.specs.Meaning.{Part, Meaning, no_part, sees, holds, with_part}

-- a transaction begins
abbrev pub begun : Part → Part
begun p = record p { looked = no_marks }

-- a record is looked at
abbrev pub marked : ℕ → Part → Part
marked a p = record p { looked = with_mark a p.looked }

-- a record that no segment holds is locked: it counts as looked at, and is held as it stands
abbrev pub first_locked : ℕ → Rec → Part → Part
first_locked a r p = record p {
  changes = put_at p.changes a r;
  changed = p.changed ++ a ∷ [];
  looked = with_mark a p.looked;
  kept = put_at p.kept a r;
}

-- a record is locked; one that the segment holds already is looked at
abbrev pub locked : ℕ → Rec → Part → Part
locked a r p = cond (holds p a) (marked a p) (first_locked a r p)

-- another record in the place of one that the segment holds
abbrev pub changed : ℕ → Rec → Part → Part
changed a r p = record p { changes = put_at p.changes a r }

-- a record is made
abbrev pub made : ℕ → Rec → Part → Part
made n r p = record p { changes = put_at p.changes n r; made = p.made ++ n ∷ [] }

-- a step begins
abbrev pub opened : Part → Part
opened p = record p { kept = p.changes; kept_made = p.made }

-- the step is taken back; looks and locks stay
abbrev pub undone : Part → Part
undone p = record p { changes = p.kept; made = p.kept_made }

-- the segment holds nothing any more; looks stay
abbrev pub ended : Part → Part
ended p = record no_part { looked = p.looked }

-- ---- of the store

abbrev pub after_begin : ℕ → Meaning → Meaning
after_begin k m = with_part k (begun (m.part k)) m

abbrev pub after_mark : ℕ → ℕ → Meaning → Meaning
after_mark k a m = with_part k (marked a (m.part k)) m

abbrev pub after_lock : ℕ → ℕ → Meaning → Meaning
after_lock k a m = with_part k (locked a (at (sees m k) a) (m.part k)) m

-- f makes another record of one that the segment holds
abbrev pub after_change : ℕ → ℕ → (Rec → Rec) → Meaning → Meaning
after_change k a f m = with_part k (changed a (f (at (sees m k) a)) (m.part k)) m

abbrev pub after_make : ℕ → ℕ → Rec → Meaning → Meaning
after_make k n r m = with_part k (made n r (m.part k)) m

abbrev pub after_open : ℕ → Meaning → Meaning
after_open k m = with_part k (opened (m.part k)) m

abbrev pub after_undo : ℕ → Meaning → Meaning
after_undo k m = with_part k (undone (m.part k)) m

-- the image becomes what the segment sees
abbrev pub after_publish : ℕ → Meaning → Meaning
after_publish k m = record (with_part k (ended (m.part k)) m) { image = sees m k }

abbrev pub after_drop : ℕ → Meaning → Meaning
after_drop k m = with_part k (ended (m.part k)) m
