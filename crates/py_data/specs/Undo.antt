-- Changes of a record, each with what takes it back. States `docs/HEAP.md`, "The plain view".
use Rattle.std.specs.Prelude.{◌≡◌, ℕ, ◌+◌, ◌*◌, ◌<◌, ◌≤◌, ◌++◌, length, take}
use Rattle.py_data.specs.declared.record.TheConstants.{LENGTH_LIMIT}
use Rattle.py_data.specs.Heap.{Rec, with_value, with_pair_at}
use Rattle.py_data.specs.Changes.{after}
use Rattle.py_data.specs.declared.change.Change.{Change}
use Rattle.py_data.specs.declared.undo.Undo.{Undo}
use Rattle.py_data.specs.declared.undo.Undo.TheVariants.{Put, Shorten, Extend, Insert}

-- the record before a change
abbrev pub before : Undo → Rec → Rec
before (Put i x) r = with_value i x r
before (Shorten n room) r = record r { values = take n r.values; room = room }
before (Extend vs) r = record r { values = r.values ++ vs }
before (Insert k key x) r = with_pair_at k key x r

-- there is room, and the limit allows it, for so many values more
abbrev pub HasPlaces : ℕ → Rec → Type 0
HasPlaces n r = (length r.values + n ≤ r.room) × (length r.values + n ≤ LENGTH_LIMIT)

-- the record has the place, or the room, for what is put back
abbrev pub CanTakeBack : Undo → Rec → Type 0
CanTakeBack (Put i x) r = i < length r.values
CanTakeBack (Shorten n room) r = (n ≤ room) × (room ≤ r.room)
CanTakeBack (Extend vs) r = HasPlaces (length vs) r
CanTakeBack (Insert k key x) r = (2 * k ≤ length r.values) × HasPlaces 2 r

-- the change was made, and u takes it back
pub record IsUndo (c : Change) (r : Rec) (u : Undo) (q : Rec) : Type 0 where
  pub made : q ≡ after c r
  pub back : before u q ≡ r
  pub can : CanTakeBack u q
