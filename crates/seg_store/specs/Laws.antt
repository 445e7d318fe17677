-- Laws of what a segment sees and holds, in the words in which `src/laws.rt` ensures them. States `docs/HEAP.md`, "The
-- store of segments".
use Rattle.std.specs.Prelude.{◌≡◌, ◌≢◌, ℕ}
use Rattle.py_data.specs.Heap.{Rec, Has, at, put_at}
use Rattle.py_data.specs.Sight.{with_mark}
use Rattle.seg_store.specs.Meaning.{Part, Meaning, overlay, sees, saw, holds, with_part}
use Rattle.seg_store.specs.Calls.{after_lock, after_change, after_make, after_open, after_undo, after_publish, after_drop}
use Rattle.seg_store.specs.Store.{IsStore}

-- a segment's part is set alone
pub record PartSet (k : ℕ) (p : Part) (m : Meaning) : Type 0 where
  pub own : (with_part k p m).part k ≡ p
  pub others : (j : ℕ) → j ≢ k → (with_part k p m).part j ≡ m.part j

-- a lock changes nothing that the segment sees or saw, and the record is held from then on
pub record LockShows (k a : ℕ) (m : Meaning) : Type 0 where
  pub seen : sees (after_lock k a m) k ≡ sees m k
  pub before : saw (after_lock k a m) k ≡ saw m k
  pub held : holds ((after_lock k a m).part k) ≡ with_mark a (holds (m.part k))

-- a change shows, and locks stay
pub record ChangeShows (k a : ℕ) (f : Rec → Rec) (m : Meaning) : Type 0 where
  pub seen : sees (after_change k a f m) k ≡ put_at (sees m k) a (f (at (sees m k) a))
  pub before : saw (after_change k a f m) k ≡ saw m k
  pub held : holds ((after_change k a f m).part k) ≡ holds (m.part k)

-- a record that is made shows, and is held from then on
pub record MakeShows (k n : ℕ) (r : Rec) (m : Meaning) : Type 0 where
  pub seen : sees (after_make k n r m) k ≡ put_at (sees m k) n r
  pub before : saw (after_make k n r m) k ≡ saw m k
  pub held : holds ((after_make k n r m).part k) ≡ with_mark n (holds (m.part k))

-- a step begins with what the segment sees, and taken back gives it again
pub record StepShows (k : ℕ) (m : Meaning) : Type 0 where
  pub opened : sees (after_open k m) k ≡ sees m k
  pub kept : saw (after_open k m) k ≡ sees m k
  pub undone : sees (after_undo k m) k ≡ saw m k
  pub again : saw (after_undo k m) k ≡ saw m k

-- changes that are published are the image's, and show under what the other segments changed; changes that are dropped
-- show no more
pub record EndShows (k : ℕ) (m : Meaning) : Type 0 where
  pub published : sees (after_publish k m) k ≡ sees m k
  pub others : (j : ℕ) → j ≢ k → sees (after_publish k m) j ≡ overlay (sees m k) (m.part j).changes
  pub dropped : sees (after_drop k m) k ≡ m.image

abbrev pub LockLaw : Type 0
LockLaw = (reserved : ℕ) (m : Meaning) (k a : ℕ) → IsStore reserved m → Has (sees m k) a → LockShows k a m
