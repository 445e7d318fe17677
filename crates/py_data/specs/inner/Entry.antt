-- What code and proofs say to each other: nothing public rests on it.
-- What holds of each record that stands in a heap. States `docs/HEAP.md`, "Records" and "Rooms".
use Rattle.std.specs.Prelude.{◌≡◌, ℕ, ◌≤◌, true, length}
use Rattle.py_data.specs.Heap.{Rec, has_rooms}
use Rattle.py_data.specs.Changes.{IsShort}

-- a List or a Dict has no more values than its room
abbrev pub HasRoom : Rec → Type 0
HasRoom r = has_rooms r.kind ≡ true → length r.values ≤ r.room

-- it is within the limit, its values are within its room, and there is memory for so many values as its room says
pub record IsEntry (r : Rec) (memory : ℕ) : Type 0 where
  pub short : IsShort r
  pub roomy : HasRoom r
  pub held : r.room ≤ memory
