-- What code and proofs say to each other: nothing public rests on it.
-- What is left of a row in the middle of it: for proofs of operations that go through a row call by call.
-- States `docs/HEAP.md`, "Rows".
use Rattle.std.specs.Prelude.{◌≡◌, ℕ, Result, Some}
use Rattle.py_data.specs.Heap.{Rec}
use Rattle.py_data.specs.declared.stop.Stop.{Stop}
use Rattle.py_data.specs.Row.{Row}
use Rattle.py_data.specs.Sense.{Sense, Meets, Safe, IsLive}

module _ {S X : Type 0} (u : Sense S X) where
  -- From v the row has come to w, where rest is what is left of it: whoever does the rest has done the row.
  pub record Leads {A : Type 0} (row : Row S A) (v : X) (rest : Row S A) (w : X) : Type 0 where
    pub finish : (x : X) (res : Result A Stop) → Meets u rest w x res → Meets u row v x res
    pub safe : Safe u.partial rest (u.heap w)
    pub live : IsLive u w

  -- the record at an address that was looked at
  pub record Stands (a : ℕ) (r : Rec) (w : X) : Type 0 where
    pub is : u.heap w a ≡ Some r
    pub seen : u.seen a w
