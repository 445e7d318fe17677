-- What code and proofs say to each other: nothing public rests on it.
-- A list of records by address, as a heap. States `docs/HEAP.md`, "The store of maps".
use Rattle.std.specs.Prelude.{◌≡◌, ℕ, ◌<◌, true, Option, Some, None, is_some}
use Rattle.py_data.specs.Heap.{Rec, Heap}

abbrev pub stands : Option (Option Rec) → Option Rec
stands None = None
stands (Some o) = o

-- the record at each place, where there is such a place and a record at it
abbrev pub image_in : (ℕ → Option (Option Rec)) → Heap
image_in t = λ a. stands (t a)

-- all records are at addresses below
abbrev pub Reaches : Heap → ℕ → Type 0
Reaches h n = (a : ℕ) → is_some (h a) ≡ true → a < n
