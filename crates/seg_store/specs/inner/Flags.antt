-- What code and proofs say to each other: nothing public rests on it.
-- Flags of addresses, and a list of those that are flagged. States `docs/HEAP.md`, "The store of maps".
use Rattle.std.specs.Prelude.{◌≡◌, ℕ, ◌<◌, Bool, true, false, List, length, slice_index_or}
use Rattle.py_data.specs.Heap.{Marks}
use Rattle.py_data.specs.Sight.{mem}

-- the addresses whose flag is set
abbrev pub marks_in : List Bool → Marks
marks_in flags = λ a. slice_index_or flags a false

-- each flagged address is in the list, and the flags reach each address of the list
pub record IsListed (flags : List Bool) (list : List ℕ) : Type 0 where
  pub flagged : (a : ℕ) → slice_index_or flags a false ≡ true → mem a list ≡ true
  pub reached : (a : ℕ) → mem a list ≡ true → a < length flags
