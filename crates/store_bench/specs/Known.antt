-- What a store under test knows of its image.
-- Nothing here is to be believed.
use Rattle.std.specs.Prelude.{◌≡◌, ℕ, true}
use Rattle.py_data.specs.Heap.{Heap, Marks, Has}

-- where there is a mark the heap has a record
abbrev pub Knows : Heap → Marks → Type 0
Knows h marks = (a : ℕ) → marks a ≡ true → Has h a
