-- What code and proofs say to each other: nothing public rests on it.
-- What one segment of a store of maps has looked at. States `docs/HEAP.md`, "The store of maps".
use Rattle.std.specs.Prelude.{◌≡◌, ℕ, true}
use Rattle.py_data.specs.Heap.{Marks}
use Rattle.py_data.specs.Sight.{mem}
use Rattle.seg_store.specs.declared.looks.Looks.{Looks}
use Rattle.seg_store.specs.inner.Flags.{marks_in}

abbrev pub marks_of : Looks → Marks
marks_of l = marks_in l.flags.items

-- the address can be flagged
abbrev pub IsReady : ℕ → Looks → Type 0
IsReady a l = mem a l.list.items ≡ true
