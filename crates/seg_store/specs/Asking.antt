-- What a refusal says of the words that a call wanted. States `docs/HEAP.md`, "Extents".
use Rattle.std.specs.Prelude.{Option}
use Rattle.py_data.specs.Heap.{Rec}
use Rattle.seg_store.specs.declared.store.StoreFault.{StoreFault}
use Rattle.seg_store.specs.declared.store.StoreFault.TheVariants.{Full, OutOfMemory}
use Rattle.seg_store.specs.Extents.{Wants}

-- Where the heap is full, the words that were needed are those of one extent that the record, which would stand in the
-- place of another or of none, has more than that one.
abbrev pub AsksFor : Option Rec → Rec → StoreFault → Type 0
AsksFor o r (Full reserved need limit) = Wants o r need
AsksFor o r OutOfMemory = Unit {0}
