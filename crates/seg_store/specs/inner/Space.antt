-- What code and proofs say to each other: nothing public rests on it.
-- The records that one segment of a store of maps holds, as heaps. States `docs/HEAP.md`, "The store of maps".
use Rattle.py_data.specs.Heap.{Heap}
use Rattle.py_data.specs.Journal.{taken_back}
use Rattle.seg_store.specs.inner.Table.{table_heap}
use Rattle.seg_store.specs.declared.space.Space.{Space}

-- the records that stand
abbrev pub space_heap : Space → Heap
space_heap s = table_heap s.records

-- the records as they stood when the step was opened
abbrev pub space_base : Space → Heap
space_base s = taken_back s.journal.items (space_heap s)
