-- What code and proofs say to each other: nothing public rests on it.
-- Records by address, as a heap. States `docs/HEAP.md`, "The store of maps".
use Rattle.std.specs.Prelude.{slice_get}
use Rattle.py_data.specs.Heap.{Heap}
use Rattle.seg_store.specs.declared.table.Table.{Table}
use Rattle.seg_store.specs.inner.Placed.{records_in}

-- the records that stand
unfoldable pub table_heap : Table → Heap
table_heap t = records_in (slice_get t.places.items) (slice_get t.list.items)
