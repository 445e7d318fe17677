-- What code and proofs say to each other: nothing public rests on it.
-- What one segment of a store of maps has in hand. States `docs/HEAP.md`, "The store of maps".
use Rattle.std.specs.Prelude.{take}
use Rattle.py_data.specs.Collection.{places}
use Rattle.seg_store.specs.declared.hand.Hand.{Hand}
use Rattle.seg_store.specs.Meaning.{Part}
use Rattle.seg_store.specs.inner.Looks.{marks_of}
use Rattle.seg_store.specs.inner.Space.{space_heap, space_base}

abbrev pub part_of : Hand → Part
part_of h = record {
  changes = space_heap h.held;
  changed = places h.changed;
  made = places h.made;
  looked = marks_of h.looked;
  kept = space_base h.held;
  kept_made = places (take h.kept h.made);
}
