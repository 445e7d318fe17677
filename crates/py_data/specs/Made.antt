-- The record that stands in a heap once a given one was made. States `docs/HEAP.md`, "Rooms".
use Rattle.py_data.specs.declared.record.Record.{Record}
use Rattle.py_data.specs.Heap.{Rec, new_rec}

-- the given kind, values and bytes, with the first room of such a record
abbrev pub rec_of : Record → Rec
rec_of r = new_rec r.kind r.values r.bytes
