-- What code and proofs say to each other: nothing public rests on it.
-- The end of a piece whose next step met a Stop. States `docs/HEAP.md`, "Pieces".
use Rattle.py_data.specs.declared.stop.Stop.{Stop}
use Rattle.py_data.specs.declared.stop.Stop.TheVariants as stop
use Rattle.stm_pieces.specs.declared.run.PieceEnd.{PieceEnd}
use Rattle.stm_pieces.specs.declared.run.PieceEnd.TheVariants.{NeedSolo, NeedHeap, OutOfMemory}

-- need of the devices and of the heap end it as they are; a piece view gives no other Stop but want of memory
abbrev pub end_for : Stop → PieceEnd
end_for stop.NeedSolo = NeedSolo
end_for stop.NeedHeap = NeedHeap
end_for _ = OutOfMemory
