-- The state of a piece view. States `docs/HEAP.md`, "The piece view".
use Rattle.stm_pieces.specs.declared.view.PieceView.{PieceView}
use Rattle.stm_pieces.specs.LentOf.{lent_loaned, lent_heap, lent_base, lent_most, lent_locked, all_edits, kept_edits}
use Rattle.stm_pieces.specs.PieceState.{PieceState}

-- what a piece view holds
abbrev pub piece_state : PieceView → PieceState
piece_state v = record {
  loaned = lent_loaned v.records;
  heap = lent_heap v.records;
  base = lent_base v.records;
  edits = all_edits v.edits;
  kept = kept_edits v.edits;
  names = v.records.names.items;
  most = lent_most v.records;
  locked = lent_locked v.records;
  solo = v.solo;
  stopped = v.stopped;
}
