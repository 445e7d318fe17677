-- What running a piece gives: the piece, and the changes that lead from its loan to what it left.
-- States `docs/HEAP.md`, "Pieces".
use Rattle.std.specs.Prelude.{◌≡◌}
use Rattle.lock_run.specs.declared.client.Life.TheVariants.{Lives}
use Rattle.lock_run.specs.Prog.{Prog}
use Rattle.stm_pieces.specs.declared.loan.Piece.{Piece}
use Rattle.stm_pieces.specs.Ends.{last_of}
use Rattle.stm_pieces.specs.Piece.{IsPiece}
use Rattle.stm_pieces.specs.PieceOf.{piece_state}
use Rattle.stm_pieces.specs.Replay.{Replays}

-- Its thread lived at the start. Its steps are a piece of the loaned records, and its edits lead, one after another, to
-- the records that it left.
pub record IsPieceBy {S : Type 0} (p : Prog S) (x : Piece S) : Type 0 where
  pub lives : p.life x.start ≡ Lives
  pub is : IsPiece p (piece_state x.view).loaned (piece_state x.view).locked x.steps x.start (last_of x.start x.last)
      (piece_state x.view).heap
  pub replays : Replays (piece_state x.view).locked (piece_state x.view).edits (piece_state x.view).loaned
      (piece_state x.view).heap
