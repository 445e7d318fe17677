use Rattle.stm_pieces.specs.PieceOf.{piece_state}
use Rattle.stm_pieces.proofs.Loaned.{tight_nothing, alone_nothing, fresh_nothing}
use Rattle.stm_pieces.proofs.loan.Loan.new.Goals as goal

pub invariant_of-result : goal.invariant_of-result
invariant_of-result g c = record {
  tight = tight_nothing (piece_state c.new.result) c.new.ensures;
  alone = alone_nothing (piece_state c.new.result) c.new.ensures;
  fresh = fresh_nothing (piece_state c.new.result) c.new.ensures;
}
