use Rattle.stm_pieces.specs.PieceOf.{piece_state}
use Rattle.stm_pieces.proofs.Loaned.{tight_added, alone_added, fresh_added}
use Rattle.stm_pieces.proofs.loan.Loan.add.Goals as goal

pub invariant_of-self : goal.invariant_of-self
invariant_of-self g c = record {
  tight = tight_added (piece_state c.args.self.now.view) (piece_state c.add.new.self) c.args.a.0 c.args.r
      c.args.locked c.add.result c.add.ensures.ok c.add.ensures.err c.args.self.now.tight;
  alone = alone_added (piece_state c.args.self.now.view) (piece_state c.add.new.self) c.args.a.0 c.args.r
      c.args.locked c.add.result c.add.ensures.ok c.add.ensures.err c.args.self.now.alone;
  fresh = fresh_added (piece_state c.args.self.now.view) (piece_state c.add.new.self) c.args.a.0 c.args.r
      c.args.locked c.add.result c.add.ensures.ok c.add.ensures.err c.args.self.now.fresh;
}
