use Rattle.std.proofs.Common.{ap}
use Rattle.stm_pieces.specs.LentOf.{lent_loaned}
use Rattle.stm_pieces.specs.Terms.{laid_over}
use Rattle.stm_pieces.proofs.lent.Lent.open.Goals as goal

pub returns-clause-heap : goal.returns-clause-heap
returns-clause-heap c = ap (λ h. laid_over h (lent_loaned c.args.self.now)) c.open.ensures.heap

pub returns-clause-base : goal.returns-clause-base
returns-clause-base c = ap (λ h. laid_over h (lent_loaned c.args.self.now)) c.open.ensures.base
