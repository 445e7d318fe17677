use Rattle.std.proofs.Common.{ap, ◌∙◌}
use Rattle.lock_run.specs.Space.{space_heap}
use Rattle.py_data.specs.Changes.{after}
use Rattle.stm_pieces.specs.LentOf.{lent_loaned, lent_heap}
use Rattle.stm_pieces.specs.Terms.{laid_over}
use Rattle.stm_pieces.proofs.Laying.{laid_replaced}
use Rattle.stm_pieces.proofs.lent.Lent.replace.Goals as goal

pub returns-in-Ok-replace-clause-heap : goal.returns-in-Ok-replace-clause-heap
returns-in-Ok-replace-clause-heap c =
    laid_replaced (space_heap c.own.new.changed) (space_heap c.replace.new.self) (lent_loaned c.args.self.now)
    (lent_heap c.args.self.now) c.args.a (after c.args.c) c.own.ensures.heap c.in-Ok.ensures.own
    c.in-Ok-replace.ensures.heap

pub returns-in-Err-replace-clause-err : goal.returns-in-Err-replace-clause-err
returns-in-Err-replace-clause-err c =
    ap (λ h. laid_over h (lent_loaned c.args.self.now)) c.in-Err-replace.ensures.err ∙ c.own.ensures.heap
