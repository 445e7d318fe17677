use Rattle.std.proofs.Common.{ap}
use Rattle.py_emit.specs.inner.Tasks.{Between}
use Rattle.py_emit.proofs.RowSteps.{between_more}
use Rattle.py_emit.proofs.Steps.{split_as, then_ok}
use Rattle.py_emit.proofs.expression.between.Goals as goal

pub returns-in_ok-push_three-in-Some-clause-done : goal.returns-in_ok-push_three-in-Some-clause-done
returns-in_ok-push_three-in-Some-clause-done c =
    then_ok c.push_three-in-Some.result _ _ c.push_three-in-Some.ensures.done
    (λ q n. let f0 = c.operator_number.ensures in let f1 = c.in_ok-push_three-in-Some.ensures.done in
    split_as n _ _ _ _ _ (λ ln e. between_more n ln c.args.label c.args.link.now c.in-Some.x.now c.in-Some.more.now _
    e) (ap (λ z. Between c.args.label c.args.link.now z) c.in-Some.ensures) (cc))
