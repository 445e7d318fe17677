use Rattle.std.proofs.Common.{ap}
use Rattle.py_emit.specs.inner.Tasks.{Links}
use Rattle.py_emit.proofs.RowSteps.{links_more}
use Rattle.py_emit.proofs.Steps.{split_as, then_ok}
use Rattle.py_emit.proofs.expression.links.Goals as goal

pub returns-in-Some-clause-done : goal.returns-in-Some-clause-done
returns-in-Some-clause-done c = then_ok c.push_three.result _ _ c.push_three.ensures.done
    (λ q n. let f0 = c.operator_number.ensures in
    split_as n _ _ _ _ _ (λ ln e. links_more n ln c.in-Some.x.now c.in-Some.more.now _ e)
    (ap (λ z. Links z) c.in-Some.ensures) (cc))
