use Rattle.std.proofs.Common.{ap}
use Rattle.py_emit.specs.inner.Tasks.{Keys}
use Rattle.py_emit.proofs.RowSteps.{keys_more}
use Rattle.py_emit.proofs.Steps.{split_as, then_ok}
use Rattle.py_emit.proofs.expression.keys.Goals as goal

pub returns-in-Some-clause-done : goal.returns-in-Some-clause-done
returns-in-Some-clause-done c = then_ok c.push_two.result _ _ c.push_two.ensures.done
    (λ q n. split_as n _ _ _ _ _ (λ ln e. keys_more n ln c.in-Some.x.now c.in-Some.more.now _ e)
    (ap (λ z. Keys z) c.in-Some.ensures) q)
