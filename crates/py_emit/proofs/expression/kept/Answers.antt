use Rattle.std.proofs.Common.{ap}
use Rattle.py_emit.specs.inner.Tasks.{Kept}
use Rattle.py_emit.proofs.RowSteps.{kept_more}
use Rattle.py_emit.proofs.Steps.{split_as, then_ok}
use Rattle.py_emit.proofs.expression.kept.Goals as goal

pub returns-in-Some-clause-done : goal.returns-in-Some-clause-done
returns-in-Some-clause-done c = then_ok c.push_three.result _ _ c.push_three.ensures.done
    (λ q n. split_as n _ _ _ _ _ (λ ln e. kept_more n ln c.args.far c.args.label c.args.a.now c.in-Some.x.now
    c.in-Some.more.now _ e) (ap (λ z. Kept c.args.far c.args.label c.args.a.now z) c.in-Some.ensures) q)
