use Rattle.std.proofs.Common.{refl}
use Rattle.py_emit.proofs.Steps.{advances_as, then_ok, value_choice}
use Rattle.py_emit.proofs.expression.choice.Goals as goal

pub returns-clause-done : goal.returns-clause-done
returns-clause-done c = then_ok c.push_four.result _ _ c.push_four.ensures.done
    (λ q n ln. let f0 = c.in_ok-push_three.ensures.done in
    advances_as n _ _ _ _ _ _ _ (λ k. value_choice n k c.args.a.now c.args.c.now c.args.b.now c.in_ok-base.base _
    c.args.e.now _ c.in_ok-base.ensures.base c.in_ok-base.ensures.done) refl (cc) ln)
