use Rattle.std.proofs.Common.{arith, ap, ◌∙◌}
use Rattle.std.proofs.lemmas.Grind.{common_steps}
use Rattle.py_templates.specs.Statements.{stated}
use Rattle.py_templates.specs.inner.Weights.{weight, weights_handlers}
use Rattle.py_templates.proofs.Stateds.{bodies_try, weight_try}
use Rattle.py_uses.proofs.bodies.+counts.Goals as goal

pub bodies_in-bodies_in_try-requires : goal.bodies_in-bodies_in_try-requires
bodies_in-bodies_in_try-requires t c =
    let w = ap weight c.in-Try.is ∙ weight_try c.in-Try.block c.in-Try.handlers c.in-Try.other c.in-Try.last in
    let f = ap weights_handlers c.as_slice-in-Try.ensures in
    grind (arith, common_steps)

pub bodies_in-bodies_in_block-requires-in-Try : goal.bodies_in-bodies_in_block-requires-in-Try
bodies_in-bodies_in_block-requires-in-Try t c =
    let w = ap weight c.in-Try.is ∙ weight_try c.in-Try.block c.in-Try.handlers c.in-Try.other c.in-Try.last in
    let f = c.clause_body-in-Try.ensures.weight in
    grind (arith, common_steps)

pub bodies_in-returns-in_ok-n-in-Try : goal.bodies_in-returns-in_ok-n-in-Try
bodies_in-returns-in_ok-n-in-Try t c =
    let e = ap (λ z. (stated z).bodies) c.in-Try.is ∙ bodies_try c.in-Try.block c.in-Try.handlers c.in-Try.other
    c.in-Try.last in
    let f = ap (λ z. z.bodies) c.clause_body-in-Try.ensures.same in
    let g = rw c.as_slice-in-Try.ensures at c.in_ok-a-in-Try.ensures in
    let h = c.in_ok-b-in-Try.ensures in
    let k = c.in_ok-n-in-Try.ensures in
    grind (arith, common_steps)
