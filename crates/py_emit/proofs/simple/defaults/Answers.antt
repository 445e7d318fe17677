use Rattle.std.proofs.Common.{◌≡◌, ◌∷◌, length, arith, ap, ◌∙◌}
use Rattle.std.proofs.lemmas.Grind.{common_steps}
use Rattle.py_emit.specs.inner.State.{no_frames}
use Rattle.py_templates.specs.Expressions.{value, values}
use Rattle.py_emit.proofs.Rests.{rest_step}
use Rattle.py_emit.proofs.simple.defaults.Goals as goal
use Rattle.py_templates.specs.Statements.{defaults, default_or}

pub params-preserved-in_ok-expression : goal.params-preserved-in_ok-expression
params-preserved-in_ok-expression c =
    let e : defaults c.params.rest.now ≡ c.in-Some-default.x ∷ defaults c.in-Some.more.now =
    ap defaults c.in-Some.ensures ∙ ap (λ z. default_or z (defaults c.in-Some.more.now)) c.in-Some-default.is in
    let f = ap length c.in-Some.ensures in
    let i = rw e at c.params.invariant.0 in
    let k = rw e at c.params.invariant.1 in
    let b = c.params.invariant.2 in (
      rest_step no_frames c.args.e.now (values c.args.names.now c.args.line (defaults c.args.params.now)) c.params.e
          c.expression.new.e (value c.args.names.now c.args.line c.in-Some-default.x)
          (values c.args.names.now c.args.line (defaults c.in-Some.more.now)) i c.in_ok-expression.ensures.done,
      grind (arith, common_steps),
      grind (arith, common_steps),
    )
