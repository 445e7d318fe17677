use Rattle.std.proofs.Common.{arith, ◌≡◌, ◌+◌, ◌-◌, ◌*◌, ap, ◌∙◌}
use Rattle.obj_builtins.specs.Literals.{value_after}
use Rattle.obj_builtins.proofs.Digits.{le_value}
use Rattle.obj_builtins.proofs.literals.value_of.Goals as goal

pub returns-then-next : goal.returns-then-next
returns-then-next c =
    let f : value_after 0 c.args.digits.now ≡ value_after (c.turns.value * 10 + (c.in-Some.byte.now - 48))
    c.in-Some.more.now = c.turns.invariant.same ∙ ap (value_after c.turns.value) c.in-Some.ensures in
    let g = le_value (c.turns.value * 10 + (c.in-Some.byte.now - 48)) c.in-Some.more.now in
    omega (arith, f, g, c.saturating_sub.ensures, c.if-next.true)
