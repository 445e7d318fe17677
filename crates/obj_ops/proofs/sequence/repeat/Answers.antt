use Rattle.std.proofs.Common.{arith, ◌≡◌, ap, sym, ◌∙◌, ◌++◌, length}
use Rattle.std.proofs.lemmas.Grind.{common_steps}
use Rattle.obj_ops.proofs.Lists.{repeat_empty, repeat_next}
use Rattle.obj_ops.proofs.sequence.repeat.Goals as goal

pub returns-then-xs-eq0 : goal.returns-then-xs-eq0
returns-then-xs-eq0 g c =
    let e : length c.args.xs.now ≡ 0 = grind (arith, common_steps) in
    c.new-all.ensures ∙ sym (repeat_empty c.args.n c.args.xs.now e)

pub turns-preserved : goal.turns-preserved
turns-preserved g c = c.in_ok-extend_from_slice.ensures.ok ∙
    (ap (λ l. l ++ c.args.xs.now) c.turns.invariant ∙ sym (repeat_next c.turns.counter c.args.xs.now))
