use Rattle.std.proofs.Common.{arith}
use Rattle.std.proofs.lemmas.Grind.{common_steps}
use Rattle.obj_str.proofs.JoinLoop.{other_met}
use Rattle.obj_str.proofs.method.str_method.Goals as goal

pub returns-in_default : goal.returns-in_default
returns-in_default g c =
    let d = c.in_default in
    other_met g.V.View.sense c.args.m c.args.a.0 c.args.args.now c.args.v.now c.wrong_operand.result
    (grind (arith, common_steps)) (grind (arith, common_steps)) (grind (arith, common_steps))
    (grind (arith, common_steps)) (grind (arith, common_steps)) (grind (arith, common_steps))
    (grind (arith, common_steps)) (grind (arith, common_steps)) (grind (arith, common_steps)) c.wrong_operand.ensures
