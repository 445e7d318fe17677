use Rattle.std.proofs.Common.{arith}
use Rattle.std.proofs.lemmas.Grind.{common_steps}
use Rattle.obj_builtins.proofs.Numbered.{other_met}
use Rattle.obj_builtins.proofs.functions.later_function.Goals as goal

pub returns-in_default : goal.returns-in_default
returns-in_default g c =
    let d = c.in_default in
    other_met g.V.View.sense c.args.roots.0 c.args.b c.args.args.now c.args.v.now c.raise.result
    (grind (arith, common_steps)) (grind (arith, common_steps)) (grind (arith, common_steps))
    (grind (arith, common_steps)) (grind (arith, common_steps)) (grind (arith, common_steps))
    (grind (arith, common_steps)) (grind (arith, common_steps)) (grind (arith, common_steps)) c.raise.ensures
