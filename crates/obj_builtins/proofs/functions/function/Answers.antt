use Rattle.std.proofs.Common.{arith}
use Rattle.std.proofs.lemmas.Grind.{common_steps}
use Rattle.obj_builtins.proofs.Numbered.{later_safe, later_met}
use Rattle.obj_builtins.proofs.functions.function.Goals as goal

pub later_function-requires-clause-safe : goal.later_function-requires-clause-safe
later_function-requires-clause-safe g c =
    let d = c.in_default in
    later_safe _ c.args.roots.0 c.args.b c.args.args.now _ _ (grind (arith, common_steps))
    (grind (arith, common_steps)) (grind (arith, common_steps)) (grind (arith, common_steps))
    (grind (arith, common_steps)) (grind (arith, common_steps)) (grind (arith, common_steps))
    (grind (arith, common_steps)) (grind (arith, common_steps)) c.requires.safe

pub returns-in_default : goal.returns-in_default
returns-in_default g c =
    let d = c.in_default in
    later_met g.V.View.sense c.args.roots.0 c.args.b c.args.args.now _ _ _ (grind (arith, common_steps))
    (grind (arith, common_steps)) (grind (arith, common_steps)) (grind (arith, common_steps))
    (grind (arith, common_steps)) (grind (arith, common_steps)) (grind (arith, common_steps))
    (grind (arith, common_steps)) (grind (arith, common_steps)) c.later_function.ensures
