use Rattle.std.proofs.Common.{arith}
use Rattle.std.proofs.lemmas.Grind.{common_steps}
use Rattle.obj_methods.proofs.Loops.{other_dict_met}
use Rattle.obj_methods.proofs.dicts.dict_method.Goals as goal

pub returns-in_default : goal.returns-in_default
returns-in_default g c =
    let d = c.in_default in
    other_dict_met g.V.View.sense c.args.m c.args.d.0 c.args.args.now c.args.v.now c.wrong_operand.result
    (grind (arith, common_steps)) (grind (arith, common_steps)) (grind (arith, common_steps))
    (grind (arith, common_steps)) (grind (arith, common_steps)) (grind (arith, common_steps))
    c.wrong_operand.ensures
