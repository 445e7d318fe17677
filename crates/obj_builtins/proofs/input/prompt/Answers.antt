use Rattle.obj_builtins.proofs.InputSteps.{may_set, prompted_safe}
use Rattle.obj_builtins.proofs.input.prompt.Goals as goal

pub set_mid_line-requires-clause-solo : goal.set_mid_line-requires-clause-solo
set_mid_line-requires-clause-solo g c = may_set g.met.V.View.bracketed _ _ c.args.text.now c.in_ok-put.ensures

pub take-requires-clause-safe : goal.take-requires-clause-safe
take-requires-clause-safe g c = prompted_safe g.met.V.View.lawful _ _ _ c.args.text.now c.requires.safe
    c.in_ok-put.ensures c.set_mid_line.ensures
