use Rattle.std.proofs.Common.{sym, ◌∙◌}
use Rattle.py_step.proofs.Directs.{made_done}
use Rattle.py_step.proofs.at_once.leave_init.Goals as goal

pub returns-in-None-None : goal.returns-in-None-None
returns-in-None-None c = made_done c.args.s.now _ _ _ _ c.operand.ensures c.in-None-None.is-0 c.made.ensures
    c.in_default.not-Unset (sym c.names.ensures ∙ c.in-None-None.is-1) c.returns.ensures
