use Rattle.std.proofs.Common.{sym, ◌∙◌}
use Rattle.py_step.proofs.Directs.{return_done}
use Rattle.py_step.proofs.at_once.leave.Goals as goal

pub returns-in_default-Unset-None : goal.returns-in_default-Unset-None
returns-in_default-Unset-None c = return_done c.args.s.now _ _ _ c.operand.ensures c.in_default-Unset-None.not-Unset-0
    (sym c.made.ensures ∙ c.in_default-Unset-None.is-1) (sym c.names.ensures ∙ c.in_default-Unset-None.is-2)
    c.returns.ensures
