use Rattle.std.proofs.Common.{sym, ◌∙◌}
use Rattle.py_step.proofs.Directs.{const_done}
use Rattle.py_step.proofs.at_once.constant.Goals as goal

pub returns-in-Some : goal.returns-in-Some
returns-in-Some c = const_done c.args.s.now _ _ c.args.c _ (sym c.value_of.ensures ∙ c.in-Some.is) c.gives.ensures
