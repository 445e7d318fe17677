use Rattle.py_step.proofs.Directs.{store_done}
use Rattle.py_step.proofs.at_once.store.Goals as goal

pub returns-in_default : goal.returns-in_default
returns-in_default c = store_done c.args.s.now _ _ c.args.j _ c.operand.ensures c.in_default.not-Unset c.keeps.ensures
