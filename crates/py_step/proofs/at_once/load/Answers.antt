use Rattle.py_step.proofs.Directs.{load_done}
use Rattle.py_step.proofs.at_once.load.Goals as goal

pub returns-in_default : goal.returns-in_default
returns-in_default c = load_done c.args.s.now _ _ c.args.j _ c.slot.ensures c.in_default.not-Unset c.gives.ensures
