use Rattle.py_step.proofs.Directs.{pop_done}
use Rattle.py_step.proofs.at_once.pop.Goals as goal

pub returns : goal.returns
returns c = pop_done c.args.s.now _ _ c.passes_on.ensures
