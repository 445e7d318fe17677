use Rattle.py_parts.proofs.Places.{slots_none}
use Rattle.py_parts.proofs.programs.slots_at.Goals as goal

pub returns-in-None : goal.returns-in-None
returns-in-None c = slots_none c.args.p.now c.args.n c.in-None.ensures.value
