use Rattle.py_parts.proofs.Places.{params_none}
use Rattle.py_parts.proofs.programs.params_at.Goals as goal

pub returns-in-None : goal.returns-in-None
returns-in-None c = params_none c.args.p.now c.args.n c.in-None.ensures.value
