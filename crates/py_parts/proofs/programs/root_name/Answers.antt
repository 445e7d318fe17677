use Rattle.py_parts.proofs.Places.{root_none}
use Rattle.py_parts.proofs.programs.root_name.Goals as goal

pub returns-in-None : goal.returns-in-None
returns-in-None c = root_none c.args.p.now c.args.n c.in-None.ensures.value
