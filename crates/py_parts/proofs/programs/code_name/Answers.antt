use Rattle.py_parts.proofs.Places.{name_none}
use Rattle.py_parts.proofs.programs.code_name.Goals as goal

pub returns-in-None : goal.returns-in-None
returns-in-None c = name_none c.args.p.now c.args.n c.in-None.ensures.value
