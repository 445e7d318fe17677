use Rattle.py_parts.proofs.Places.{keys_none}
use Rattle.py_parts.proofs.programs.key_lists.Goals as goal

pub returns-in-None : goal.returns-in-None
returns-in-None c = keys_none c.args.p.now c.args.n c.in-None.ensures.value
