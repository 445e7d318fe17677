use Rattle.py_states.specs.Innermost.{innermost}
use Rattle.py_step.proofs.Places.{no_instr}
use Rattle.py_step.proofs.place.instr_at.Goals as goal

pub returns-in-None : goal.returns-in-None
returns-in-None c = no_instr c.args.p.now (innermost c.args.s.now.frames) _ c.code.ensures c.in-None.ensures.value
