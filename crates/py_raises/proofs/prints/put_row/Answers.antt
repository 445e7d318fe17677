use Rattle.py_raises.proofs.Afters.{may_set}
use Rattle.py_raises.proofs.prints.put_row.Goals as goal

pub set_mid_line-requires-clause-solo : goal.set_mid_line-requires-clause-solo
set_mid_line-requires-clause-solo g c = may_set g.met.V.View.bracketed _ _ c.as_slice.result.now c.in_ok-put.ensures
