use Rattle.std.proofs.Common.{arith}
use Rattle.py_data.proofs.Steps.{leads_asks, leads_refused, stop_as}
use Rattle.obj_seq.proofs.ReverseLoop.{turning_next, turning_more, turning_last}
use Rattle.obj_seq.proofs.change.put_reversed.Goals as goal

pub set_val-requires-clause-there : goal.set_val-requires-clause-there
set_val-requires-clause-there g c = leads_asks
    (turning_next g.met.V.View.lawful _ _ _ c.len-n.ensures c.turns.invariant (omega arith) c.at.ensures)

pub returns-in_err-set_val : goal.returns-in_err-set_val
returns-in_err-set_val g c = stop_as _ _ _ _ _ _
    (leads_refused (turning_next g.met.V.View.lawful _ _ _ c.len-n.ensures c.turns.invariant (omega arith)
    c.at.ensures) c.in_err-set_val.ensures) c.from_residual.ensures.1

pub turns-preserved : goal.turns-preserved
turns-preserved g c = turning_more g.met.V.View.lawful _ _ _ _ c.len-n.ensures c.turns.invariant (omega arith)
    c.at.ensures c.in_ok-set_val.ensures

pub returns : goal.returns
returns g c = turning_last _ c.turns.invariant (omega arith)
