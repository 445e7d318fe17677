use Rattle.std.proofs.Common.{arith}
use Rattle.py_data.proofs.Steps.{leads_asks, leads_begin, leads_do, leads_refused, stop_as}
use Rattle.obj_methods.proofs.Loops.{put_next, put_last}
use Rattle.obj_methods.proofs.lists.put_values.Goals as goal

pub turns-init : goal.turns-init
turns-init g c = leads_begin g.V.View.sense _ _ c.requires.safe c.requires.live

pub set_val-requires-clause-live : goal.set_val-requires-clause-live
set_val-requires-clause-live g c = c.turns.invariant.live

pub set_val-requires-clause-there : goal.set_val-requires-clause-there
set_val-requires-clause-there g c = leads_asks
    (put_next c.args.a.0 c.args.values.now c.turns.i c.at.result (omega (arith, c.len-n.ensures)) c.at.ensures
    c.turns.invariant)

pub returns-in_err-set_val : goal.returns-in_err-set_val
returns-in_err-set_val g c = stop_as _ _ _ _ _ _
    (leads_refused (put_next c.args.a.0 c.args.values.now c.turns.i c.at.result (omega (arith, c.len-n.ensures))
    c.at.ensures c.turns.invariant) c.in_err-set_val.ensures) c.from_residual.ensures.1

pub turns-preserved : goal.turns-preserved
turns-preserved g c = leads_do g.met.V.View.lawful tt
    (put_next c.args.a.0 c.args.values.now c.turns.i c.at.result (omega (arith, c.len-n.ensures)) c.at.ensures
    c.turns.invariant) c.in_ok-set_val.ensures

pub returns : goal.returns
returns g c = put_last c.args.a.0 c.args.values.now c.turns.i (omega (arith, c.len-n.ensures)) c.turns.invariant
