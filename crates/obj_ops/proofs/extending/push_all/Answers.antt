use Rattle.std.proofs.Common.{arith}
use Rattle.py_data.proofs.Steps.{leads_asks, leads_begin, leads_do, leads_refused, stop_as}
use Rattle.obj_ops.proofs.Loops.{push_next, push_last}
use Rattle.obj_ops.proofs.extending.push_all.Goals as goal

pub turns-init : goal.turns-init
turns-init g c = leads_begin g.V.View.sense _ _ c.requires.safe c.requires.live

pub push_val-requires-clause-live : goal.push_val-requires-clause-live
push_val-requires-clause-live g c = c.turns.invariant.live

pub push_val-requires-clause-there : goal.push_val-requires-clause-there
push_val-requires-clause-there g c = leads_asks
    (push_next c.args.a.0 c.args.values.now c.turns.i c.at.result (omega (arith, c.len-n.ensures)) c.at.ensures
    c.turns.invariant)

pub returns-in_err-push_val : goal.returns-in_err-push_val
returns-in_err-push_val g c = stop_as _ _ _ _ _ _
    (leads_refused (push_next c.args.a.0 c.args.values.now c.turns.i c.at.result (omega (arith, c.len-n.ensures))
    c.at.ensures c.turns.invariant) c.in_err-push_val.ensures) c.from_residual.ensures.1

pub turns-preserved : goal.turns-preserved
turns-preserved g c = leads_do g.met.V.View.lawful tt
    (push_next c.args.a.0 c.args.values.now c.turns.i c.at.result (omega (arith, c.len-n.ensures)) c.at.ensures
    c.turns.invariant) c.in_ok-push_val.ensures

pub returns : goal.returns
returns g c = push_last c.args.a.0 c.args.values.now c.turns.i (omega (arith, c.len-n.ensures)) c.turns.invariant
