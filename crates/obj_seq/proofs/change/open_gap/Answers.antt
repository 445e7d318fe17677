use Rattle.std.proofs.Common.{arith}
use Rattle.py_data.proofs.Steps.{leads_asks, leads_refused, stop_as}
use Rattle.obj_seq.proofs.GapLoop.{opening_looked, opening_next, opening_more, opening_end, last_edit}
use Rattle.obj_seq.proofs.change.open_gap.Goals as goal

pub set_val-requires-clause-there : goal.set_val-requires-clause-there
set_val-requires-clause-there g c =
    let m = opening_looked g.met.V.View.lawful c.turns.invariant c.in_ok-next.ensures.0 c.in_ok-next.ensures.1 in
    leads_asks (opening_next m.still c.in_ok-next.next (omega arith) m.value)

pub returns-in_err-set_val : goal.returns-in_err-set_val
returns-in_err-set_val g c =
    let m = opening_looked g.met.V.View.lawful c.turns.invariant c.in_ok-next.ensures.0 c.in_ok-next.ensures.1 in
    stop_as _ _ _ _ _ _ (leads_refused (opening_next m.still c.in_ok-next.next (omega arith) m.value)
    c.in_err-set_val.ensures) c.from_residual-in_err-set_val.ensures.1

pub turns-preserved : goal.turns-preserved
turns-preserved g c =
    let m = opening_looked g.met.V.View.lawful c.turns.invariant c.in_ok-next.ensures.0 c.in_ok-next.ensures.1 in
    opening_more g.met.V.View.lawful c.in_ok-next.next m.still (omega arith) m.value c.in_ok-set_val.ensures

pub push_val-requires-clause-there : goal.push_val-requires-clause-there
push_val-requires-clause-there g c = leads_asks (opening_end c.turns.invariant (omega arith))

pub returns : goal.returns
returns g c = last_edit g.met.V.View.lawful _ _ (opening_end c.turns.invariant (omega arith)) c.push_val.ensures
