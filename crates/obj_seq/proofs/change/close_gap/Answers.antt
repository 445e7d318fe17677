use Rattle.std.proofs.Common.{arith, ◌≡◌, ◌-◌, sym}
use Rattle.py_data.proofs.Steps.{leads_asks, leads_refused, stop_as}
use Rattle.obj_seq.proofs.GapLoop.{closing_looked, closing_next, closing_more, closing_end, last_edit}
use Rattle.obj_seq.proofs.change.close_gap.Goals as goal

pub set_val-requires-clause-there : goal.set_val-requires-clause-there
set_val-requires-clause-there g c =
    let m = closing_looked g.met.V.View.lawful c.turns.invariant c.in_ok-y.ensures.0 c.in_ok-y.ensures.1 in
    leads_asks (closing_next m.still c.in_ok-y.y (omega arith) m.value)

pub returns-in_err-set_val : goal.returns-in_err-set_val
returns-in_err-set_val g c =
    let m = closing_looked g.met.V.View.lawful c.turns.invariant c.in_ok-y.ensures.0 c.in_ok-y.ensures.1 in
    stop_as _ _ _ _ _ _ (leads_refused (closing_next m.still c.in_ok-y.y (omega arith) m.value)
    c.in_err-set_val.ensures) c.from_residual-in_err-set_val.ensures.1

pub turns-preserved : goal.turns-preserved
turns-preserved g c =
    let m = closing_looked g.met.V.View.lawful c.turns.invariant c.in_ok-y.ensures.0 c.in_ok-y.ensures.1 in
    closing_more g.met.V.View.lawful c.in_ok-y.y m.still (omega arith) m.value c.in_ok-set_val.ensures

pub truncate-requires-clause-there : goal.truncate-requires-clause-there
truncate-requires-clause-there g c =
    let e : c.turns.j ≡ c.args.n - 1 = omega arith in
    rw (sym e) (leads_asks (closing_end c.turns.invariant (omega arith)))

pub returns : goal.returns
returns g c =
    let e : c.turns.j ≡ c.args.n - 1 = omega arith in
    last_edit g.met.V.View.lawful _ _ (closing_end c.turns.invariant (omega arith)) (rw e c.truncate.ensures)
