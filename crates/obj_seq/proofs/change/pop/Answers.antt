use Rattle.std.proofs.Common.{◌+◌, drop}
use Rattle.py_data.specs.declared.record.Got.TheVariants.{Is}
use Rattle.py_data.specs.Heap.{value_at, at}
use Rattle.py_data.specs.Row.{Ret, bind}
use Rattle.py_data.proofs.Rows.{again}
use Rattle.py_data.proofs.Steps.{stop_as, safe_first, leads_call_stop}
use Rattle.obj_seq.specs.Seq.{pop_at, gap_row}
use Rattle.obj_seq.proofs.Places.{pop_is, place_found}
use Rattle.py_data.proofs.AfterLook.{leads_looked}
use Rattle.obj_seq.proofs.change.pop.Goals as goal

pub close_gap-requires-clause-safe : goal.close_gap-requires-clause-safe
close_gap-requires-clause-safe g c =
    let L = g.met.V.View.lawful in
    let same = again L c.args.a.0 _ _ _ _ _ c.in_ok-n.ensures.shows.0 c.in_ok-x-in-Some.ensures.0 in
    let is = pop_is c.args.a.0 c.args.i (at (g.V.View.sense.heap c.args.v.now) c.args.a.0) _ _ c.if-n-eq0.false
    c.in_ok-n.ensures.shows.1 (place_found c.args.i _ _ _ _ c.ranges.i c.in_ok-n.ensures.shows.1 c.place_of.ensures
    c.in-Some.is) in
    let l = leads_looked L c.in_ok-n.ensures.shows.0 same (pop_at c.args.a.0 c.args.i)
    (λ r. bind (gap_row c.args.a.0 c.in-Some.k (drop (c.in-Some.k + 1) r.values))
    (λ _. Ret (Is (value_at r.values c.in-Some.k)))) c.requires.safe c.requires.live is in
    safe_first _ _ _ _ l.safe

pub returns-in_err-close_gap-in-Some : goal.returns-in_err-close_gap-in-Some
returns-in_err-close_gap-in-Some g c =
    let L = g.met.V.View.lawful in
    let same = again L c.args.a.0 _ _ _ _ _ c.in_ok-n.ensures.shows.0 c.in_ok-x-in-Some.ensures.0 in
    let is = pop_is c.args.a.0 c.args.i (at (g.V.View.sense.heap c.args.v.now) c.args.a.0) _ _ c.if-n-eq0.false
    c.in_ok-n.ensures.shows.1 (place_found c.args.i _ _ _ _ c.ranges.i c.in_ok-n.ensures.shows.1 c.place_of.ensures
    c.in-Some.is) in
    let l = leads_looked L c.in_ok-n.ensures.shows.0 same (pop_at c.args.a.0 c.args.i)
    (λ r. bind (gap_row c.args.a.0 c.in-Some.k (drop (c.in-Some.k + 1) r.values))
    (λ _. Ret (Is (value_at r.values c.in-Some.k)))) c.requires.safe c.requires.live is in
    stop_as _ _ _ _ _ _ (leads_call_stop _ _ _ _ l c.in_err-close_gap-in-Some.ensures)
    c.from_residual-in_err-close_gap-in-Some.ensures.1
