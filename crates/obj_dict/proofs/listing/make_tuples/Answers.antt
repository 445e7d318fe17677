use Rattle.std.proofs.Common.{sym, subst, arith, ◌+◌}
use Rattle.py_data.specs.Heap.{at}
use Rattle.py_data.specs.declared.stop.Stop.TheVariants.{OutOfMemory}
use Rattle.py_data.proofs.Steps.{leads_asks, leads_own, leads_refused, stop_as}
use Rattle.obj_dict.proofs.Halves.{Tupling, pair_read, tupling_next, tupling_more, tupling_last}
use Rattle.obj_dict.proofs.listing.make_tuples.Goals as goal

pub returns-in_err-made : goal.returns-in_err-made
returns-in_err-made g c =
    let p = pair_read g.met.V.View.lawful _ _ c.turns.invariant c.in_ok-key.ensures.0 c.in_ok-key.ensures.1
    c.in_ok-x.ensures.0 c.in_ok-x.ensures.1 in
    stop_as _ _ _ _ OutOfMemory _ (leads_own p.still.leads) c.from_residual-in_err-made.ensures.1

pub make-requires-clause-shape : goal.make-requires-clause-shape
make-requires-clause-shape g c =
    let p = pair_read g.met.V.View.lawful _ _ c.turns.invariant c.in_ok-key.ensures.0 c.in_ok-key.ensures.1
    c.in_ok-x.ensures.0 c.in_ok-x.ensures.1 in
    leads_asks (tupling_next p.still _ _ _ (omega arith) p.key p.value c.in_ok-made.ensures)

pub returns-in_err-b : goal.returns-in_err-b
returns-in_err-b g c =
    let p = pair_read g.met.V.View.lawful _ _ c.turns.invariant c.in_ok-key.ensures.0 c.in_ok-key.ensures.1
    c.in_ok-x.ensures.0 c.in_ok-x.ensures.1 in
    stop_as _ _ _ _ _ _ (leads_refused (tupling_next p.still _ _ _ (omega arith) p.key p.value c.in_ok-made.ensures)
    c.in_err-b.ensures) c.from_residual-in_err-b.ensures.1

pub returns-in_err-push : goal.returns-in_err-push
returns-in_err-push g c =
    let p = pair_read g.met.V.View.lawful _ _ c.turns.invariant c.in_ok-key.ensures.0 c.in_ok-key.ensures.1
    c.in_ok-x.ensures.0 c.in_ok-x.ensures.1 in
    let m = tupling_more g.met.V.View.lawful p.still _ _ _ c.in_ok-b.b.0 _ (omega arith) p.key p.value
    c.in_ok-made.ensures c.in_ok-b.ensures in
    stop_as _ _ _ _ OutOfMemory _ (leads_own m.leads) c.from_residual-in_err-push.ensures.1

pub turns-preserved : goal.turns-preserved
turns-preserved g c =
    let p = pair_read g.met.V.View.lawful _ _ c.turns.invariant c.in_ok-key.ensures.0 c.in_ok-key.ensures.1
    c.in_ok-x.ensures.0 c.in_ok-x.ensures.1 in
    let m = tupling_more g.met.V.View.lawful p.still _ _ _ c.in_ok-b.b.0 _ (omega arith) p.key p.value
    c.in_ok-made.ensures c.in_ok-b.ensures in
    subst (λ refs. Tupling g.V.View.sense c.args.d.0 c.args.n (at (g.V.View.sense.heap c.args.v.now) c.args.d.0).values
    (c.turns.i + 1) refs c.args.v.now c.make.new.self) (sym c.in_ok-push.ensures.ok) m

pub returns : goal.returns
returns g c = tupling_last c.turns.invariant (omega arith)
