use Rattle.std.proofs.Common.{◌+◌, ◌-◌, ◌∙◌, sym, ap, subst, arith}
use Rattle.py_data.specs.declared.record.Got.TheVariants.{Is, Raise}
use Rattle.py_data.specs.declared.record.TheConstants.{LENGTH_LIMIT}
use Rattle.py_data.specs.declared.stop.Stop.TheVariants.{OutOfMemory}
use Rattle.py_data.specs.Fault.{memory_fault}
use Rattle.py_data.specs.Looking.{walk_row}
use Rattle.py_data.specs.inner.Rest.{Leads}
use Rattle.py_data.proofs.Steps.{leads_own, stop_as}
use Rattle.obj_seq.specs.Gather.{take_row, left_row}
use Rattle.obj_seq.proofs.GatherSteps.{left_begin, left_safe, left_stop, left_more, left_end, left_raised, left_last}
use Rattle.obj_seq.proofs.gathering.left.Goals as goal

pub turns-init : goal.turns-init
turns-init g c = record {
  leads = left_begin g.V.View.sense c.args.it.0 c.args.v.now c.new-values.result c.new-values.ensures c.requires.safe
      c.requires.live;
  within = omega arith;
}

pub next-requires-clause-safe : goal.next-requires-clause-safe
next-requires-clause-safe g c = left_safe c.args.it.0 c.turns.values c.turns.counter c.turns-test.true
    c.turns.invariant.leads

pub returns-in_err-x : goal.returns-in_err-x
returns-in_err-x g c = stop_as _ _ _ _ _ _
    (left_stop c.args.it.0 c.turns.values c.turns.counter c.turns-test.true c.turns.invariant.leads _ _
    c.in_err-x.ensures) c.from_residual.ensures.1

pub returns-in_err-push-in-Is-Some : goal.returns-in_err-push-in-Is-Some
returns-in_err-push-in-Is-Some g c =
    let m = left_more c.args.it.0 c.turns.values c.turns.counter c.turns-test.true c.turns.invariant.leads
    g.met.V.View.lawful _ _ c.in-Is-Some.x c.in_ok-x.ensures
    (c.in-Is-Some.is ∙ ap (λ o. Is o) c.in-Is-Some.field-0-is) in
    stop_as _ _ _ _ OutOfMemory _ (leads_own m) c.from_residual-in_err-push-in-Is-Some.ensures.1

pub returns-in-Is-None : goal.returns-in-Is-None
returns-in-Is-None g c = left_end c.args.it.0 c.turns.values c.turns.counter c.turns-test.true c.turns.invariant.leads
    g.met.V.View.lawful _ _ c.in_ok-x.ensures (c.in-Is-None.is ∙ ap (λ o. Is o) c.in-Is-None.field-0-is)

pub returns-in-Raise : goal.returns-in-Raise
returns-in-Raise g c = left_raised c.args.it.0 c.turns.values c.turns.counter c.turns-test.true c.turns.invariant.leads
    g.met.V.View.lawful _ _ c.in-Raise.e c.in_ok-x.ensures c.in-Raise.is

pub turns-preserved : goal.turns-preserved
turns-preserved g c =
    let m = left_more c.args.it.0 c.turns.values c.turns.counter c.turns-test.true c.turns.invariant.leads
    g.met.V.View.lawful _ _ c.in-Is-Some.x c.in_ok-x.ensures
    (c.in-Is-Some.is ∙ ap (λ o. Is o) c.in-Is-Some.field-0-is) in
    record {
      leads = subst (λ xs. Leads g.V.View.sense (left_row {S = g.row.S.Denot} c.args.it.0) c.args.v.now
          (walk_row (take_row c.args.it.0) (Raise memory_fault) (LENGTH_LIMIT + 1 - (c.turns.counter + 1)) xs)
          c.next.new.v) (sym c.in_ok-push-in-Is-Some.ensures.ok) m;
      within = omega arith;
    }

pub returns : goal.returns
returns g c = left_last g.V.View.sense c.args.it.0 c.args.v.now _ _ c.turns.counter _ c.turns-test.false
    c.turns.invariant.leads c.too_many.ensures
