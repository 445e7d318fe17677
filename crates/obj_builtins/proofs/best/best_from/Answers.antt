use Rattle.std.proofs.Common.{arith, refl, length, ℕ, subst, Ok}
use Rattle.py_data.specs.declared.record.Got.{Got}
use Rattle.py_data.specs.declared.value.Value.{Value}
use Rattle.py_data.specs.Heap.{value_at}
use Rattle.py_data.specs.Row.{Row}
use Rattle.py_data.specs.Sense.{Meets}
use Rattle.py_data.proofs.Steps.{stop_as}
use Rattle.py_data.proofs.Turns.{each_safe, each_stop, each_more, each_raised, each_end}
use Rattle.obj_builtins.specs.Best.{better_row}
use Rattle.obj_builtins.proofs.Loops.{best_begin}
use Rattle.obj_builtins.proofs.best.best_from.Goals as goal

pub turns-init : goal.turns-init
turns-init g c = best_begin c.args.side c.args.first c.args.values.now (length c.args.values.now) _ refl
    c.requires.safe c.requires.live

pub choose-requires-clause-live : goal.choose-requires-clause-live
choose-requires-clause-live g c = c.turns.invariant.live

pub choose-requires-clause-safe : goal.choose-requires-clause-safe
choose-requires-clause-safe g c = each_safe (λ i best. better_row c.args.side (value_at c.args.values.now i) best)
    c.turns.i (length c.args.values.now) c.turns.found (omega arith) c.turns.invariant

pub returns-in_err-next : goal.returns-in_err-next
returns-in_err-next g c = stop_as _ _ _ _ _ _
    (each_stop (λ i best. better_row c.args.side (value_at c.args.values.now i) best) _ _ c.turns.i
    (length c.args.values.now) c.turns.found (omega arith) c.turns.invariant c.in_err-next.ensures)
    c.from_residual.ensures.1

pub returns-in-Raise : goal.returns-in-Raise
returns-in-Raise g c =
    let f : ℕ → Value → Row g.row.S.Denot (Got Value) = λ i best. better_row c.args.side (value_at c.args.values.now i)
    best in
    each_raised f g.met.V.View.lawful _ c.turns.i (length c.args.values.now) c.turns.found c.in-Raise.e (omega arith)
    c.turns.invariant (subst (λ r. Meets g.V.View.sense (f c.turns.i c.turns.found) c.turns.v c.choose.new.v
    (Ok r)) c.in-Raise.is c.in_ok-next.ensures)

pub turns-preserved : goal.turns-preserved
turns-preserved g c =
    let f : ℕ → Value → Row g.row.S.Denot (Got Value) = λ i best. better_row c.args.side (value_at c.args.values.now i)
    best in
    each_more f g.met.V.View.lawful _ c.turns.i (length c.args.values.now) c.turns.found c.in-Is.x (omega arith)
    c.turns.invariant (subst (λ r. Meets g.V.View.sense (f c.turns.i c.turns.found) c.turns.v c.choose.new.v
    (Ok r)) c.in-Is.is c.in_ok-next.ensures)

pub returns : goal.returns
returns g c = each_end (λ i best. better_row c.args.side (value_at c.args.values.now i) best) c.turns.i
    (length c.args.values.now) c.turns.found (omega arith) c.turns.invariant
