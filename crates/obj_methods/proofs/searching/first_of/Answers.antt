use Rattle.std.proofs.Common.{arith, sym, ◌∙◌, None}
use Rattle.py_data.specs.declared.record.Got.TheVariants.{Is}
use Rattle.py_data.proofs.Steps.{stop_as}
use Rattle.py_data.proofs.Turns.{until_safe, until_stop, until_more, until_found, until_end}
use Rattle.obj_methods.specs.Lists.{place_row, goes_on}
use Rattle.obj_methods.proofs.Loops.{first_begin}
use Rattle.obj_methods.proofs.searching.first_of.Goals as goal

pub turns-init : goal.turns-init
turns-init g c = first_begin c.args.x c.args.a.0 c.args.n _ c.requires.safe c.requires.live

pub place_at-requires-clause-live : goal.place_at-requires-clause-live
place_at-requires-clause-live g c = c.turns.invariant.live

pub place_at-requires-clause-safe : goal.place_at-requires-clause-safe
place_at-requires-clause-safe g c = until_safe (place_row c.args.x c.args.a.0) goes_on (Is None) c.turns.i c.args.n
    (omega arith) c.turns.invariant

pub returns-in_err-place : goal.returns-in_err-place
returns-in_err-place g c = stop_as _ _ _ _ _ _
    (until_stop (place_row c.args.x c.args.a.0) goes_on (Is None) _ _ c.turns.i c.args.n (omega arith)
    c.turns.invariant c.in_err-place.ensures) c.from_residual.ensures.1

pub returns-then-not-goes_on : goal.returns-then-not-goes_on
returns-then-not-goes_on g c = until_found (place_row c.args.x c.args.a.0) goes_on (Is None) g.met.V.View.lawful _
    c.in_ok-place.place c.turns.i c.args.n (omega arith) c.turns.invariant c.in_ok-place.ensures
    (sym c.goes_on.ensures ∙ c.if-not-goes_on.true)

pub turns-preserved : goal.turns-preserved
turns-preserved g c = until_more (place_row c.args.x c.args.a.0) goes_on (Is None) g.met.V.View.lawful _
    c.in_ok-place.place c.turns.i c.args.n (omega arith) c.turns.invariant c.in_ok-place.ensures
    (sym c.goes_on.ensures ∙ c.if-not-goes_on.false)

pub returns : goal.returns
returns g c = until_end (place_row c.args.x c.args.a.0) goes_on (Is None) c.turns.i c.args.n (omega arith)
    c.turns.invariant
