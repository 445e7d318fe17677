use Rattle.std.proofs.Common.{arith, sym, ◌∙◌, false}
use Rattle.py_data.specs.declared.record.Got.TheVariants.{Is}
use Rattle.py_data.proofs.Steps.{stop_as}
use Rattle.py_data.proofs.Turns.{until_safe, until_stop, until_more, until_found, until_end}
use Rattle.obj_ops.specs.Contains.{item_row, goes_on}
use Rattle.obj_ops.proofs.Loops.{items_begin}
use Rattle.obj_ops.proofs.contain.is_item.Goals as goal

pub turns-init : goal.turns-init
turns-init g c = items_begin c.args.x c.args.a.0 c.args.n _ c.requires.safe c.requires.live

pub equals_item-requires-clause-live : goal.equals_item-requires-clause-live
equals_item-requires-clause-live g c = c.turns.invariant.live

pub equals_item-requires-clause-safe : goal.equals_item-requires-clause-safe
equals_item-requires-clause-safe g c = until_safe (item_row c.args.x c.args.a.0) goes_on (Is false) c.turns.i c.args.n
    (omega arith) c.turns.invariant

pub returns-in_err-found : goal.returns-in_err-found
returns-in_err-found g c = stop_as _ _ _ _ _ _
    (until_stop (item_row c.args.x c.args.a.0) goes_on (Is false) _ _ c.turns.i c.args.n (omega arith)
    c.turns.invariant c.in_err-found.ensures) c.from_residual.ensures.1

pub returns-then-not-goes_on : goal.returns-then-not-goes_on
returns-then-not-goes_on g c = until_found (item_row c.args.x c.args.a.0) goes_on (Is false) g.met.V.View.lawful _
    c.in_ok-found.found c.turns.i c.args.n (omega arith) c.turns.invariant c.in_ok-found.ensures
    (sym c.goes_on.ensures ∙ c.if-not-goes_on.true)

pub turns-preserved : goal.turns-preserved
turns-preserved g c = until_more (item_row c.args.x c.args.a.0) goes_on (Is false) g.met.V.View.lawful _
    c.in_ok-found.found c.turns.i c.args.n (omega arith) c.turns.invariant c.in_ok-found.ensures
    (sym c.goes_on.ensures ∙ c.if-not-goes_on.false)

pub returns : goal.returns
returns g c = until_end (item_row c.args.x c.args.a.0) goes_on (Is false) c.turns.i c.args.n (omega arith)
    c.turns.invariant
