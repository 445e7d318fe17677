use Rattle.std.proofs.Common.{arith, refl, length, ℕ, Bool, false, not, ap}
use Rattle.py_data.specs.Row.{Row}
use Rattle.py_data.proofs.Steps.{stop_as}
use Rattle.py_data.proofs.Turns.{until_safe, until_stop, until_more, until_found, until_end}
use Rattle.obj_builtins.specs.Kinds.{any_row, class_row, class_at}
use Rattle.obj_builtins.proofs.Loops.{any_begin}
use Rattle.obj_builtins.proofs.kinds.is_any.Goals as goal

pub turns-init : goal.turns-init
turns-init g c = any_begin c.args.roots.0 c.args.f c.args.classes.now (length c.args.classes.now) _ refl
    c.requires.safe c.requires.live

pub is_of-requires-clause-live : goal.is_of-requires-clause-live
is_of-requires-clause-live g c = c.turns.invariant.live

pub is_of-requires-clause-safe : goal.is_of-requires-clause-safe
is_of-requires-clause-safe g c = until_safe (λ i. class_row c.args.roots.0 c.args.f (class_at c.args.classes.now i))
    not false c.turns.i (length c.args.classes.now) (omega arith) c.turns.invariant

pub returns-in_err-found : goal.returns-in_err-found
returns-in_err-found g c = stop_as _ _ _ _ _ _
    (until_stop (λ i. class_row c.args.roots.0 c.args.f (class_at c.args.classes.now i)) not false _ _ c.turns.i
    (length c.args.classes.now) (omega arith) c.turns.invariant c.in_err-found.ensures) c.from_residual.ensures.1

pub returns-then-found : goal.returns-then-found
returns-then-found g c =
    let f : ℕ → Row g.row.S.Denot Bool = λ i. class_row c.args.roots.0 c.args.f (class_at c.args.classes.now i) in
    until_found {row = any_row c.args.roots.0 c.args.f c.args.classes.now} f not false g.met.V.View.lawful _
    c.in_ok-found.found c.turns.i (length c.args.classes.now) (omega arith) c.turns.invariant c.in_ok-found.ensures
    (ap not c.if-found.true)

pub turns-preserved : goal.turns-preserved
turns-preserved g c =
    let f : ℕ → Row g.row.S.Denot Bool = λ i. class_row c.args.roots.0 c.args.f (class_at c.args.classes.now i) in
    until_more {row = any_row c.args.roots.0 c.args.f c.args.classes.now} f not false g.met.V.View.lawful _
    c.in_ok-found.found c.turns.i (length c.args.classes.now) (omega arith) c.turns.invariant c.in_ok-found.ensures
    (ap not c.if-found.false)

pub returns : goal.returns
returns g c = until_end (λ i. class_row c.args.roots.0 c.args.f (class_at c.args.classes.now i)) not false c.turns.i
    (length c.args.classes.now) (omega arith) c.turns.invariant
