use Rattle.std.proofs.Common.{arith, false, not, ap}
use Rattle.py_data.proofs.Steps.{stop_as}
use Rattle.py_data.proofs.Turns.{until_safe, until_stop, until_more, until_found, until_end}
use Rattle.py_frames.specs.RaiseRows.{place_catches, some_catches}
use Rattle.py_raises.proofs.Loops.{some_begin}
use Rattle.py_raises.proofs.raises.some_catches.Goals as goal

pub turns-init : goal.turns-init
turns-init g c = some_begin c.args.roots.0 c.args.e.0 c.args.t.0 c.args.n _ c.requires.safe c.requires.live

pub place_catches-requires-clause-live : goal.place_catches-requires-clause-live
place_catches-requires-clause-live g c = c.turns.invariant.live

pub place_catches-requires-clause-safe : goal.place_catches-requires-clause-safe
place_catches-requires-clause-safe g c = until_safe (place_catches c.args.roots.0 c.args.e.0 c.args.t.0) not false
    c.turns.i c.args.n (omega arith) c.turns.invariant

pub returns-in_err-found : goal.returns-in_err-found
returns-in_err-found g c = stop_as _ _ _ _ _ _
    (until_stop (place_catches c.args.roots.0 c.args.e.0 c.args.t.0) not false _ _ c.turns.i c.args.n (omega arith)
    c.turns.invariant c.in_err-found.ensures) c.from_residual.ensures.1

pub returns-then-found : goal.returns-then-found
returns-then-found g c = until_found {row = some_catches c.args.roots.0 c.args.e.0 c.args.t.0 c.args.n}
    (place_catches c.args.roots.0 c.args.e.0 c.args.t.0) not false g.met.V.View.lawful _ c.in_ok-found.found c.turns.i
    c.args.n (omega arith) c.turns.invariant c.in_ok-found.ensures (ap not c.if-found.true)

pub turns-preserved : goal.turns-preserved
turns-preserved g c = until_more {row = some_catches c.args.roots.0 c.args.e.0 c.args.t.0 c.args.n}
    (place_catches c.args.roots.0 c.args.e.0 c.args.t.0) not false g.met.V.View.lawful _ c.in_ok-found.found c.turns.i
    c.args.n (omega arith) c.turns.invariant c.in_ok-found.ensures (ap not c.if-found.false)

pub returns : goal.returns
returns g c = until_end (place_catches c.args.roots.0 c.args.e.0 c.args.t.0) not false c.turns.i c.args.n (omega arith)
    c.turns.invariant
