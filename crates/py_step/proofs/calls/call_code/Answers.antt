use Rattle.std.proofs.Common.{sym, ap}
use Rattle.py_data.proofs.Steps.{live_after}
use Rattle.py_step.proofs.FastPaths.{code_is}
use Rattle.py_step.proofs.Moving.{more_moved, more_safe, moves_as, part_moved, part_safe, safe_as}
use Rattle.py_step.specs.inner.FastPath.{called_with}
use Rattle.py_step.proofs.calls.call_code.Goals as goal

pub look-requires-clause-safe : goal.look-requires-clause-safe
look-requires-clause-safe g c =
    let law = code_is c.args.p.now c.args.s.now c.args.n c.args.a.0 c.args.code in
    part_safe g.V.View.sense _ _ _ law _ c.requires.safe

pub returns-in_err-d : goal.returns-in_err-d
returns-in_err-d g c =
    let law = code_is c.args.p.now c.args.s.now c.args.n c.args.a.0 c.args.code in
    part_moved g.V.View.sense _ _ _ law c.args.s.now _ _ _ _ c.in_err-d.ensures c.from_residual.ensures.1

pub call_with-requires-clause-live : goal.call_with-requires-clause-live
call_with-requires-clause-live g c =
    live_after g.V.View.sense g.met.V.View.lawful _ _ _ _ c.in_ok-d.ensures c.requires.live

pub call_with-requires-clause-safe : goal.call_with-requires-clause-safe
call_with-requires-clause-safe g c =
    let law = code_is c.args.p.now c.args.s.now c.args.n c.args.a.0 c.args.code in
    safe_as g.V.View.sense _ _ _ (ap (called_with c.args.p.now c.args.s.now c.args.n c.args.code) (sym c.place_in.ensures))
    (more_safe g.V.View.sense _ _ _ law g.met.V.View.lawful _ _ _ c.requires.safe c.in_ok-d.ensures)

pub returns : goal.returns
returns g c =
    let law = code_is c.args.p.now c.args.s.now c.args.n c.args.a.0 c.args.code in
    more_moved g.V.View.sense _ _ _ law c.args.s.now _ _ _ _ _ _ c.in_ok-d.ensures
    (moves_as g.V.View.sense _ _ _ _ _ _ _ (ap (called_with c.args.p.now c.args.s.now c.args.n c.args.code) (sym c.place_in.ensures)) c.call_with.ensures)
