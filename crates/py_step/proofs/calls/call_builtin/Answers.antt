use Rattle.py_data.proofs.Steps.{live_after}
use Rattle.py_step.proofs.Moving.{as_part, more_moved, more_safe, part_moved, part_safe, still_safe}
use Rattle.py_frames.specs.CallRows as calls
use Rattle.py_step.specs.inner.FastPath.{builtin_row, ended, site}
use Rattle.py_step.proofs.calls.call_builtin.Goals as goal

pub builtin_got-requires-clause-safe : goal.builtin_got-requires-clause-safe
builtin_got-requires-clause-safe g c =
    let law = as_part (builtin_row c.args.s.now c.args.m c.args.own c.args.b)
    (λ g. ended c.args.p.now c.args.s.now c.args.n (calls.answered (site c.args.p.now c.args.s.now) g)) in
    part_safe g.V.View.sense _ _ _ law _ c.requires.safe

pub returns-in_err-got : goal.returns-in_err-got
returns-in_err-got g c =
    let law = as_part (builtin_row c.args.s.now c.args.m c.args.own c.args.b)
    (λ g. ended c.args.p.now c.args.s.now c.args.n (calls.answered (site c.args.p.now c.args.s.now) g)) in
    part_moved g.V.View.sense _ _ _ law c.args.s.now _ _ _ _ c.in_err-got.ensures c.from_residual.ensures.1

pub answered-requires-clause-live : goal.answered-requires-clause-live
answered-requires-clause-live g c =
    live_after g.V.View.sense g.met.V.View.lawful _ _ _ _ c.in_ok-got.ensures c.requires.live

pub answered-requires-clause-safe : goal.answered-requires-clause-safe
answered-requires-clause-safe g c =
    let law = as_part (builtin_row c.args.s.now c.args.m c.args.own c.args.b)
    (λ g. ended c.args.p.now c.args.s.now c.args.n (calls.answered (site c.args.p.now c.args.s.now) g)) in
    still_safe _ c.args.p.now c.args.s.now c.args.n _ _
    (more_safe g.V.View.sense _ _ _ law g.met.V.View.lawful _ _ _ c.requires.safe c.in_ok-got.ensures)

pub returns : goal.returns
returns g c =
    let law = as_part (builtin_row c.args.s.now c.args.m c.args.own c.args.b)
    (λ g. ended c.args.p.now c.args.s.now c.args.n (calls.answered (site c.args.p.now c.args.s.now) g)) in
    more_moved g.V.View.sense _ _ _ law c.args.s.now _ _ _ _ _ _ c.in_ok-got.ensures c.answered.ensures
