use Rattle.py_data.proofs.Steps.{live_after}
use Rattle.py_step.proofs.Moving.{as_part, more_moved, more_safe, part_moved, part_safe}
use Rattle.py_data.specs.Looking.{kind_row}
use Rattle.py_step.specs.inner.FastPath.{called_as}
use Rattle.py_step.proofs.calls.call_record.Goals as goal

pub kind-requires-clause-safe : goal.kind-requires-clause-safe
kind-requires-clause-safe g c =
    let law = as_part (kind_row c.args.a.0)
    (called_as c.args.p.now c.args.s.now c.args.n c.args.a.0) in
    part_safe g.V.View.sense _ _ _ law _ c.requires.safe

pub returns-in_err-kind : goal.returns-in_err-kind
returns-in_err-kind g c =
    let law = as_part (kind_row c.args.a.0)
    (called_as c.args.p.now c.args.s.now c.args.n c.args.a.0) in
    part_moved g.V.View.sense _ _ _ law c.args.s.now _ _ _ _ c.in_err-kind.ensures c.from_residual.ensures.1

pub call_as-requires-clause-live : goal.call_as-requires-clause-live
call_as-requires-clause-live g c =
    live_after g.V.View.sense g.met.V.View.lawful _ _ _ _ c.in_ok-kind.ensures c.requires.live

pub call_as-requires-clause-safe : goal.call_as-requires-clause-safe
call_as-requires-clause-safe g c =
    let law = as_part (kind_row c.args.a.0)
    (called_as c.args.p.now c.args.s.now c.args.n c.args.a.0) in
    more_safe g.V.View.sense _ _ _ law g.met.V.View.lawful _ _ _ c.requires.safe c.in_ok-kind.ensures

pub returns : goal.returns
returns g c =
    let law = as_part (kind_row c.args.a.0)
    (called_as c.args.p.now c.args.s.now c.args.n c.args.a.0) in
    more_moved g.V.View.sense _ _ _ law c.args.s.now _ _ _ _ _ _ c.in_ok-kind.ensures c.call_as.ensures
