use Rattle.std.proofs.Common.{◌+◌}
use Rattle.py_frames.specs.CallRows as calls
use Rattle.py_step.specs.inner.FastPath.{arguments, ending, site}
use Rattle.py_step.proofs.Moving.{more_moved, part_moved, part_safe, settle_moved, as_part}
use Rattle.py_step.proofs.calls.call_by_kind.Goals as goal

pub record_next-requires-clause-safe : goal.record_next-requires-clause-safe
record_next-requires-clause-safe g c =
    let law = as_part (calls.record_call (site c.args.p.now c.args.s.now) (arguments c.args.s.now c.args.n) c.args.a.0 c.args.kind)
    (ending c.args.p.now c.args.s.now (c.args.n + 1)) in
    part_safe g.V.View.sense _ _ _ law _ c.requires.safe

pub returns-in_err-next : goal.returns-in_err-next
returns-in_err-next g c =
    let law = as_part (calls.record_call (site c.args.p.now c.args.s.now) (arguments c.args.s.now c.args.n) c.args.a.0 c.args.kind)
    (ending c.args.p.now c.args.s.now (c.args.n + 1)) in
    part_moved g.V.View.sense _ _ _ law c.args.s.now _ _ _ _ c.in_err-next.ensures c.from_residual.ensures.1

pub returns : goal.returns
returns g c =
    let law = as_part (calls.record_call (site c.args.p.now c.args.s.now) (arguments c.args.s.now c.args.n) c.args.a.0 c.args.kind)
    (ending c.args.p.now c.args.s.now (c.args.n + 1)) in
    more_moved g.V.View.sense _ _ _ law c.args.s.now _ _ _ _ _ _ c.in_ok-next.ensures
    (settle_moved g.V.View.sense c.args.p.now c.args.s.now (c.args.n + 1) _ _ _ _ c.requires.some c.settle.ensures.ok c.settle.ensures.cause
    c.settle.ensures.err)
