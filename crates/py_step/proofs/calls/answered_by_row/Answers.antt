use Rattle.py_frames.specs.CallRows as calls
use Rattle.py_step.specs.inner.FastPath.{ending, site}
use Rattle.py_step.proofs.Moving.{more_moved, part_moved, settle_moved, as_part}
use Rattle.py_step.proofs.calls.answered_by_row.Goals as goal

pub returns-in_err-next : goal.returns-in_err-next
returns-in_err-next g c =
    let law = as_part (calls.answered (site c.args.p.now c.args.s.now) c.args.got)
    (ending c.args.p.now c.args.s.now c.args.n) in
    part_moved g.V.View.sense _ _ _ law c.args.s.now _ _ _ _ c.in_err-next.ensures c.from_residual.ensures.1

pub returns : goal.returns
returns g c =
    let law = as_part (calls.answered (site c.args.p.now c.args.s.now) c.args.got)
    (ending c.args.p.now c.args.s.now c.args.n) in
    more_moved g.V.View.sense _ _ _ law c.args.s.now _ _ _ _ _ _ c.in_ok-next.ensures
    (settle_moved g.V.View.sense c.args.p.now c.args.s.now c.args.n _ _ _ _ c.requires.some c.settle.ensures.ok c.settle.ensures.cause
    c.settle.ensures.err)
