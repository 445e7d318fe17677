use Rattle.std.proofs.Common.{◌+◌}
use Rattle.py_step.specs.inner.FastPath.{ending, function_row}
use Rattle.py_step.proofs.Moving.{more_moved, part_moved, part_safe, settle_moved, as_part}
use Rattle.py_step.proofs.calls.call_by_row.Goals as goal

pub function_next-requires-clause-safe : goal.function_next-requires-clause-safe
function_next-requires-clause-safe g c =
    let law = as_part (function_row c.args.p.now c.args.s.now c.args.n c.args.code c.args.d.0)
    (ending c.args.p.now c.args.s.now (c.args.n + 1)) in
    part_safe g.V.View.sense _ _ _ law _ c.requires.safe

pub returns-in_err-next : goal.returns-in_err-next
returns-in_err-next g c =
    let law = as_part (function_row c.args.p.now c.args.s.now c.args.n c.args.code c.args.d.0)
    (ending c.args.p.now c.args.s.now (c.args.n + 1)) in
    part_moved g.V.View.sense _ _ _ law c.args.s.now _ _ _ _ c.in_err-next.ensures c.from_residual.ensures.1

pub returns : goal.returns
returns g c =
    let law = as_part (function_row c.args.p.now c.args.s.now c.args.n c.args.code c.args.d.0)
    (ending c.args.p.now c.args.s.now (c.args.n + 1)) in
    more_moved g.V.View.sense _ _ _ law c.args.s.now _ _ _ _ _ _ c.in_ok-next.ensures
    (settle_moved g.V.View.sense c.args.p.now c.args.s.now (c.args.n + 1) _ _ _ _ c.requires.some c.settle.ensures.ok c.settle.ensures.cause
    c.settle.ensures.err)
