use Rattle.std.proofs.Common.{drop}
use Rattle.py_states.specs.Innermost.{innermost}
use Rattle.py_step.proofs.Moving.{more_moved, part_moved, part_safe, settle_moved, by_row_is, pops_of}
use Rattle.py_step.proofs.step.go_by_row.Goals as goal

pub next_of-requires-clause-safe : goal.next_of-requires-clause-safe
next_of-requires-clause-safe g c =
    let law = by_row_is c.args.p.now c.args.s.now (innermost c.args.s.now.frames) (drop 1 c.args.s.now.frames)
    c.args.i _ (pops_of _ _ (innermost c.args.s.now.frames) c.args.i _ c.program-program.ensures c.pops-n.ensures) in
    part_safe g.V.View.sense _ _ _ law _ c.requires.safe

pub returns-in_err-next : goal.returns-in_err-next
returns-in_err-next g c =
    let law = by_row_is c.args.p.now c.args.s.now (innermost c.args.s.now.frames) (drop 1 c.args.s.now.frames)
    c.args.i _ (pops_of _ _ (innermost c.args.s.now.frames) c.args.i _ c.program-program.ensures c.pops-n.ensures) in
    part_moved g.V.View.sense _ _ _ law c.args.s.now _ _ _ _ c.in_err-next.ensures c.from_residual.ensures.1

pub returns : goal.returns
returns g c =
    let law = by_row_is c.args.p.now c.args.s.now (innermost c.args.s.now.frames) (drop 1 c.args.s.now.frames)
    c.args.i _ (pops_of _ _ (innermost c.args.s.now.frames) c.args.i _ c.program-program.ensures c.pops-n.ensures) in
    more_moved g.V.View.sense _ _ _ law c.args.s.now _ _ _ _ _ _ c.in_ok-next.ensures
    (settle_moved g.V.View.sense c.args.p.now c.args.s.now c.pops-n.result _ _ _ _ c.requires.some c.settle.ensures.ok c.settle.ensures.cause
    c.settle.ensures.err)
