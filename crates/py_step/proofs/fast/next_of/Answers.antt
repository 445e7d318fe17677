use Rattle.py_data.proofs.Steps.{live_after}
use Rattle.py_step.proofs.FastPaths.{next_is}
use Rattle.py_step.proofs.Moving.{more_moved, more_safe, part_moved, part_safe, still_safe}
use Rattle.py_step.proofs.fast.next_of.Goals as goal

pub next-requires-clause-safe : goal.next-requires-clause-safe
next-requires-clause-safe g c =
    let law = next_is c.args.p.now c.args.s.now c.args.place c.args.a c.requires.operand in
    part_safe g.V.View.sense _ _ _ law _ c.requires.safe

pub returns-in_err-got : goal.returns-in_err-got
returns-in_err-got g c =
    let law = next_is c.args.p.now c.args.s.now c.args.place c.args.a c.requires.operand in
    part_moved g.V.View.sense _ _ _ law c.args.s.now _ _ _ _ c.in_err-got.ensures c.from_residual.ensures.1

pub next_or_end-requires-clause-live : goal.next_or_end-requires-clause-live
next_or_end-requires-clause-live g c =
    live_after g.V.View.sense g.met.V.View.lawful _ _ _ _ c.in_ok-got.ensures c.requires.live

pub next_or_end-requires-clause-safe : goal.next_or_end-requires-clause-safe
next_or_end-requires-clause-safe g c =
    let law = next_is c.args.p.now c.args.s.now c.args.place c.args.a c.requires.operand in
    still_safe _ c.args.p.now c.args.s.now 1 _ _
    (more_safe g.V.View.sense _ _ _ law g.met.V.View.lawful _ _ _ c.requires.safe c.in_ok-got.ensures)

pub returns : goal.returns
returns g c =
    let law = next_is c.args.p.now c.args.s.now c.args.place c.args.a c.requires.operand in
    more_moved g.V.View.sense _ _ _ law c.args.s.now _ _ _ _ _ _ c.in_ok-got.ensures c.next_or_end.ensures
