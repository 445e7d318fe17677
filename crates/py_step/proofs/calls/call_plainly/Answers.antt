use Rattle.std.proofs.Common.{◌+◌}
use Rattle.py_step.proofs.FastPaths.{plainly_is}
use Rattle.py_step.proofs.Moving.{give_moved, more_moved, part_moved, part_safe}
use Rattle.py_step.proofs.calls.call_plainly.Goals as goal

pub size-requires-clause-safe : goal.size-requires-clause-safe
size-requires-clause-safe g c =
    let law = plainly_is c.args.p.now c.args.s.now c.args.n c.args.code c.args.d.0 _ c.requires.plain
    c.requires.some c.requires.few in
    part_safe g.V.View.sense _ _ _ law _ c.requires.safe

pub returns-in_err-_count : goal.returns-in_err-_count
returns-in_err-_count g c =
    let law = plainly_is c.args.p.now c.args.s.now c.args.n c.args.code c.args.d.0 _ c.requires.plain
    c.requires.some c.requires.few in
    part_moved g.V.View.sense _ _ _ law c.args.s.now _ _ _ _ c.in_err-_count.ensures.met c.from_residual.ensures.1

pub returns : goal.returns
returns g c =
    let law = plainly_is c.args.p.now c.args.s.now c.args.n c.args.code c.args.d.0 _ c.requires.plain
    c.requires.some c.requires.few in
    more_moved g.V.View.sense _ _ _ law c.args.s.now _ _ _ _ _ _ c.in_ok-_count.ensures.met
    (give_moved g.V.View.sense c.args.p.now c.args.s.now (c.args.n + 1) _ _ _ _ c.requires.some c.enter_plain.ensures.ok
    c.enter_plain.ensures.cause c.enter_plain.ensures.err)
