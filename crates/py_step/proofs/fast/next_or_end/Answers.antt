use Rattle.std.proofs.Common.{ap}
use Rattle.py_frames.specs.BuildRows as builds
use Rattle.py_frames.specs.Raising as raising
use Rattle.py_step.proofs.FastPaths.{item_moved, next_raise}
use Rattle.py_step.proofs.Moving.{moves_as, safe_as}
use Rattle.py_step.specs.inner.FastPath.{ended}
use Rattle.py_step.proofs.fast.next_or_end.Goals as goal

pub raised-requires-clause-safe : goal.raised-requires-clause-safe
raised-requires-clause-safe g c =
    safe_as g.V.View.sense _ _ _ (next_raise (raising.place_of c.args.s.now.roots)
    c.args.place c.args.it c.args.got c.in-Raise.e c.in-Raise.is)
    c.requires.safe

pub returns-in-Is : goal.returns-in-Is
returns-in-Is g c =
    moves_as g.V.View.sense _ _ _ _ _ _ _ (ap (λ g. ended c.args.p.now c.args.s.now 1
    (builds.next_or_end (raising.place_of c.args.s.now.roots) c.args.place c.args.it g)) c.in-Is.is)
    (item_moved g.V.View.sense c.args.p.now c.args.s.now (raising.place_of c.args.s.now.roots) c.args.place c.args.it c.in-Is.o
    _ _ _ c.requires.operand c.requires.some c.end_by_item.ensures.ok c.end_by_item.ensures.cause
    c.end_by_item.ensures.err)

pub returns-in-Raise : goal.returns-in-Raise
returns-in-Raise g c =
    moves_as g.V.View.sense _ _ _ _ _ _ _ (ap (ended c.args.p.now c.args.s.now 1) (next_raise
    (raising.place_of c.args.s.now.roots)
    c.args.place c.args.it c.args.got c.in-Raise.e c.in-Raise.is)) c.raised.ensures
