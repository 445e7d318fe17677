use Rattle.std.proofs.Common.{ap}
use Rattle.py_frames.specs.Raising as raising
use Rattle.py_step.proofs.FastPaths.{done_raise, done_nothing}
use Rattle.py_step.proofs.Moving.{give_moved, moves_as, safe_as}
use Rattle.py_step.specs.inner.FastPath.{ended}
use Rattle.py_step.proofs.ends.done.Goals as goal

pub raised-requires-clause-safe : goal.raised-requires-clause-safe
raised-requires-clause-safe g c =
    safe_as g.V.View.sense _ _ _ (done_raise c.args.p.now c.args.s.now c.args.n
    (raising.place_of c.args.s.now.roots) c.args.got c.in-Raise.e
    c.in-Raise.is) c.requires.safe

pub returns-in-Is : goal.returns-in-Is
returns-in-Is g c =
    moves_as g.V.View.sense _ _ _ _ _ _ _ (done_nothing c.args.p.now c.args.s.now c.args.n
    (raising.place_of c.args.s.now.roots) c.args.got _ c.in-Is.is)
    (give_moved g.V.View.sense c.args.p.now c.args.s.now c.args.n _ _ _ _ c.requires.some c.give_none.ensures.ok
    c.give_none.ensures.cause c.give_none.ensures.err)

pub returns-in-Raise : goal.returns-in-Raise
returns-in-Raise g c =
    moves_as g.V.View.sense _ _ _ _ _ _ _ (ap (ended c.args.p.now c.args.s.now c.args.n) (done_raise c.args.p.now c.args.s.now c.args.n
    (raising.place_of c.args.s.now.roots) c.args.got
    c.in-Raise.e c.in-Raise.is)) c.raised.ensures
