use Rattle.std.proofs.Common.{ap, ◌∙◌}
use Rattle.py_frames.specs.AttrInstrs.{found_method}
use Rattle.py_frames.specs.Raising as raising
use Rattle.py_step.proofs.FastPaths.{found_is}
use Rattle.py_step.proofs.Moving.{give_moved, moves_as, safe_as}
use Rattle.py_step.specs.inner.FastPath.{ended}
use Rattle.py_step.proofs.fast.found_method.Goals as goal

pub no_method-requires-clause-safe : goal.no_method-requires-clause-safe
no_method-requires-clause-safe g c =
    safe_as g.V.View.sense _ _ _ (ap (found_method (raising.place_of c.args.s.now.roots) c.args.o c.args.name.0) c.in-None.is)
    c.requires.safe

pub returns-in-Some : goal.returns-in-Some
returns-in-Some g c =
    moves_as g.V.View.sense _ _ _ _ _ _ _ (ap (λ z. ended c.args.p.now c.args.s.now 1
    (found_method (raising.place_of c.args.s.now.roots) c.args.o c.args.name.0 z)) c.in-Some.is
    ∙ found_is c.args.p.now c.args.s.now (raising.place_of c.args.s.now.roots) c.args.o c.args.name.0
    c.in-Some.found)
    (give_moved g.V.View.sense c.args.p.now c.args.s.now 1 _ _ _ _ c.requires.some c.give_found.ensures.ok
    c.give_found.ensures.cause c.give_found.ensures.err)

pub returns-in-None : goal.returns-in-None
returns-in-None g c =
    moves_as g.V.View.sense _ _ _ _ _ _ _ (ap (λ z. ended c.args.p.now c.args.s.now 1
    (found_method (raising.place_of c.args.s.now.roots) c.args.o c.args.name.0 z)) c.in-None.is) c.no_method.ensures
