use Rattle.std.proofs.Common.{ap}
use Rattle.py_frames.specs.Raising as raising
use Rattle.py_frames.specs.State as state
use Rattle.py_step.specs.inner.FastPath.{ended}
use Rattle.py_step.proofs.FastPaths.{builtin_is}
use Rattle.py_step.proofs.Moving.{moves_as, safe_as}
use Rattle.py_step.proofs.fast.unbound.Goals as goal

pub give_constant-requires-clause-safe : goal.give_constant-requires-clause-safe
give_constant-requires-clause-safe g c = safe_as g.V.View.sense _ _ _ (builtin_is c.args.p.now
    (raising.place_of c.args.s.now.roots) (state.root_name c.args.p.now c.args.g) c.in-Some.c c.in-Some.ensures)
    c.requires.safe

pub returns-in-Some : goal.returns-in-Some
returns-in-Some g c =
    moves_as g.V.View.sense _ _ _ _ _ _ _ (ap (ended c.args.p.now c.args.s.now 0) (builtin_is c.args.p.now
    (raising.place_of c.args.s.now.roots) (state.root_name c.args.p.now c.args.g) c.in-Some.c c.in-Some.ensures))
    c.give_constant.ensures
