use Rattle.py_frames.specs.Raising as raising
use Rattle.py_frames.specs.State as state
use Rattle.py_step.proofs.FastPaths.{bound_value}
use Rattle.py_step.proofs.Moving.{give_moved, moves_as}
use Rattle.py_step.proofs.fast.bound.Goals as goal

pub returns-in_default : goal.returns-in_default
returns-in_default g c =
    moves_as g.V.View.sense _ _ _ _ _ _ _ (bound_value c.args.p.now c.args.s.now
    (raising.place_of c.args.s.now.roots) (state.root_name c.args.p.now c.args.g) c.args.x c.in_default.not-Unset)
    (give_moved g.V.View.sense c.args.p.now c.args.s.now 0 _ _ _ _ c.requires.some c.give_one.ensures.ok
    c.give_one.ensures.cause c.give_one.ensures.err)
