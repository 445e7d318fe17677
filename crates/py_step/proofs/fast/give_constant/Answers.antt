use Rattle.std.proofs.Common.{sym, ap, ◌∙◌}
use Rattle.py_frames.specs.LocalRows.{const_row}
use Rattle.py_frames.specs.Raising as raising
use Rattle.py_step.specs.inner.FastPath.{ended}
use Rattle.py_step.proofs.FastPaths.{constant_is}
use Rattle.py_step.proofs.Moving.{give_moved, moves_as}
use Rattle.py_step.proofs.fast.give_constant.Goals as goal

pub returns-in-Some : goal.returns-in-Some
returns-in-Some g c =
    moves_as g.V.View.sense _ _ _ _ _ _ _ (constant_is c.args.p.now c.args.s.now (raising.place_of c.args.s.now.roots)
    c.args.c c.in-Some.value (sym c.value_of.ensures ∙ c.in-Some.is))
    (give_moved g.V.View.sense c.args.p.now c.args.s.now 0 _ _ _ _ c.requires.some c.give_one.ensures.ok
    c.give_one.ensures.cause c.give_one.ensures.err)

pub returns-in-None : goal.returns-in-None
returns-in-None g c =
    moves_as g.V.View.sense _ _ _ _ _ _ _ (ap (λ d. ended c.args.p.now c.args.s.now 0
    (const_row (raising.place_of c.args.s.now.roots) d)) c.root_in.ensures) c.give_root.ensures
