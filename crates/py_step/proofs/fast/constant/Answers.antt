use Rattle.py_step.proofs.FastPaths.{const_is}
use Rattle.py_step.proofs.Moving.{moves_as, safe_as, still_safe}
use Rattle.py_step.proofs.fast.constant.Goals as goal

pub give_constant-requires-clause-safe : goal.give_constant-requires-clause-safe
give_constant-requires-clause-safe g c =
    still_safe _ c.args.p.now c.args.s.now 0 _ _
    (safe_as g.V.View.sense _ _ _ (const_is c.args.p.now c.args.s.now c.args.c) c.requires.safe)

pub returns : goal.returns
returns g c =
    moves_as g.V.View.sense _ _ _ _ _ _ _ (const_is c.args.p.now c.args.s.now c.args.c) c.give_constant.ensures
