use Rattle.std.proofs.Common.{◌∙◌, ap}
use Rattle.py_frames.specs.Raising as raising
use Rattle.py_step.proofs.FastPaths.{root_is, root_safe}
use Rattle.py_step.proofs.Moving.{give_moved, more_moved, part_moved, part_safe}
use Rattle.py_step.proofs.fast.give_root.Goals as goal

pub look-requires-clause-safe : goal.look-requires-clause-safe
look-requires-clause-safe g c =
    root_safe _ c.args.n _ _ _ (c.place_of.ensures ∙ ap raising.place_of c.roots.ensures) c.requires.safe

pub returns-in_err-x : goal.returns-in_err-x
returns-in_err-x g c =
    let law = root_is c.args.p.now c.args.s.now c.args.n _ (c.place_of.ensures ∙ ap raising.place_of c.roots.ensures) in
    part_moved g.V.View.sense _ _ _ law c.args.s.now _ _ _ _ c.in_err-x.ensures c.from_residual.ensures.1

pub returns : goal.returns
returns g c =
    let law = root_is c.args.p.now c.args.s.now c.args.n _ (c.place_of.ensures ∙ ap raising.place_of c.roots.ensures) in
    more_moved g.V.View.sense _ _ _ law c.args.s.now _ _ _ _ _ _ c.in_ok-x.ensures
    (give_moved g.V.View.sense c.args.p.now c.args.s.now 0 _ _ _ _ c.requires.some c.give_one.ensures.ok
    c.give_one.ensures.cause c.give_one.ensures.err)
