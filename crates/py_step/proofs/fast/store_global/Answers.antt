use Rattle.std.proofs.Common.{◌∙◌, ap}
use Rattle.py_frames.specs.Raising as raising
use Rattle.py_step.proofs.FastPaths.{store_global_is}
use Rattle.py_step.proofs.Moving.{give_moved, more_moved, part_moved, part_safe}
use Rattle.py_step.proofs.fast.store_global.Goals as goal

pub set_global-requires-clause-safe : goal.set_global-requires-clause-safe
set_global-requires-clause-safe g c =
    let law = store_global_is c.args.p.now c.args.s.now _
    (c.place_of.ensures ∙ ap raising.place_of c.roots.ensures)
    c.args.g c.args.x c.requires.operands c.requires.set in
    part_safe g.V.View.sense _ _ _ law _ c.requires.safe

pub returns-in_err-_set : goal.returns-in_err-_set
returns-in_err-_set g c =
    let law = store_global_is c.args.p.now c.args.s.now _
    (c.place_of.ensures ∙ ap raising.place_of c.roots.ensures)
    c.args.g c.args.x c.requires.operands c.requires.set in
    part_moved g.V.View.sense _ _ _ law c.args.s.now _ _ _ _ c.in_err-_set.ensures c.from_residual.ensures.1

pub returns : goal.returns
returns g c =
    let law = store_global_is c.args.p.now c.args.s.now _
    (c.place_of.ensures ∙ ap raising.place_of c.roots.ensures)
    c.args.g c.args.x c.requires.operands c.requires.set in
    more_moved g.V.View.sense _ _ _ law c.args.s.now _ _ _ _ _ _ c.in_ok-_set.ensures
    (give_moved g.V.View.sense c.args.p.now c.args.s.now 1 _ _ _ _ c.requires.some c.give_none.ensures.ok
    c.give_none.ensures.cause c.give_none.ensures.err)
