use Rattle.std.proofs.Common.{◌∙◌, ap}
use Rattle.py_data.proofs.Steps.{live_after}
use Rattle.py_frames.specs.Raising as raising
use Rattle.py_step.proofs.FastPaths.{store_attr_is}
use Rattle.py_step.proofs.Moving.{more_moved, more_safe, part_moved, part_safe, still_safe}
use Rattle.py_step.proofs.fast.store_attr.Goals as goal

pub set_named_attr-requires-clause-safe : goal.set_named_attr-requires-clause-safe
set_named_attr-requires-clause-safe g c =
    let law = store_attr_is c.args.p.now c.args.s.now _
    (c.place_of.ensures ∙ ap raising.place_of c.roots.ensures)
    c.args.n c.args.x c.args.o c.requires.operands c.requires.set.0 c.requires.set.1 in
    part_safe g.V.View.sense _ _ _ law _ c.requires.safe

pub returns-in_err-got : goal.returns-in_err-got
returns-in_err-got g c =
    let law = store_attr_is c.args.p.now c.args.s.now _
    (c.place_of.ensures ∙ ap raising.place_of c.roots.ensures)
    c.args.n c.args.x c.args.o c.requires.operands c.requires.set.0 c.requires.set.1 in
    part_moved g.V.View.sense _ _ _ law c.args.s.now _ _ _ _ c.in_err-got.ensures c.from_residual.ensures.1

pub done-requires-clause-live : goal.done-requires-clause-live
done-requires-clause-live g c =
    live_after g.V.View.sense g.met.V.View.lawful _ _ _ _ c.in_ok-got.ensures c.requires.live

pub done-requires-clause-safe : goal.done-requires-clause-safe
done-requires-clause-safe g c =
    let law = store_attr_is c.args.p.now c.args.s.now _
    (c.place_of.ensures ∙ ap raising.place_of c.roots.ensures)
    c.args.n c.args.x c.args.o c.requires.operands c.requires.set.0 c.requires.set.1 in
    still_safe _ c.args.p.now c.args.s.now 2 _ _
    (more_safe g.V.View.sense _ _ _ law g.met.V.View.lawful _ _ _ c.requires.safe c.in_ok-got.ensures)

pub returns : goal.returns
returns g c =
    let law = store_attr_is c.args.p.now c.args.s.now _
    (c.place_of.ensures ∙ ap raising.place_of c.roots.ensures)
    c.args.n c.args.x c.args.o c.requires.operands c.requires.set.0 c.requires.set.1 in
    more_moved g.V.View.sense _ _ _ law c.args.s.now _ _ _ _ _ _ c.in_ok-got.ensures c.done.ensures
