use Rattle.std.proofs.Common.{◌∙◌, ap}
use Rattle.py_data.proofs.Steps.{live_after}
use Rattle.py_frames.specs.Raising as raising
use Rattle.py_step.proofs.FastPaths.{method_by_is}
use Rattle.py_step.proofs.Moving.{more_moved, more_safe, part_moved, part_safe, still_safe}
use Rattle.py_step.proofs.fast.method_by.Goals as goal

pub find_attr-requires-clause-safe : goal.find_attr-requires-clause-safe
find_attr-requires-clause-safe g c =
    let law = method_by_is c.args.p.now c.args.s.now _
    (c.place_of.ensures ∙ ap raising.place_of c.roots.ensures)
    c.args.o c.args.name.0 in
    part_safe g.V.View.sense _ _ _ law _ c.requires.safe

pub returns-in_err-found : goal.returns-in_err-found
returns-in_err-found g c =
    let law = method_by_is c.args.p.now c.args.s.now _
    (c.place_of.ensures ∙ ap raising.place_of c.roots.ensures)
    c.args.o c.args.name.0 in
    part_moved g.V.View.sense _ _ _ law c.args.s.now _ _ _ _ c.in_err-found.ensures c.from_residual.ensures.1

pub found_method-requires-clause-live : goal.found_method-requires-clause-live
found_method-requires-clause-live g c =
    live_after g.V.View.sense g.met.V.View.lawful _ _ _ _ c.in_ok-found.ensures c.requires.live

pub found_method-requires-clause-safe : goal.found_method-requires-clause-safe
found_method-requires-clause-safe g c =
    let law = method_by_is c.args.p.now c.args.s.now _
    (c.place_of.ensures ∙ ap raising.place_of c.roots.ensures)
    c.args.o c.args.name.0 in
    still_safe _ c.args.p.now c.args.s.now 1 _ _
    (more_safe g.V.View.sense _ _ _ law g.met.V.View.lawful _ _ _ c.requires.safe c.in_ok-found.ensures)

pub returns : goal.returns
returns g c =
    let law = method_by_is c.args.p.now c.args.s.now _
    (c.place_of.ensures ∙ ap raising.place_of c.roots.ensures)
    c.args.o c.args.name.0 in
    more_moved g.V.View.sense _ _ _ law c.args.s.now _ _ _ _ _ _ c.in_ok-found.ensures c.found_method.ensures
