use Rattle.std.proofs.Common.{◌∙◌, ap}
use Rattle.py_data.proofs.Steps.{live_after}
use Rattle.py_frames.specs.Raising as raising
use Rattle.py_step.proofs.FastPaths.{load_global_is}
use Rattle.py_step.proofs.Moving.{more_moved, more_safe, part_moved, part_safe, still_safe}
use Rattle.py_step.proofs.fast.load_global.Goals as goal

pub global_value-requires-clause-safe : goal.global_value-requires-clause-safe
global_value-requires-clause-safe g c =
    let law = load_global_is c.args.p.now c.args.s.now _
    (c.place_of.ensures ∙ ap raising.place_of c.roots.ensures)
    c.args.g in
    part_safe g.V.View.sense _ _ _ law _ c.requires.safe

pub returns-in_err-x : goal.returns-in_err-x
returns-in_err-x g c =
    let law = load_global_is c.args.p.now c.args.s.now _
    (c.place_of.ensures ∙ ap raising.place_of c.roots.ensures)
    c.args.g in
    part_moved g.V.View.sense _ _ _ law c.args.s.now _ _ _ _ c.in_err-x.ensures c.from_residual.ensures.1

pub bound-requires-clause-live : goal.bound-requires-clause-live
bound-requires-clause-live g c =
    live_after g.V.View.sense g.met.V.View.lawful _ _ _ _ c.in_ok-x.ensures c.requires.live

pub bound-requires-clause-safe : goal.bound-requires-clause-safe
bound-requires-clause-safe g c =
    let law = load_global_is c.args.p.now c.args.s.now _
    (c.place_of.ensures ∙ ap raising.place_of c.roots.ensures)
    c.args.g in
    still_safe _ c.args.p.now c.args.s.now 0 _ _
    (more_safe g.V.View.sense _ _ _ law g.met.V.View.lawful _ _ _ c.requires.safe c.in_ok-x.ensures)

pub returns : goal.returns
returns g c =
    let law = load_global_is c.args.p.now c.args.s.now _
    (c.place_of.ensures ∙ ap raising.place_of c.roots.ensures)
    c.args.g in
    more_moved g.V.View.sense _ _ _ law c.args.s.now _ _ _ _ _ _ c.in_ok-x.ensures c.bound.ensures
