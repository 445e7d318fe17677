use Rattle.std.proofs.Common.{◌∙◌, sym, ap}
use Rattle.py_data.proofs.Steps.{live_after}
use Rattle.py_frames.specs.Raising as raising
use Rattle.py_step.proofs.FastPaths.{attr_method_is}
use Rattle.py_step.proofs.Moving.{more_moved, more_safe, moves_as, part_moved, part_safe, safe_as}
use Rattle.py_step.specs.inner.FastPath.{method_by}
use Rattle.py_step.proofs.fast.attr_method.Goals as goal

pub look-requires-clause-safe : goal.look-requires-clause-safe
look-requires-clause-safe g c =
    let law = attr_method_is c.args.p.now c.args.s.now _
    (c.place_of.ensures ∙ ap raising.place_of c.roots.ensures)
    c.args.n c.args.o in
    part_safe g.V.View.sense _ _ _ law _ c.requires.safe

pub returns-in_err-name : goal.returns-in_err-name
returns-in_err-name g c =
    let law = attr_method_is c.args.p.now c.args.s.now _
    (c.place_of.ensures ∙ ap raising.place_of c.roots.ensures)
    c.args.n c.args.o in
    part_moved g.V.View.sense _ _ _ law c.args.s.now _ _ _ _ c.in_err-name.ensures c.from_residual.ensures.1

pub method_by-requires-clause-live : goal.method_by-requires-clause-live
method_by-requires-clause-live g c =
    live_after g.V.View.sense g.met.V.View.lawful _ _ _ _ c.in_ok-name.ensures c.requires.live

pub method_by-requires-clause-safe : goal.method_by-requires-clause-safe
method_by-requires-clause-safe g c =
    let law = attr_method_is c.args.p.now c.args.s.now _
    (c.place_of.ensures ∙ ap raising.place_of c.roots.ensures)
    c.args.n c.args.o in
    safe_as g.V.View.sense _ _ _ (ap (method_by c.args.p.now c.args.s.now c.args.o) (sym c.place_in.ensures))
    (more_safe g.V.View.sense _ _ _ law g.met.V.View.lawful _ _ _ c.requires.safe c.in_ok-name.ensures)

pub returns : goal.returns
returns g c =
    let law = attr_method_is c.args.p.now c.args.s.now _
    (c.place_of.ensures ∙ ap raising.place_of c.roots.ensures)
    c.args.n c.args.o in
    more_moved g.V.View.sense _ _ _ law c.args.s.now _ _ _ _ _ _ c.in_ok-name.ensures
    (moves_as g.V.View.sense _ _ _ _ _ _ _ (ap (method_by c.args.p.now c.args.s.now c.args.o) (sym c.place_in.ensures)) c.method_by.ensures)
