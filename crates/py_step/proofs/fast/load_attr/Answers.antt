use Rattle.std.proofs.Common.{◌∙◌, ap}
use Rattle.py_data.proofs.Steps.{live_after}
use Rattle.py_frames.specs.Raising as raising
use Rattle.py_step.proofs.FastPaths.{load_attr_is}
use Rattle.py_step.proofs.Moving.{more_moved, more_safe, part_moved, part_safe, still_safe}
use Rattle.py_step.proofs.fast.load_attr.Goals as goal

pub named_attr-requires-clause-safe : goal.named_attr-requires-clause-safe
named_attr-requires-clause-safe g c =
    let law = load_attr_is c.args.p.now c.args.s.now _
    (c.place_of.ensures ∙ ap raising.place_of c.roots.ensures)
    c.args.n c.args.o c.requires.operands c.requires.set in
    part_safe g.V.View.sense _ _ _ law _ c.requires.safe

pub returns-in_err-got : goal.returns-in_err-got
returns-in_err-got g c =
    let law = load_attr_is c.args.p.now c.args.s.now _
    (c.place_of.ensures ∙ ap raising.place_of c.roots.ensures)
    c.args.n c.args.o c.requires.operands c.requires.set in
    part_moved g.V.View.sense _ _ _ law c.args.s.now _ _ _ _ c.in_err-got.ensures c.from_residual.ensures.1

pub given-requires-clause-live : goal.given-requires-clause-live
given-requires-clause-live g c =
    live_after g.V.View.sense g.met.V.View.lawful _ _ _ _ c.in_ok-got.ensures c.requires.live

pub given-requires-clause-safe : goal.given-requires-clause-safe
given-requires-clause-safe g c =
    let law = load_attr_is c.args.p.now c.args.s.now _
    (c.place_of.ensures ∙ ap raising.place_of c.roots.ensures)
    c.args.n c.args.o c.requires.operands c.requires.set in
    still_safe _ c.args.p.now c.args.s.now 1 _ _
    (more_safe g.V.View.sense _ _ _ law g.met.V.View.lawful _ _ _ c.requires.safe c.in_ok-got.ensures)

pub returns : goal.returns
returns g c =
    let law = load_attr_is c.args.p.now c.args.s.now _
    (c.place_of.ensures ∙ ap raising.place_of c.roots.ensures)
    c.args.n c.args.o c.requires.operands c.requires.set in
    more_moved g.V.View.sense _ _ _ law c.args.s.now _ _ _ _ _ _ c.in_ok-got.ensures c.given.ensures
