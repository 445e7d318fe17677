use Rattle.py_data.proofs.Steps.{live_after}
use Rattle.py_step.proofs.FastPaths.{load_item_is}
use Rattle.py_step.proofs.Moving.{more_moved, more_safe, part_moved, part_safe, still_safe}
use Rattle.py_step.proofs.fast.load_item.Goals as goal

pub item_of-requires-clause-safe : goal.item_of-requires-clause-safe
item_of-requires-clause-safe g c =
    let law = load_item_is c.args.p.now c.args.s.now c.args.o c.args.i c.requires.operands c.requires.set.0 c.requires.set.1 in
    part_safe g.V.View.sense _ _ _ law _ c.requires.safe

pub returns-in_err-got : goal.returns-in_err-got
returns-in_err-got g c =
    let law = load_item_is c.args.p.now c.args.s.now c.args.o c.args.i c.requires.operands c.requires.set.0 c.requires.set.1 in
    part_moved g.V.View.sense _ _ _ law c.args.s.now _ _ _ _ c.in_err-got.ensures c.from_residual.ensures.1

pub given-requires-clause-live : goal.given-requires-clause-live
given-requires-clause-live g c =
    live_after g.V.View.sense g.met.V.View.lawful _ _ _ _ c.in_ok-got.ensures c.requires.live

pub given-requires-clause-safe : goal.given-requires-clause-safe
given-requires-clause-safe g c =
    let law = load_item_is c.args.p.now c.args.s.now c.args.o c.args.i c.requires.operands c.requires.set.0 c.requires.set.1 in
    still_safe _ c.args.p.now c.args.s.now 2 _ _
    (more_safe g.V.View.sense _ _ _ law g.met.V.View.lawful _ _ _ c.requires.safe c.in_ok-got.ensures)

pub returns : goal.returns
returns g c =
    let law = load_item_is c.args.p.now c.args.s.now c.args.o c.args.i c.requires.operands c.requires.set.0 c.requires.set.1 in
    more_moved g.V.View.sense _ _ _ law c.args.s.now _ _ _ _ _ _ c.in_ok-got.ensures c.given.ensures
