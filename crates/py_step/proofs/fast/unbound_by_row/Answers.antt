use Rattle.std.proofs.Common.{◌∙◌, ap}
use Rattle.py_frames.specs.Raising as raising
use Rattle.py_step.proofs.FastPaths.{unbound_at}
use Rattle.py_step.proofs.Moving.{more_moved, part_moved, settle_moved}
use Rattle.py_step.proofs.fast.unbound_by_row.Goals as goal

pub returns-in_err-next : goal.returns-in_err-next
returns-in_err-next g c =
    let law = unbound_at c.args.p.now _ c.args.s.now c.args.g _ _
    c.program-program.ensures c.root_name-name.ensures (c.place_of.ensures ∙ ap raising.place_of c.roots.ensures) in
    part_moved g.V.View.sense _ _ _ law c.args.s.now _ _ _ _ c.in_err-next.ensures c.from_residual.ensures.1

pub returns : goal.returns
returns g c =
    let law = unbound_at c.args.p.now _ c.args.s.now c.args.g _ _
    c.program-program.ensures c.root_name-name.ensures (c.place_of.ensures ∙ ap raising.place_of c.roots.ensures) in
    more_moved g.V.View.sense _ _ _ law c.args.s.now _ _ _ _ _ _ c.in_ok-next.ensures
    (settle_moved g.V.View.sense c.args.p.now c.args.s.now 0 _ _ _ _ c.requires.some c.settle.ensures.ok c.settle.ensures.cause
    c.settle.ensures.err)
