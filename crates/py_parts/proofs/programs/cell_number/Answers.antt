use Rattle.std.proofs.Common.{◌≡◌, ◌∙◌, ap, subst, drop, IfOk}
use Rattle.py_code.specs.Right.{cells_of}
use Rattle.py_parts.proofs.Places.{cell_numbered}
use Rattle.py_parts.proofs.programs.cell_number.Goals as goal

pub returns : goal.returns
returns c =
    subst (λ z. IfOk c.cell_from.result (λ o. o ≡ z))
    (cell_numbered c.args.p.now c.args.name.now _ _ c.in_ok-first.ensures
    (c.after_cell.ensures ∙ ap (λ rs. drop 1 (cells_of rs)) c.as_slice.ensures))
    c.cell_from.ensures
