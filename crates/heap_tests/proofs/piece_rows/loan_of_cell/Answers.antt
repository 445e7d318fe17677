use Rattle.std.proofs.Common.{List, ap, ◌∙◌, rules}
use Rattle.py_data.specs.declared.value.Addr.{Addr}
use Rattle.lock_run.specs.declared.script.ScriptState.TheVariants.{Acts}
use Rattle.stm_pieces.specs.PieceState.{PieceState}
use Rattle.heap_tests.proofs.ScriptStands.{cell_stands}
use Rattle.heap_tests.proofs.piece_rows.loan_of_cell.Goals as goal

pub add-requires : goal.add-requires
add-requires c = record { fresh = ap (λ (z : PieceState). z.heap 1) c.new-loan.ensures.view }

pub returns-clause-stands : goal.returns-clause-stands
returns-clause-stands c = cell_stands _ _ 0 c.args.done _ _ c.in_ok-one_value.field-0
    (c.in_ok-add.ensures.state ∙ c.new-loan.ensures.state ∙
    ap (λ (cells : List Addr). Acts 0 c.args.done cells (record { 0 = 2 })) c.in_ok-from_slice.ensures)
    (ap (λ (z : PieceState). z.heap 1) c.in_ok-add.ensures.ok)
    (search rules)
    (ap (λ (z : PieceState). z.heap 2) c.in_ok-add.ensures.ok ∙
    ap (λ (z : PieceState). z.heap 2) c.new-loan.ensures.view)
