use Rattle.std.proofs.Common.{ap, ◌∙◌}
use Rattle.py_tree.specs.declared.writer.Writer.{Writer}
use Rattle.py_tree.specs.Canonical.{in_order, pieces}
use Rattle.py_tree.specs.inner.Page.{pen_of, put_all}
use Rattle.std.specs.Prelude.{false}
use Rattle.py_tree.proofs.Sheets.{text_written}
use Rattle.py_tree.proofs.block.module_text.Goals as goal

pub returns : goal.returns
returns c =
    c.into_text.ensures
    ∙ text_written c.new-w.result c.statements.new.w c.args.m.now (ap (λ (z : Writer). z.text) c.new-w.ensures)
    (ap pen_of c.new-w.ensures)
    (c.in_ok-statements.ensures ∙ ap (λ z. put_all c.new-w.result (in_order false (pieces z))) c.as_slice.ensures)
