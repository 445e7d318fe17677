use Rattle.py_tokens.proofs.Stacks.{no_more}
use Rattle.py_tokens.proofs.layout.indent.Goals as goal

pub returns-else-entry-column : goal.returns-else-entry-column
returns-else-entry-column c = no_more c.dedent.result c.args.place c.args.column c.in-Some.entry _ _ _ _ _ _
    c.if-entry-column.false c.in-Some.ensures.items c.in_ok-push-in-Some.ensures.ok c.dedent.ensures
