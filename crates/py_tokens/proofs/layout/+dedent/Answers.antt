use Rattle.py_tokens.proofs.Stacks.{kept}
use Rattle.py_tokens.proofs.layout.+dedent.Goals as goal

pub returns-in_ok-push-in-Some : goal.returns-in_ok-push-in-Some
returns-in_ok-push-in-Some t c = kept c.args.place c.args.column c.in-Some.entry _ c.args.stack.now.items _
    c.args.out.now.items c.if-column-entry.true c.in-Some.ensures.items c.in_ok-push-in-Some.ensures.ok
