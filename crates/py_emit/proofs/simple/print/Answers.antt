use Rattle.std.proofs.Common.{rules}
use Rattle.py_emit.specs.inner.State.{no_frames}
use Rattle.py_templates.specs.Expressions.{values}
use Rattle.py_emit.proofs.StmtArms.{print_line_arm}
use Rattle.py_emit.proofs.simple.print.Goals as goal

pub returns-then-comma-clause-done : goal.returns-then-comma-clause-done
returns-then-comma-clause-done c env = rw c.if-comma.true (c.in_ok-print_items.ensures.done env)

pub returns-in_err-put-clause-large : goal.returns-in_err-put-clause-large
returns-in_err-put-clause-large c = let i = (c.in_ok-print_items.ensures.done no_frames).size in
    rw c.if-comma.false (search rules)

pub returns-clause-done : goal.returns-clause-done
returns-clause-done c env = rw c.if-comma.false
    (print_line_arm c.args.line env (values c.args.names.now c.args.line c.args.items.now) c.args.e.now _ _
    (c.in_ok-print_items.ensures.done no_frames) c.in_ok-put.ensures.done)
