use Rattle.std.proofs.Common.{rules, map}
use Rattle.py_emit.specs.inner.State.{no_frames}
use Rattle.py_templates.specs.Expressions.{value, values}
use Rattle.py_emit.proofs.Rests.{rest_step, rest_end}
use Rattle.py_emit.proofs.StmtArms.{print_arm}
use Rattle.py_emit.proofs.simple.print_items.Goals as goal
use Rattle.py_templates.specs.Table.{print_one}

pub returns-in_err-expression-clause-large : goal.returns-in_err-expression-clause-large
returns-in_err-expression-clause-large c h = let i = rw c.in-Some.ensures at (c.items.invariant no_frames) in let e =
    i.size in search rules

pub returns-in_err-put-clause-large : goal.returns-in_err-put-clause-large
returns-in_err-put-clause-large c h = let i = rw c.in-Some.ensures at (c.items.invariant no_frames) in let e =
    i.size in search rules

pub items-preserved : goal.items-preserved
items-preserved c env =
    rest_step env c.args.e.now (map (print_one c.args.line) (values c.args.names.now c.args.line c.args.items.now))
    c.items.e c.put.new.self (print_one c.args.line (value c.args.names.now c.args.line c.in-Some.x.now))
    (map (print_one c.args.line) (values c.args.names.now c.args.line c.in-Some.more.now))
    (rw c.in-Some.ensures at (c.items.invariant env))
    (print_arm c.args.line env (value c.args.names.now c.args.line c.in-Some.x.now) c.items.e _ _
    c.in_ok-expression.ensures.done c.in_ok-put.ensures.done)

pub returns-clause-done : goal.returns-clause-done
returns-clause-done c env = rest_end env c.args.e.now
    (map (print_one c.args.line) (values c.args.names.now c.args.line c.args.items.now)) c.items.e
    (rw c.in_default.ensures at (c.items.invariant env))
