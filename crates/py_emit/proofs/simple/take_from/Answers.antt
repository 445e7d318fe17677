use Rattle.std.proofs.Common.{rules}
use Rattle.py_emit.specs.inner.State.{no_frames}
use Rattle.py_emit.proofs.Rests.{rest_step, rest_end}
use Rattle.py_emit.proofs.StmtArms.{import_arm}
use Rattle.py_emit.proofs.simple.take_from.Goals as goal
use Rattle.py_templates.specs.Statements.{taken_from, bound_name}
use Rattle.py_templates.specs.Names.{home, member}

pub returns-in_err-put-clause-large : goal.returns-in_err-put-clause-large
returns-in_err-put-clause-large c h = let i = rw c.in-Some.ensures at (c.items.invariant no_frames) in let e =
    i.size in search rules

pub returns-in_err-put-2-clause-large : goal.returns-in_err-put-2-clause-large
returns-in_err-put-2-clause-large c h = let i = rw c.in-Some.ensures at (c.items.invariant no_frames) in let e =
    i.size in search rules

pub items-preserved : goal.items-preserved
items-preserved c env =
    rest_step env c.args.e.now (taken_from c.args.names.now c.args.line c.args.items.now) c.items.e
    c.put-in-Some.new.self _ (taken_from c.args.names.now c.args.line c.in-Some.more.now)
    (rw c.in-Some.ensures at (c.items.invariant env))
    (import_arm c.args.line env (member c.in-Some.x.now.name)
    (home c.args.names.now (bound_name c.in-Some.x.now.name c.in-Some.x.now.bound)) c.items.e _ _
    (rw (c.member-c.ensures, c.as_slice.ensures) at c.in_ok-put.ensures.done)
    (rw (c.store.ensures, c.home.ensures, c.bound_name.ensures) at c.in_ok-put-2.ensures.done))

pub returns-clause-done : goal.returns-clause-done
returns-clause-done c env = rest_end env c.args.e.now (taken_from c.args.names.now c.args.line c.args.items.now)
    c.items.e (rw c.in_default.ensures at (c.items.invariant env))
