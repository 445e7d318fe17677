use Rattle.py_templates.specs.Expressions.{value, stored}
use Rattle.py_emit.proofs.StmtArms.{assign_arm}
use Rattle.py_emit.proofs.simple.assign.Goals as goal
use Rattle.py_templates.specs.Statements.{last_target, stores_before}

pub returns-in_ok-store_in_turn-in-Some-clause-done : goal.returns-in_ok-store_in_turn-in-Some-clause-done
returns-in_ok-store_in_turn-in-Some-clause-done c env =
    let (m, h1, (m2, h2, e)) = c.in_ok-store_in_turn-in-Some.ensures.done in
    rw c.in-Some.ensures (assign_arm c.args.line env (value c.args.names.now c.args.line c.args.x.now)
    (stores_before c.args.names.now c.args.line c.in-Some.first.now c.in-Some.more.now)
    (stored c.args.names.now c.args.line (last_target c.in-Some.first.now c.in-Some.more.now)) c.args.e.now _ _ _
    c.in_ok-expression-in-Some.ensures.done h1 (rw e at h2))
