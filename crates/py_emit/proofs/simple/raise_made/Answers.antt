use Rattle.py_templates.specs.Expressions.{value}
use Rattle.py_emit.proofs.StmtArms.{raise_one_arm, raise_two_arm}
use Rattle.py_emit.proofs.simple.raise_made.Goals as goal

pub returns-in_ok-raise_of-in-None-clause-done : goal.returns-in_ok-raise_of-in-None-clause-done
returns-in_ok-raise_of-in-None-clause-done c env =
    rw c.in-None.is (raise_one_arm c.args.line env (value c.args.names.now c.args.line c.args.x.now) c.args.e.now _ _
    c.in_ok-expression.ensures.done c.in_ok-raise_of-in-None.ensures.done)

pub returns-in_ok-raise_of-in-Some-clause-done : goal.returns-in_ok-raise_of-in-Some-clause-done
returns-in_ok-raise_of-in-Some-clause-done c env =
    rw c.in-Some.is (raise_two_arm c.args.line env (value c.args.names.now c.args.line c.args.x.now)
    (value c.args.names.now c.args.line c.in-Some.v) c.args.e.now _ _ _ c.in_ok-expression.ensures.done
    c.in_ok-expression-in-Some.ensures.done c.in_ok-raise_of-in-Some.ensures.done)
