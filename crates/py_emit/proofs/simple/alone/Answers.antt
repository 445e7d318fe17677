use Rattle.py_templates.specs.Expressions.{value}
use Rattle.py_emit.proofs.StmtArms.{alone_arm}
use Rattle.py_emit.proofs.simple.alone.Goals as goal

pub returns-clause-done : goal.returns-clause-done
returns-clause-done c env = alone_arm c.args.line env (value c.args.names.now c.args.line c.args.x.now) c.args.e.now _
    _ c.in_ok-expression.ensures.done c.in_ok-put.ensures.done
