use Rattle.py_templates.specs.Expressions.{value}
use Rattle.py_emit.proofs.StmtArms.{assert_alone_arm}
use Rattle.py_emit.proofs.simple.assert_alone.Goals as goal

pub returns-clause-done : goal.returns-clause-done
returns-clause-done c env = assert_alone_arm c.args.line env (value c.args.names.now c.args.line c.args.x.now)
    c.in_ok-base.base c.args.e.now _ _ _ c.in_ok-base.ensures.base (c.in_ok-base.ensures.done env)
    c.in_ok-raise_of.ensures.done c.mark.ensures.done
