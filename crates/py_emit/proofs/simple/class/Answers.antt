use Rattle.py_emit.proofs.StmtArms.{class_arm}
use Rattle.py_emit.proofs.simple.class.Goals as goal
use Rattle.py_templates.specs.Statements.{base}
use Rattle.py_templates.specs.Names.{home}

pub returns-clause-done : goal.returns-clause-done
returns-clause-done c env = class_arm c.args.line env (base c.args.names.now c.args.line c.args.x.now) c.args.number
    (home c.args.names.now c.args.name.now) c.args.e.now _ _ _ c.in_ok-base.ensures.done c.in_ok-put.ensures.done
    (rw (c.store.ensures, c.home.ensures) at c.in_ok-put-2.ensures.done)
