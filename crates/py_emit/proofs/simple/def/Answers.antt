use Rattle.py_templates.specs.Expressions.{values}
use Rattle.py_emit.proofs.StmtArms.{def_arm}
use Rattle.py_emit.proofs.simple.def.Goals as goal
use Rattle.py_templates.specs.Statements.{defaults}
use Rattle.py_templates.specs.Names.{home}

pub returns-clause-done : goal.returns-clause-done
returns-clause-done c env = def_arm c.args.line env (values c.args.names.now c.args.line (defaults c.args.params.now))
    c.args.number (home c.args.names.now c.args.name.now) c.args.e.now _ _ _ c.in_ok-count.ensures.done
    (rw (c.in_ok-n.ensures.same, c.in_ok-count.ensures.count) at c.in_ok-put.ensures.done)
    (rw (c.store.ensures, c.home.ensures) at c.in_ok-put-2.ensures.done)
