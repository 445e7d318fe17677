use Rattle.py_emit.specs.inner.State.{no_frames}
use Rattle.py_templates.specs.Expressions.{stored}
use Rattle.py_emit.proofs.Rests.{rest_step}
use Rattle.py_emit.proofs.StmtArms.{also_arm}
use Rattle.py_emit.proofs.simple.store_in_turn.Goals as goal
use Rattle.py_templates.specs.Table.{also}
use Rattle.py_templates.specs.Statements.{stores_before}

pub targets-preserved : goal.targets-preserved
targets-preserved c = (
  rest_step no_frames c.args.e.now (stores_before c.args.names.now c.args.line c.args.first.now c.args.more.now)
      c.targets.e c.store.new.e (also c.args.line (stored c.args.names.now c.args.line c.targets.last.now))
      (stores_before c.args.names.now c.args.line c.in-Some.next.now c.in-Some.others.now)
      (rw c.in-Some.ensures at c.targets.invariant.0)
      (also_arm c.args.line no_frames (stored c.args.names.now c.args.line c.targets.last.now) c.targets.e _ _
      c.in_ok-put.ensures.done c.in_ok-store.ensures.done),
  rw c.in-Some.ensures at c.targets.invariant.1,
)
