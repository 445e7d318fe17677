use Rattle.lock_run.proofs.ScriptRecords.{Starting}
use Rattle.lock_run.proofs.script.start_all.Given as goal

abbrev pub invariant-loop-number : goal.invariant-loop-number
invariant-loop-number g l = Starting g.V.View.sense l.count l.number l.cells l.list l.fn.v l.v
