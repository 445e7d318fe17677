use Rattle.lock_run.proofs.ScriptRecords.{Making}
use Rattle.lock_run.proofs.script.make_all.Given as goal

abbrev pub invariant-loop-i : goal.invariant-loop-i
invariant-loop-i g l = Making g.V.View.sense l.n l._i l.cells l.fn.v l.v
