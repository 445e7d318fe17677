use Rattle.obj_bench.specs.Bench.{Good}
use Rattle.obj_tests.proofs.limits.filled.Given as goal

abbrev pub invariant-loop-key : goal.invariant-loop-key
invariant-loop-key g l = Good g.V.View.sense l.bench.roots.0 l.bench.stack l.bench.view
