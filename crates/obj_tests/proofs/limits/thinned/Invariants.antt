use Rattle.obj_bench.specs.Bench.{Good}
use Rattle.obj_tests.proofs.limits.thinned.Given as goal

abbrev pub invariant-loop-k : goal.invariant-loop-k
invariant-loop-k g l = Good g.V.View.sense l.bench.roots.0 l.bench.stack l.bench.view
