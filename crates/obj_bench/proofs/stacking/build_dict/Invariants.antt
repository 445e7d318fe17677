use Rattle.obj_bench.specs.Bench.{Good}
use Rattle.obj_bench.proofs.stacking.build_dict.Given as goal

abbrev pub invariant-loop-i : goal.invariant-loop-i
invariant-loop-i g l = Good g.V.View.sense l.bench.roots.0 l.bench.stack l.bench.view
