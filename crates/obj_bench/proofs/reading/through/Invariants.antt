use Rattle.obj_bench.specs.Bench.{Good}
use Rattle.obj_bench.proofs.reading.through.Given as goal

abbrev pub invariant-loop : goal.invariant-loop
invariant-loop g l = Good g.V.View.sense l.bench.roots.0 l.bench.stack l.bench.view
