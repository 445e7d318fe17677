use Rattle.bench_cases.specs.Holds.{Holds}
use Rattle.bench_cases.proofs.heap.sum.Given as goal

abbrev pub invariant-loop-i : goal.invariant-loop-i
invariant-loop-i g l = Holds g.V.View.sense l.a.0 l.n l.v
