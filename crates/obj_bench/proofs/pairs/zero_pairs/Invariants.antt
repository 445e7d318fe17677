use Rattle.std.proofs.Common.{◌≡◌}
use Rattle.obj_bench.specs.Bench.{pairs_from}
use Rattle.obj_bench.proofs.pairs.zero_pairs.Given as goal

abbrev pub invariant-loop-k : goal.invariant-loop-k
invariant-loop-k l = l.values ≡ pairs_from 0 l.k
