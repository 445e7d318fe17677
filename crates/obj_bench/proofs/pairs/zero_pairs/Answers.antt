use Rattle.std.proofs.Common.{arith}
use Rattle.obj_bench.proofs.BenchPairs.{pairs_step}
use Rattle.obj_bench.proofs.pairs.zero_pairs.Goals as goal

pub loop-k-preserved : goal.loop-k-preserved
loop-k-preserved c = pairs_step c.loop-k.k c.from.result _ _ _ (omega (arith, c.loop-k-test.true, c.ranges.n.fits))
    c.from.ensures c.loop-k.invariant c.in_ok-push.ensures.ok c.in_ok-push-2.ensures.ok
