use Rattle.std.proofs.Common.{arith}
use Rattle.obj_bench.proofs.BenchSteps.{good_item}
use Rattle.obj_bench.proofs.stacking.times.Goals as goal

pub sequence-requires-clause-items : goal.sequence-requires-clause-items
sequence-requires-clause-items g c = c.in_ok-values.ensures.items _
    (good_item _ _ (omega arith) c.at-item.ensures c.requires)
