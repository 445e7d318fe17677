use Rattle.std.proofs.Common.{arith}
use Rattle.obj_bench.proofs.BenchSteps.{good_item}
use Rattle.obj_bench.proofs.classes.told_value.Goals as goal

pub raised-requires-clause-fault : goal.raised-requires-clause-fault
raised-requires-clause-fault g c = (
  c.requires.above,
  c.requires.below,
  good_item _ _ (omega arith) c.at-x.ensures c.requires.good,
)
