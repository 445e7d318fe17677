use Rattle.std.proofs.Common.{arith}
use Rattle.obj_bench.proofs.BenchSteps.{good_item}
use Rattle.obj_bench.proofs.stacking.pick.Goals as goal

pub push-requires : goal.push-requires
push-requires g c = record { good = c.requires; answer = good_item _ _ (omega arith) c.at-x.ensures c.requires }
