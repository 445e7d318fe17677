use Rattle.std.proofs.Common.{refl}
use Rattle.obj_bench.proofs.BenchSteps.{ready_empty}
use Rattle.bench_cases.proofs.measure.operated.Goals as goal

pub done_over-requires : goal.done_over-requires
done_over-requires c = ready_empty _ _ refl c.plain.ensures.live c.plain.ensures.heap
