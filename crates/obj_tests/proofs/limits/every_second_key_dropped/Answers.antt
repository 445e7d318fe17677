use Rattle.std.proofs.Common.{refl}
use Rattle.obj_bench.proofs.BenchSteps.{ready_empty}
use Rattle.obj_tests.proofs.limits.every_second_key_dropped.Goals as goal

pub started-requires : goal.started-requires
started-requires g c = ready_empty _ _ refl c.plain.ensures.live c.plain.ensures.heap

pub started-requires-2 : goal.started-requires-2
started-requires-2 g c = ready_empty _ _ refl c.plain-2.ensures.live c.plain-2.ensures.heap
