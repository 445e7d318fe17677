use Rattle.std.proofs.Common.{refl}
use Rattle.obj_bench.proofs.BenchSteps.{ready_empty}
use Rattle.obj_tests.proofs.tables.tried.Goals as goal

pub started-requires : goal.started-requires
started-requires g c = ready_empty _ _ refl c.device-view.ensures.live c.device-view.ensures.heap
