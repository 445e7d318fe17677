use Rattle.obj_tests.proofs.BenchUndo.{good_opened}
use Rattle.obj_tests.proofs.limits.stepped.Goals as goal

pub returns : goal.returns
returns g c = good_opened g.met.V.View.bracketed _ c.open_step.ensures c.requires
