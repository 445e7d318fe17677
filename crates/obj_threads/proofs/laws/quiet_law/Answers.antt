use Rattle.obj_threads.proofs.Quiet.{threads_quiet}
use Rattle.obj_threads.proofs.laws.quiet_law.Goals as goal

pub returns : goal.returns
returns g c = threads_quiet _
