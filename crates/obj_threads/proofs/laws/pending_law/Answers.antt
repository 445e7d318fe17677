use Rattle.obj_threads.proofs.Kept.{pending_law}
use Rattle.obj_threads.proofs.laws.pending_law.Goals as goal

pub returns : goal.returns
returns g c = pending_law _
