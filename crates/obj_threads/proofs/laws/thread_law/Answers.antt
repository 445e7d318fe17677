use Rattle.obj_threads.proofs.Joining.{thread_law}
use Rattle.obj_threads.proofs.laws.thread_law.Goals as goal

pub returns : goal.returns
returns g c = thread_law g.V.View.sense g.met.V.View.lawful
