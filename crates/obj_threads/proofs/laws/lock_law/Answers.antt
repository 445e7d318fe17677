use Rattle.obj_threads.proofs.Locking.{lock_law}
use Rattle.obj_threads.proofs.laws.lock_law.Goals as goal

pub returns : goal.returns
returns g c = lock_law g.V.View.sense g.met.V.View.lawful
