use Rattle.obj_threads.proofs.Kept.{inside_law}
use Rattle.obj_threads.proofs.laws.inside_law.Goals as goal

pub returns : goal.returns
returns g c = inside_law _
