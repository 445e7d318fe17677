use Rattle.obj_class.proofs.Below.{below_law}
use Rattle.obj_class.proofs.laws.below_law.Goals as goal

pub returns : goal.returns
returns c = below_law
