use Rattle.obj_class.proofs.Nearest.{attribute_law}
use Rattle.obj_class.proofs.laws.attribute_law.Goals as goal

pub returns : goal.returns
returns c = attribute_law
