use Rattle.obj_class.proofs.OwnDict.{own_law}
use Rattle.obj_class.proofs.laws.own_law.Goals as goal

pub returns : goal.returns
returns g c = own_law g.met.V.View.lawful
