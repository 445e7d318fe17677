use Rattle.obj_nest.proofs.EqualSame.{equal_law}
use Rattle.obj_nest.proofs.laws.equal_law.Goals as goal

pub returns : goal.returns
returns g c = equal_law g.D.Demands.rules
