use Rattle.obj_nest.proofs.NestLooks.{nest_looks}
use Rattle.obj_nest.proofs.laws.looks_law.Goals as goal

pub returns : goal.returns
returns g c = nest_looks _ g.D.Demands.rules
