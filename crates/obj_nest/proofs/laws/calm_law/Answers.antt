use Rattle.obj_nest.proofs.CalmRows.{nest_calm}
use Rattle.obj_nest.proofs.laws.calm_law.Goals as goal

pub returns : goal.returns
returns g c = nest_calm _
