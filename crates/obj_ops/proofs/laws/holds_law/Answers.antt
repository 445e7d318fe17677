use Rattle.obj_ops.proofs.Holding.{ops_hold}
use Rattle.obj_ops.proofs.laws.holds_law.Goals as goal

pub returns : goal.returns
returns g c = ops_hold g.D.Demands.rules g.D.Demands.stands
