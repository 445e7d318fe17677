use Rattle.obj_ops.proofs.SteadyRows.{ops_steady}
use Rattle.obj_ops.proofs.laws.steady_law.Goals as goal

pub returns : goal.returns
returns g c = ops_steady _
