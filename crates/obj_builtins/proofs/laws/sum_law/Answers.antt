use Rattle.obj_builtins.proofs.SumAnswers.{sum_law}
use Rattle.obj_builtins.proofs.laws.sum_law.Goals as goal

pub returns : goal.returns
returns g c = sum_law _
