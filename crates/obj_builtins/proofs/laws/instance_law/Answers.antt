use Rattle.obj_builtins.proofs.ClassAnswers.{instance_law}
use Rattle.obj_builtins.proofs.laws.instance_law.Goals as goal

pub returns : goal.returns
returns g c = instance_law _ g.D.Demands.rules
