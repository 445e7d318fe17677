use Rattle.obj_builtins.proofs.ReadAnswers.{int_law}
use Rattle.obj_builtins.proofs.laws.int_law.Goals as goal

pub returns : goal.returns
returns g c = int_law _
