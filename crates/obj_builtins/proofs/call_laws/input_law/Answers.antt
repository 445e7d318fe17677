use Rattle.obj_builtins.proofs.InputDone.{input_law}
use Rattle.obj_builtins.proofs.call_laws.input_law.Goals as goal

pub returns : goal.returns
returns g c = input_law _
