use Rattle.obj_builtins.proofs.CallQuiet.{call_quiet}
use Rattle.obj_builtins.proofs.call_laws.call_quiet_law.Goals as goal

pub returns : goal.returns
returns g c = call_quiet _ c.quiet_law.ensures
