use Rattle.lock_run.specs.inner.ScriptLaws.{script_goes}
use Rattle.lock_run.proofs.script.ScriptClient.blocked.Goals as goal

pub returns-clause-not : goal.returns-clause-not
returns-clause-not g c = λ e w q z d. script_goes _ _ _ q _ z d
