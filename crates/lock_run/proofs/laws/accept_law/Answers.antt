use Rattle.lock_run.proofs.Accept.{accepts}
use Rattle.lock_run.proofs.laws.accept_law.Goals as goal

pub returns : goal.returns
returns g c = accepts
