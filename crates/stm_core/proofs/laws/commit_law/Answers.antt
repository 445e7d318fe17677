use Rattle.stm_core.proofs.TwoPasses.{commit_follows}
use Rattle.stm_core.proofs.laws.commit_law.Goals as goal

pub returns : goal.returns
returns g c = commit_follows
