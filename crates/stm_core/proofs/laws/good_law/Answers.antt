use Rattle.stm_core.proofs.New.{good_new}
use Rattle.stm_core.proofs.Kept.{good_after}
use Rattle.stm_core.proofs.laws.good_law.Goals as goal

pub returns-clause-new : goal.returns-clause-new
returns-clause-new g c = good_new

pub returns-clause-moves : goal.returns-clause-moves
returns-clause-moves g c = good_after
