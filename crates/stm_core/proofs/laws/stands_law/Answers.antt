use Rattle.stm_core.proofs.Kept.{advance_stands}
use Rattle.stm_core.proofs.Publish.{publish_stands}
use Rattle.stm_core.proofs.laws.stands_law.Goals as goal

pub returns-clause-advance : goal.returns-clause-advance
returns-clause-advance g c = advance_stands

pub returns-clause-commit : goal.returns-clause-commit
returns-clause-commit g c = publish_stands
