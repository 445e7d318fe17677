use Rattle.stm_core.proofs.Histories.{all_leave, all_grown}
use Rattle.stm_core.proofs.laws.events_law.Goals as goal

pub returns-clause-each : goal.returns-clause-each
returns-clause-each g c = all_leave

pub returns-clause-all : goal.returns-clause-all
returns-clause-all g c = all_grown
