use Rattle.lock_run.proofs.Along.{turn_along, turn_shown, turn_told}
use Rattle.lock_run.proofs.laws.turn_law.Goals as goal

pub returns-clause-one : goal.returns-clause-one
returns-clause-one g c = turn_along

pub returns-clause-done : goal.returns-clause-done
returns-clause-done g c = turn_shown

pub returns-clause-told : goal.returns-clause-told
returns-clause-told g c = turn_told
