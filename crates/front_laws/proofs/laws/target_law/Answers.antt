use Rattle.front_laws.proofs.TargetForms.{only_target, target_of}
use Rattle.front_laws.proofs.laws.target_law.Goals as goal

pub returns-clause-some : goal.returns-clause-some
returns-clause-some c = target_of

pub returns-clause-only : goal.returns-clause-only
returns-clause-only c = only_target
