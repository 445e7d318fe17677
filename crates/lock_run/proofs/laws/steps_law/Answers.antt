use Rattle.lock_run.proofs.StepsMirror.{steps_grows, steps_frame}
use Rattle.lock_run.proofs.laws.steps_law.Goals as goal

pub returns-clause-frame : goal.returns-clause-frame
returns-clause-frame g c = steps_frame

pub returns-clause-grows : goal.returns-clause-grows
returns-clause-grows g c = λ p n q r s t d. steps_grows p n q s r t d
