use Rattle.lock_run.proofs.Along.{runs_append, runs_split, runs_snoc, runs_along}
use Rattle.lock_run.proofs.laws.run_law.Goals as goal

pub returns-clause-snoc : goal.returns-clause-snoc
returns-clause-snoc g c = runs_snoc

pub returns-clause-append : goal.returns-clause-append
returns-clause-append g c = λ p ts us m m2. (runs_split p ts us m m2, λ h. runs_append p ts us m h.0 m2 h.1 h.2)

pub returns-clause-one : goal.returns-clause-one
returns-clause-one g c = runs_along
