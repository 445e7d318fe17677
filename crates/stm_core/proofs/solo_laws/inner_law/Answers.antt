use Rattle.stm_core.proofs.InnerMoves.{inner_follows, mortal_led, tried_led, gone_led, commit_led}
use Rattle.stm_core.proofs.solo_laws.inner_law.Goals as goal

pub returns-clause-moves : goal.returns-clause-moves
returns-clause-moves g c = inner_follows

pub returns-clause-mortal : goal.returns-clause-mortal
returns-clause-mortal g c = mortal_led

pub returns-clause-tried : goal.returns-clause-tried
returns-clause-tried g c = tried_led

pub returns-clause-gone : goal.returns-clause-gone
returns-clause-gone g c = gone_led

pub returns-clause-commit : goal.returns-clause-commit
returns-clause-commit g c = λ p most k x js o is some wins all. commit_led p most k x js o is some wins all
