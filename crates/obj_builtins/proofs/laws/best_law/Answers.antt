use Rattle.obj_builtins.proofs.BestAnswers.{best_law}
use Rattle.obj_builtins.proofs.laws.best_law.Goals as goal

pub returns : goal.returns
returns g c = best_law _ g.D.Demands.rules
