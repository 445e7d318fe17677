use Rattle.obj_ops.proofs.AnswerLaws as answers
use Rattle.obj_ops.proofs.laws.division_law.Goals as goal

pub returns : goal.returns
returns c = answers.division_law
