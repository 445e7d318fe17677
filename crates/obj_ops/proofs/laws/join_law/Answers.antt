use Rattle.obj_ops.proofs.AnswerLaws as answers
use Rattle.obj_ops.proofs.laws.join_law.Goals as goal

pub returns-clause-items : goal.returns-clause-items
returns-clause-items g c = answers.join_law g.V.View.sense g.met.V.View.lawful

pub returns-clause-texts : goal.returns-clause-texts
returns-clause-texts g c = answers.join_texts_law g.V.View.sense g.met.V.View.lawful
