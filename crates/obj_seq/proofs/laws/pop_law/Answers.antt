use Rattle.obj_seq.proofs.Leaving.{pop_law_shown, del_law}
use Rattle.obj_seq.proofs.laws.pop_law.Goals as goal

pub returns-clause-pop : goal.returns-clause-pop
returns-clause-pop g c = pop_law_shown g.met.V.View.lawful

pub returns-clause-del : goal.returns-clause-del
returns-clause-del g c = del_law g.met.V.View.lawful
