use Rattle.obj_seq.proofs.Leaving.{item_law_shown, set_law}
use Rattle.obj_seq.proofs.laws.item_law.Goals as goal

pub returns-clause-item : goal.returns-clause-item
returns-clause-item g c = item_law_shown g.met.V.View.lawful

pub returns-clause-set : goal.returns-clause-set
returns-clause-set g c = set_law g.met.V.View.lawful
