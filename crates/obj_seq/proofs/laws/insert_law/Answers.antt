use Rattle.obj_seq.proofs.Leaving.{insert_law_shown}
use Rattle.obj_seq.proofs.laws.insert_law.Goals as goal

pub returns : goal.returns
returns g c = insert_law_shown g.met.V.View.lawful
