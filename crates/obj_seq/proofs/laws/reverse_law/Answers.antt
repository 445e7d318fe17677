use Rattle.obj_seq.proofs.Leaving.{reverse_law_shown}
use Rattle.obj_seq.proofs.laws.reverse_law.Goals as goal

pub returns : goal.returns
returns g c = reverse_law_shown g.met.V.View.lawful
