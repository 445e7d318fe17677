use Rattle.obj_seq.proofs.Leaving.{slice_law_shown}
use Rattle.obj_seq.proofs.laws.slice_law.Goals as goal

pub returns : goal.returns
returns g c = slice_law_shown g.met.V.View.lawful
