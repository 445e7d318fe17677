use Rattle.obj_dict.proofs.Pairing.{pair_law_shown}
use Rattle.obj_dict.proofs.laws.pair_law.Goals as goal

pub returns : goal.returns
returns c = pair_law_shown
