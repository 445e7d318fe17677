use Rattle.obj_str.proofs.PiecesLaws.{find_law}
use Rattle.obj_str.proofs.laws.find_law.Goals as goal

pub returns : goal.returns
returns c = find_law
