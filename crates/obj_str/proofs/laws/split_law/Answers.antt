use Rattle.obj_str.proofs.PiecesLaws.{split_law}
use Rattle.obj_str.proofs.laws.split_law.Goals as goal

pub returns : goal.returns
returns c = split_law
