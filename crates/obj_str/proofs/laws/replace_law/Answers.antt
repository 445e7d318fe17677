use Rattle.obj_str.proofs.PiecesLaws.{replace_law}
use Rattle.obj_str.proofs.laws.replace_law.Goals as goal

pub returns : goal.returns
returns c = replace_law
