use Rattle.obj_str.proofs.PiecesLaws.{strip_law}
use Rattle.obj_str.proofs.laws.strip_law.Goals as goal

pub returns : goal.returns
returns c = strip_law
