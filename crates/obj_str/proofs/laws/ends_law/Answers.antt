use Rattle.obj_str.proofs.PiecesLaws.{ends_law}
use Rattle.obj_str.proofs.laws.ends_law.Goals as goal

pub returns : goal.returns
returns c = ends_law
