use Rattle.obj_str.proofs.PiecesLaws.{letters_law}
use Rattle.obj_str.proofs.laws.letters_law.Goals as goal

pub returns : goal.returns
returns c = letters_law
