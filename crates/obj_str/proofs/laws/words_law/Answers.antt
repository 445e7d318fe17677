use Rattle.obj_str.proofs.PiecesLaws.{words_law}
use Rattle.obj_str.proofs.laws.words_law.Goals as goal

pub returns : goal.returns
returns c = words_law
