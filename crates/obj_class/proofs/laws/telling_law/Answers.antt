use Rattle.obj_class.proofs.TellingWords as words
use Rattle.obj_class.proofs.laws.telling_law.Goals as goal

pub returns : goal.returns
returns c = words.telling_law
