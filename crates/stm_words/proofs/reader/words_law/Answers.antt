use Rattle.stm_words.proofs.Reach.{reached}
use Rattle.stm_words.proofs.reader.words_law.Goals as goal

pub returns : goal.returns
returns c = λ o within. reached o within
