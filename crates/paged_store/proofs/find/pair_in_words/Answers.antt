use Rattle.page_table.specs.Lists.{word_at}
use Rattle.paged_store.proofs.find.pair_in_words.Goals as goal

pub returns-then-words-i-2 : goal.returns-then-words-i-2
unfolding word_at
returns-then-words-i-2 c = (c.pairs-test.true, c.if-words-i.true, c.if-words-i-2.true)
