use Rattle.paged_store.proofs.ReadLemmas.{run_word}
use Rattle.paged_store.proofs.find.same_words.Goals as goal

pub word_in-requires-clause-words : goal.word_in-requires-clause-words
word_in-requires-clause-words c = run_word _ c.args.x c.args.n c.words.j _ c.run-first.ensures c.words-test.true

pub word_in-requires-in-words-clause-words : goal.word_in-requires-in-words-clause-words
word_in-requires-in-words-clause-words c = run_word _ c.args.y c.args.n c.words.j _ c.run-second.ensures
    c.words-test.true
