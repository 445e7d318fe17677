use Rattle.page_table.specs.Lists.{table_of}
use Rattle.paged_store.specs.inner.Sight.{words_seen, SameWords}
use Rattle.paged_store.proofs.find.same_words.Given as goal

abbrev pub invariant-words : goal.invariant-words
invariant-words l = SameWords (words_seen (table_of l.pages) l.seen) l.x l.y l.j
