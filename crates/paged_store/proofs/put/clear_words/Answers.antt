use Rattle.std.proofs.Common.{refl}
use Rattle.page_table.specs.Lists.{table_of}
use Rattle.paged_store.proofs.PutLemmas.{can_still, can_at, lays_more}
use Rattle.paged_store.proofs.put.clear_words.Goals as goal

pub write_word-requires-clause-own : goal.write_word-requires-clause-own
write_word-requires-clause-own c = (can_at c.args.k c.args.place c.args.n c.words.j (table_of c.words.pages)
    c.words-test.true (can_still c.args.k c.args.place c.args.n _ (table_of c.args.pages.now) (table_of c.words.pages)
    c.words.invariant c.requires.may)).1

pub words-preserved : goal.words-preserved
words-preserved c = lays_more c.args.k c.args.place c.words.j 0 (λ j. 0) ((table_of c.args.pages.now).word c.args.k)
    (table_of c.args.pages.now) (table_of c.words.pages) (table_of c.write_word.new.self) c.words.invariant
    c.write_word.ensures refl
