use Rattle.std.proofs.Common.{◌+◌}
use Rattle.page_table.specs.Lists.{table_of}
use Rattle.paged_store.proofs.PutLemmas.{can_still, can_at, lays_more, copy_reads}
use Rattle.paged_store.proofs.put.copy_words.Goals as goal

pub write_word-requires-clause-own : goal.write_word-requires-clause-own
write_word-requires-clause-own c = (can_at c.args.k c.args.to c.args.n c.words.j (table_of c.words.pages)
    c.words-test.true (can_still c.args.k c.args.to c.args.n _ (table_of c.args.pages.now) (table_of c.words.pages)
    c.words.invariant c.requires.may)).1

pub words-preserved : goal.words-preserved
words-preserved c =
    let w = (table_of c.args.pages.now).word c.args.k in
    lays_more c.args.k c.args.to c.words.j c.word-word.result (λ j. w (c.args.from + j)) w (table_of c.args.pages.now)
    (table_of c.words.pages) (table_of c.write_word.new.self) c.words.invariant c.write_word.ensures
    (copy_reads c.args.k c.args.from c.args.to c.words.j c.word-word.result w (table_of c.args.pages.now)
    (table_of c.words.pages) c.words.invariant (c.requires.clear c.words.j c.words-test.true) c.word-word.ensures)
