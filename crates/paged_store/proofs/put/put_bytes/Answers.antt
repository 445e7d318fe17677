use Rattle.std.proofs.Common.{◌+◌, ◌/◌, length}
use Rattle.page_table.specs.Lists.{table_of}
use Rattle.dict_index.specs.Packed.{packed}
use Rattle.paged_store.proofs.PutLemmas.{can_still, can_at, lays_more}
use Rattle.paged_store.proofs.put.put_bytes.Goals as goal

pub write_word-requires-clause-own : goal.write_word-requires-clause-own
write_word-requires-clause-own c = (can_at c.args.k c.args.place ((length c.args.bytes.now + 7) / 8) c.words.j
    (table_of c.words.pages) c.words-test.true
    (can_still c.args.k c.args.place ((length c.args.bytes.now + 7) / 8) _ (table_of c.args.pages.now)
    (table_of c.words.pages) c.words.invariant c.requires.may)).1

pub words-preserved : goal.words-preserved
words-preserved c = lays_more c.args.k c.args.place c.words.j c.packed_word-word.result (packed c.args.bytes.now)
    ((table_of c.args.pages.now).word c.args.k) (table_of c.args.pages.now) (table_of c.words.pages)
    (table_of c.write_word.new.self) c.words.invariant c.write_word.ensures c.packed_word-word.ensures
