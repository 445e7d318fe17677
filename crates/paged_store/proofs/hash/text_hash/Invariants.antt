use Rattle.std.proofs.Common.{◌≡◌}
use Rattle.page_table.specs.Lists.{table_of}
use Rattle.dict_index.specs.Packed.{packed}
use Rattle.dict_index.specs.Keys.{mixed, mixed_words, text_seed}
use Rattle.paged_store.specs.inner.Sight.{record_seen}
use Rattle.paged_store.proofs.hash.text_hash.Given as goal

abbrev pub invariant-words : goal.invariant-words
invariant-words l =
    l.hash ≡ mixed_words (mixed text_seed l.n) l.j (packed (record_seen (table_of l.pages) l.seen l.a).bytes)
