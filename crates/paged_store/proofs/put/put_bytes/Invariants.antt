use Rattle.std.proofs.Common.{◌≡◌}
use Rattle.page_table.specs.Lists.{table_of}
use Rattle.dict_index.specs.Packed.{packed}
use Rattle.paged_store.specs.inner.Writing.{with_words, laid}
use Rattle.paged_store.proofs.put.put_bytes.Given as goal

abbrev pub invariant-words : goal.invariant-words
invariant-words l = table_of l.pages ≡ with_words l.k
    (laid l.place l.j (packed l.bytes) ((table_of l.fn.pages).word l.k)) (table_of l.fn.pages)
