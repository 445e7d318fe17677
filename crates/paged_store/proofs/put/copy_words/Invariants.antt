use Rattle.std.proofs.Common.{◌≡◌}
use Rattle.page_table.specs.Lists.{table_of}
use Rattle.paged_store.specs.inner.Written.{copied}
use Rattle.paged_store.specs.inner.Writing.{with_words}
use Rattle.paged_store.proofs.put.copy_words.Given as goal

abbrev pub invariant-words : goal.invariant-words
invariant-words l = table_of l.pages ≡ with_words l.k (copied l.from l.to l.j ((table_of l.fn.pages).word l.k))
    (table_of l.fn.pages)
