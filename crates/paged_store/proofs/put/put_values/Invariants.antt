use Rattle.std.proofs.Common.{◌≡◌, ◌+◌, ◌*◌, take}
use Rattle.page_table.specs.Lists.{table_of}
use Rattle.paged_store.specs.inner.Writing.{with_words, put_values}
use Rattle.paged_store.proofs.put.put_values.Given as goal

abbrev pub invariant-values : goal.invariant-values
invariant-values l = record {
  next : l.next ≡ l.place + 2 * l.v-index;
  words : table_of l.pages ≡ with_words l.k (put_values l.place (take l.v-index l.vs) ((table_of l.fn.pages).word l.k))
      (table_of l.fn.pages);
}
