use Rattle.page_table.specs.Lists.{table_of}
use Rattle.dict_index.specs.Index.{IsIndex}
use Rattle.paged_store.specs.inner.Indexed.{home_by}
use Rattle.paged_store.specs.inner.Indexing.{words_from, Puts}
use Rattle.paged_store.proofs.enter.fill_index.Given as goal

abbrev pub invariant-pairs : goal.invariant-pairs
invariant-pairs l = record {
  puts : Puts l.k l.place l.n (table_of l.fn.pages) (table_of l.pages);
  index : IsIndex (home_by ((table_of l.fn.pages).word l.k) l.d) l.n
      (words_from ((table_of l.pages).word l.k) l.place) l.m;
}
