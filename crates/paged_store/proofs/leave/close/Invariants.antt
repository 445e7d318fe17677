use Rattle.std.proofs.Common.{◌≡◌, ◌<◌}
use Rattle.page_table.specs.Lists.{table_of}
use Rattle.dict_index.specs.Slots.{slot}
use Rattle.dict_index.specs.Leaving.{Closing}
use Rattle.paged_store.specs.inner.Indexed.{home_by, pairs_by}
use Rattle.paged_store.specs.inner.Indexing.{words_from, Puts}
use Rattle.paged_store.proofs.leave.close.Given as goal

abbrev pub invariant-slots : goal.invariant-slots
invariant-slots l = record {
  at : l.j < l.n → l.at ≡ slot l.n l.first l.j;
  within : l.at < l.n;
  hole : l.hole < l.n;
  puts : Puts l.k l.place l.n (table_of l.fn.pages) (table_of l.pages);
  closing : Closing (home_by ((table_of l.fn.pages).word l.k) l.d) l.n
      (words_from ((table_of l.pages).word l.k) l.place) (pairs_by ((table_of l.fn.pages).word l.k) l.d) l.pair
      l.first l.hole l.j;
}
