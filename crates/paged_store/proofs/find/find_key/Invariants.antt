use Rattle.std.proofs.Common.{◌≡◌, ◌<◌}
use Rattle.page_table.specs.Lists.{table_of}
use Rattle.dict_index.specs.Slots.{slot}
use Rattle.dict_index.specs.Seeking.{Passed}
use Rattle.paged_store.specs.inner.Indexed.{index_words}
use Rattle.paged_store.specs.inner.Sight.{words_seen, record_seen, heap_seen}
use Rattle.paged_store.proofs.find.find_key.Given as goal

abbrev pub invariant-slots : goal.invariant-slots
invariant-slots l = record {
  at : l.j < l.n → l.at ≡ slot l.n l.start l.j;
  within : l.at < l.n;
  passed : Passed (heap_seen (table_of l.pages) l.seen) (record_seen (table_of l.pages) l.seen l.d).values l.key l.n
      (index_words (words_seen (table_of l.pages) l.seen) l.d) l.start l.j;
}
