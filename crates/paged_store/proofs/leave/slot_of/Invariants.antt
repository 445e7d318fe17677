use Rattle.std.proofs.Common.{◌≡◌, ◌≢◌, ℕ, ◌+◌, ◌<◌}
use Rattle.page_table.specs.Lists.{table_of}
use Rattle.dict_index.specs.Slots.{slot}
use Rattle.paged_store.specs.inner.Indexing.{words_from}
use Rattle.paged_store.specs.inner.Sight.{words_seen}
use Rattle.paged_store.proofs.leave.slot_of.Given as goal

abbrev pub invariant-slots : goal.invariant-slots
invariant-slots l = record {
  at : l.j < l.n → l.at ≡ slot l.n l.start l.j;
  within : l.at < l.n;
  others : (e : ℕ) → e < l.j → words_from (words_seen (table_of l.pages) l.seen) l.place (slot l.n l.start e) ≢
      l.pair + 1;
}
