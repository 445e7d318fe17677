use Rattle.std.proofs.Common.{◌≡◌, ◌≢◌, ℕ, ◌<◌}
use Rattle.page_table.specs.Lists.{table_of}
use Rattle.dict_index.specs.Slots.{slot}
use Rattle.paged_store.specs.inner.Sight.{words_seen}
use Rattle.paged_store.specs.inner.Indexing.{words_from}
use Rattle.paged_store.proofs.index.empty_slot.Given as goal

abbrev pub invariant-slots : goal.invariant-slots
invariant-slots l = record {
  at : l.d < l.n → l.at ≡ slot l.n l.start l.d;
  within : l.at < l.n;
  filled : (e : ℕ) → e < l.d → words_from (words_seen (table_of l.pages) l.seen) l.place (slot l.n l.start e) ≢ 0;
}
