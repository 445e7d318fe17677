use Rattle.std.proofs.Common.{◌≡◌, ◌-◌, ◌≤◌, length, take, drop}
use Rattle.page_table.specs.Lists.{table_of}
use Rattle.paged_store.specs.Words.{decode}
use Rattle.paged_store.specs.inner.Sight.{words_seen}
use Rattle.paged_store.proofs.sight.copy_bytes.Given as goal

abbrev pub invariant-words : goal.invariant-words
invariant-words l = record {
  within : l.done ≤ length l.out;
  copied : take l.done l.out ≡ take l.done (drop l.from (decode (words_seen (table_of l.pages) l.seen) l.a).bytes);
}

abbrev pub decreases-words : goal.decreases-words
decreases-words l = length l.out - l.done
