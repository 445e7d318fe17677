use Rattle.std.proofs.Common.{◌≡◌, ◌-◌, ◌≤◌, take, drop}
use Rattle.dict_index.specs.Packed.{number_of}
use Rattle.paged_store.proofs.put.packed_word.Given as goal

abbrev pub invariant-bytes : goal.invariant-bytes
invariant-bytes l = record {
  low : l.from ≤ l.i;
  high : l.i ≤ l.end;
  word : l.word ≡ number_of (take (l.end - l.i) (drop l.i l.bytes));
}

abbrev pub decreases-bytes : goal.decreases-bytes
decreases-bytes l = l.i
