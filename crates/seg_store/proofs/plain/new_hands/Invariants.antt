use Rattle.std.proofs.Common.{◌≡◌, ℕ, length, slice_get}
use Rattle.seg_store.specs.Meaning.{no_part}
use Rattle.seg_store.specs.inner.Tables.{part_in}
use Rattle.seg_store.proofs.plain.new_hands.Given as goal

abbrev pub invariant-segments : goal.invariant-segments
invariant-segments l = record {
  length : length l.hands.items ≡ l.counter;
  empty : (k : ℕ) →
      part_in (slice_get l.hands.items k) ≡ no_part;
}
