use Rattle.std.proofs.Common.{◌≡◌, ℕ, length, slice_get}
use Rattle.paged_store.specs.Paged.{no_draft, drafted_in}
use Rattle.paged_store.proofs.store.new_drafts.Given as goal

abbrev pub invariant-segments : goal.invariant-segments
invariant-segments l = record {
  length : length l.drafts.items ≡ l.counter;
  empty : (k : ℕ) →
      drafted_in (slice_get l.drafts.items k) ≡ no_draft;
}
