-- What a write leaves of a segment's hands.
use Rattle.std.proofs.Common.{◌≡◌, ℕ, ◌≤◌, Bool, ◌||◌, length, take, sym, ◌∙◌, zero-add}
use Rattle.std.proofs.Math.Bool.{or_assoc}
use Rattle.std.proofs.lemmas.List.{take-append-le}
use Rattle.py_data.specs.Sight.{mem}
use Rattle.paged_store.specs.Words.{Words}
use Rattle.paged_store.specs.inner.Moves.{never, written}
use Rattle.paged_store.specs.Paged.{in_spans, in_extents, extents_at, hand_now, hand_before}
use Rattle.paged_store.specs.inner.Writing.{Desk, Wrote}

-- the hand has the words, and has touched the places besides
pub hand_wrote : (k : ℕ) (w : Words) (t : ℕ → Bool) (old new : Desk) → Wrote k w t old new →
    hand_now new.table k new.draft ≡ written w t never (hand_now old.table k old.draft)
hand_wrote k w t old new r = λ i. record {
  word = λ p. r.word p i;
  holds = λ a. mem a (r.same.changed i) || mem a (r.same.made i);
  touched = λ p. ((λ j. r.spans p j || in_extents (r.same.taken j) p) ∙
      or_assoc (t p) (in_spans old.draft.spans p) (in_extents old.draft.taken p)) i;
  taken = λ p. ((λ j. extents_at (r.same.taken j) p) ∙ sym (zero-add (extents_at old.draft.taken p))) i;
}

-- and as the step began with it it is what it was
pub before_wrote : (k : ℕ) (w : Words) (t : ℕ → Bool) (old new : Desk) →
    old.draft.spans_before ≤ length old.draft.spans → Wrote k w t old new →
    hand_before new.table k new.draft ≡ hand_before old.table k old.draft
before_wrote k w t old new h r =
    let spans : take new.draft.spans_before new.draft.spans ≡ take old.draft.spans_before old.draft.spans =
    (λ i. take (r.same.spans_before i) (r.same.spans i)) ∙ take-append-le old.draft.spans_before old.draft.spans
    r.same.more_spans h in
    λ i. record {
      word = λ p. r.before p i;
      holds = λ a. mem a (r.same.changed i) || mem a (take (r.same.made_before i) (r.same.made i));
      touched = λ p. in_spans (spans i) p || in_extents (take (r.same.taken_before i) (r.same.taken i)) p;
      taken = extents_at (take (r.same.taken_before i) (r.same.taken i));
    }
