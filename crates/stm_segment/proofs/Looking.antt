-- Looks at records, as a segment's view notes them.
use Rattle.std.proofs.Common.{◌≡◌, ℕ, inl, inr, Bool, true, false, not, ◌||◌, Option, Some, None, sym, ◌∙◌, ap, IsSome, unwrap_or}
use Rattle.std.proofs.lemmas.Bool.{cases_Bool, cond-true, cond-false}
use Rattle.py_data.specs.Heap.{Rec, Heap, Has, at, is_tracked, blank}
use Rattle.seg_store.specs.Meaning.{Meaning, sees}
use Rattle.seg_store.specs.Calls.{after_mark}
use Rattle.stm_segment.specs.inner.Hold.{is_noted, Looks}

pub noted_tracked : (h : Heap) (a : ℕ) (b : Bool) → Has h a → is_tracked (at h a).kind ≡ true → is_noted (h a) b ≡ b
unfolding at
noted_tracked h a b there t = go (h a) there t
  where
    go : (o : Option Rec) → IsSome o → is_tracked (unwrap_or o blank).kind ≡ true → is_noted o b ≡ b
    go None s t = absurd cc
    go (Some r) s t = ap (λ z. not z || b) t

pub noted_fixed : (h : Heap) (a : ℕ) (b : Bool) → Has h a → is_tracked (at h a).kind ≡ false → is_noted (h a) b ≡ true
unfolding at
noted_fixed h a b there t = go (h a) there t
  where
    go : (o : Option Rec) → IsSome o → is_tracked (unwrap_or o blank).kind ≡ false → is_noted o b ≡ true
    go None s t = absurd cc
    go (Some r) s t = ap (λ z. not z || b) t

-- of one that was looked at a look is noted
pub noted_looked : (h : Heap) (a : ℕ) (b : Bool) → Has h a → b ≡ true → is_noted (h a) b ≡ true
noted_looked h a b there e = elim (cases_Bool (is_tracked (at h a).kind)) [
  | inl t ↦ noted_tracked h a b there t ∙ e
  | inr f ↦ noted_fixed h a b there f
]

-- and of another one where it isn't tracked
pub noted_unlooked : (h : Heap) (a : ℕ) (b : Bool) → Has h a → b ≡ false →
    is_noted (h a) b ≡ not (is_tracked (at h a).kind)
noted_unlooked h a b there e = elim (cases_Bool (is_tracked (at h a).kind)) [
  | inl t ↦ noted_tracked h a b there t ∙ e ∙ sym (ap not t)
  | inr f ↦ noted_fixed h a b there f ∙ sym (ap not f)
]

pub looks_noted : (a k : ℕ) (m : Meaning) → is_noted (sees m k a) ((m.part k).looked a) ≡ true → Looks a k m m
looks_noted a k m e = sym (cond-true (is_noted (sees m k a) ((m.part k).looked a)) m (after_mark k a m) e)

pub looks_marked : (a k : ℕ) (m m1 : Meaning) → is_noted (sees m k a) ((m.part k).looked a) ≡ false →
    m1 ≡ after_mark k a m → Looks a k m m1
looks_marked a k m m1 e f = f ∙ sym (cond-false (is_noted (sees m k a) ((m.part k).looked a)) m (after_mark k a m) e)
