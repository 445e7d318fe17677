-- One word in another place.
use Rattle.std.proofs.Common.{◌≡◌, ◌≢◌, ℕ, ◌≤◌, inl, inr, refl, sym, ◌∙◌, arith}
use Rattle.std.proofs.lemmas.Bool.Decides.{eqb_tells}
use Rattle.dict_index.specs.Slots.{put}

pub put_same : (s t x : ℕ) (w : ℕ → ℕ) → t ≡ s → put s x w t ≡ x
put_same s t x w e = elim (eqb_tells t s) [ inl h ↦ rw h.0 refl | inr h ↦ absurd (h.1 e) ]

pub put_other : (s t x : ℕ) (w : ℕ → ℕ) → t ≢ s → put s x w t ≡ w t
put_other s t x w ne = elim (eqb_tells t s) [ inl h ↦ absurd (ne h.1) | inr h ↦ rw h.0 refl ]

-- a word that isn't empty stays so where another is put that isn't
pub put_full : (s t x : ℕ) (w : ℕ → ℕ) → x ≢ 0 → w t ≢ 0 → put s x w t ≢ 0
put_full s t x w f g e = elim (eqb_tells t s) [
  | inl h ↦ f (sym (put_same s t x w h.1) ∙ e)
  | inr h ↦ g (sym (put_other s t x w h.1) ∙ e)
]

pub put_at_most : (s t x m : ℕ) (w : ℕ → ℕ) → x ≤ m → w t ≤ m → put s x w t ≤ m
put_at_most s t x m w a b = elim (eqb_tells t s) [
  | inl h ↦ let e = put_same s t x w h.1 in omega (arith, e)
  | inr h ↦ let e = put_other s t x w h.1 in omega (arith, e)
]
