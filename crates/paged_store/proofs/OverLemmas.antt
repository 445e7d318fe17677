-- Another value for one number, under functions.
use Rattle.std.proofs.Common.{◌≡◌, ℕ, eqb, inl, inr, sym, ◌∙◌, ap}
use Rattle.std.proofs.lemmas.Bool.{cond-true, cond-false}
use Rattle.std.proofs.lemmas.Bool.Decides.{eqb_tells}
use Rattle.paged_store.specs.inner.Moves.{put}

-- what a function makes of each value
abbrev pub over_each : {A B : Type 0} → (ℕ → A → B) → (ℕ → A) → ℕ → B
over_each f g = λ j. f j (g j)

pub put_over : {A B : Type 0} (f : ℕ → A → B) (k : ℕ) (x : A) (g : ℕ → A) →
    over_each f (put k x g) ≡ put k (f k x) (over_each f g)
put_over f k x g = λ i j. here j i
  where
    here : (j : ℕ) → f j (put k x g j) ≡ put k (f k x) (over_each f g) j
    here j = elim (eqb_tells j k) [
      | inl y ↦ ap (f j) (cond-true (eqb j k) x (g j) y.0) ∙ ap (λ i. f i x) y.1 ∙
          sym (cond-true (eqb j k) (f k x) (f j (g j)) y.0)
      | inr n ↦ ap (f j) (cond-false (eqb j k) x (g j) n.0) ∙ sym (cond-false (eqb j k) (f k x) (f j (g j)) n.0)
    ]

-- the value that is there already
pub put_self : {A : Type 0} (k : ℕ) (x : A) (g : ℕ → A) → x ≡ g k → put k x g ≡ g
put_self k x g e = λ i j. here j i
  where
    here : (j : ℕ) → put k x g j ≡ g j
    here j = elim (eqb_tells j k) [
      | inl y ↦ cond-true (eqb j k) x (g j) y.0 ∙ e ∙ sym (ap g y.1)
      | inr n ↦ cond-false (eqb j k) x (g j) n.0
    ]

pub put_still : {A B : Type 0} (f : ℕ → A → B) (k : ℕ) (x : A) (g : ℕ → A) → f k x ≡ f k (g k) →
    over_each f (put k x g) ≡ over_each f g
put_still f k x g e = put_over f k x g ∙ put_self k (f k x) (over_each f g) e
