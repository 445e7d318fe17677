-- Sums over the numbers below one.
use Rattle.std.proofs.Common.{◌≡◌, ◌≢◌, ℕ, zero, suc, ◌+◌, ◌<◌, cond, eqb, inl, inr, refl, ◌∙◌, ap, arith}
use Rattle.std.proofs.lemmas.Bool.{cond-true, cond-false}
use Rattle.std.proofs.lemmas.Bool.Decides.{eqb_tells}
use Rattle.seg_store.specs.Sums.{sum_below}
use Rattle.seg_store.proofs.Sees.{same_number, other_number}

-- functions that agree below n
pub sum_same : (n : ℕ) (f g : ℕ → ℕ) → ((a : ℕ) → a < n → f a ≡ g a) → sum_below n f ≡ sum_below n g
unfolding sum_below
sum_same zero f g e = refl
sum_same (suc n) f g e =
    let s = sum_same n f g (λ a l. e a (omega arith)) in
    let x = e n (omega arith) in
    omega arith

pub sum_none : (n : ℕ) (f : ℕ → ℕ) → ((a : ℕ) → a < n → f a ≡ 0) → sum_below n f ≡ 0
unfolding sum_below
sum_none zero f e = refl
sum_none (suc n) f e =
    let s = sum_none n f (λ a l. e a (omega arith)) in
    let x = e n (omega arith) in
    omega arith

pub sum_both : (n : ℕ) (f g : ℕ → ℕ) → sum_below n (λ a. f a + g a) ≡ sum_below n f + sum_below n g
unfolding sum_below
sum_both zero f g = refl
sum_both (suc n) f g = let s = sum_both n f g in omega arith

-- functions that agree but at k
pub sum_but : (n k : ℕ) (f g : ℕ → ℕ) → k < n → ((j : ℕ) → j ≢ k → f j ≡ g j)
    → sum_below n f + g k ≡ sum_below n g + f k
unfolding sum_below
sum_but zero k f g l e = absurd (omega (arith, l))
sum_but (suc n) k f g l e = elim (eqb_tells n k) [
  | inl y ↦
      let s = sum_same n f g (λ a b. e a (let d = y.1 in omega arith)) in
      let x : f n ≡ f k = ap f y.1 in
      let z : g n ≡ g k = ap g y.1 in
      omega arith
  | inr d ↦
      let s = sum_but n k f g (let z = d.1 in omega (arith, z)) e in
      let x = e n d.1 in
      omega arith
]

-- another value at k
pub sum_put : (n k x : ℕ) (f g : ℕ → ℕ) → k < n → ((j : ℕ) → f j ≡ cond (eqb j k) x (g j))
    → sum_below n f + g k ≡ sum_below n g + x
sum_put n k x f g l e =
    let s = sum_but n k f g l (λ j d. e j ∙ cond-false (eqb j k) x (g j) (other_number j k d)) in
    let z : f k ≡ x = e k ∙ cond-true (eqb k k) x (g k) (same_number k) in
    omega arith
