-- Sums over addresses, names and classes.
use Rattle.std.proofs.Common.{◌≡◌, inl, inr, ℕ, zero, suc, ◌+◌, ◌*◌, ◌^◌, ◌<◌, ◌≤◌, false, true, cond, ◌||◌, eqb, List, [], ◌∷◌, refl, sym, ap, subst, ◌∙◌, arith}
use Rattle.std.specs.List.{sum_by}
use Rattle.std.proofs.lemmas.Bool.{cases_Bool, eqb-true, cond-true, cond-false}
use Rattle.std.proofs.lemmas.List.Sums.{sum_by-cons, sum_by-le-sum_by}
use Rattle.std.proofs.lemmas.Bool.Decides.{eqb_tells}
use Rattle.py_data.specs.Sight.{mem}
use Rattle.seg_store.specs.Extents.{words_from, words_in}
use Rattle.seg_store.specs.Sums.{sum_below}

-- ---- over addresses

pub below_le : (n : ℕ) (f g : ℕ → ℕ) → ((a : ℕ) → a < n → f a ≤ g a) → sum_below n f ≤ sum_below n g
unfolding sum_below
below_le zero f g h = omega arith
below_le (suc n) f g h =
    let ih : sum_below n f ≤ sum_below n g = below_le n f g (λ a l. h a (omega arith)) in
    let l : f n ≤ g n = h n (omega arith) in
    omega arith

pub below_more : (n m : ℕ) (f : ℕ → ℕ) → n ≤ m → sum_below n f ≤ sum_below m f
unfolding sum_below
below_more n zero f l = let e : n ≡ 0 = omega arith in subst (λ k. sum_below k f ≤ 0) (sym e) (omega arith)
below_more n (suc m) f l = elim (eqb_tells n (suc m)) [
  | inl e ↦ subst (λ k. sum_below n f ≤ sum_below k f) e.1 (omega arith)
  | inr e ↦ let ne = e.1 in let ih : sum_below n f ≤ sum_below m f = below_more n m f (grind arith) in omega arith
]

pub below_scaled : (n k b : ℕ) (f : ℕ → ℕ) → ((j : ℕ) → j < n → k * f j ≤ b) → k * sum_below n f ≤ n * b
unfolding sum_below
below_scaled zero k b f h = let e : k * 0 ≡ 0 = omega arith in omega arith
below_scaled (suc n) k b f h =
    let ih : k * sum_below n f ≤ n * b = below_scaled n k b f (λ j l. h j (omega arith)) in
    let l : k * f n ≤ b = h n (omega arith) in
    let e : k * (sum_below n f + f n) ≡ k * sum_below n f + k * f n = times_add k (sum_below n f) (f n) in
    let d : suc n * b ≡ n * b + b = suc_times n b in
    omega arith
  where
    times_add : (k x y : ℕ) → k * (x + y) ≡ k * x + k * y
    times_add k x y = grind arith

    suc_times : (n b : ℕ) → suc n * b ≡ n * b + b
    suc_times n b = grind arith

-- ---- over names

but : ℕ → (ℕ → ℕ) → ℕ → ℕ
but x f a = cond (eqb a x) 0 (f a)

but_le : (x : ℕ) (f : ℕ → ℕ) (a : ℕ) → but x f a ≤ f a
unfolding but
but_le x f a = elim (eqb a x) as (λ b. cond b 0 (f a) ≤ f a) [ true ↦ omega arith | false ↦ omega arith ]

below_but : (n x : ℕ) (f : ℕ → ℕ) → sum_below n f ≤ f x + sum_below n (but x f)
unfolding sum_below but
below_but zero x f = omega arith
below_but (suc n) x f = elim (cases_Bool (eqb n x)) [
  | inl y ↦
      let e : n ≡ x = eqb-true n x y in
      let ih : sum_below n f ≤ sum_below n (but x f) = below_le n f (but x f) (λ a l. same a l e) in
      let q : f n ≡ f x = ap f e in
      omega arith
  | inr y ↦
      let ih : sum_below n f ≤ f x + sum_below n (but x f) = below_but n x f in
      let q : cond (eqb n x) 0 (f n) ≡ f n = cond-false (eqb n x) 0 (f n) y in
      omega arith
]
  where
    same : (a : ℕ) → a < n → n ≡ x → f a ≤ but x f a
    same a l e = elim (cases_Bool (eqb a x)) [
      | inl y ↦ let z = eqb-true a x y in absurd (omega arith)
      | inr y ↦ let q : cond (eqb a x) 0 (f a) ≡ f a = cond-false (eqb a x) 0 (f a) y in omega arith
    ]

-- what is 0 but at some names sums up to no more than over these names
pub below_names : (names : List ℕ) (n : ℕ) (f : ℕ → ℕ) → ((a : ℕ) → mem a names ≡ false → f a ≡ 0) → sum_below n f ≤
    sum_by f names
unfolding sum_below but
below_names [] n f h = zeros n f (λ a. h a refl)
  where
    zeros : (n : ℕ) (f : ℕ → ℕ) → ((a : ℕ) → f a ≡ 0) → sum_below n f ≤ 0
    zeros zero f h = omega arith
    zeros (suc n) f h = let ih : sum_below n f ≤ 0 = zeros n f h in let z : f n ≡ 0 = h n in omega arith
below_names (x ∷ xs) n f h =
    let ih : sum_below n (but x f) ≤ sum_by (but x f) xs = below_names xs n (but x f) (λ a e. gone a e) in
    let l : sum_by (but x f) xs ≤ sum_by f xs = sum_by-le-sum_by (but x f) f xs (but_le x f) in
    let d : sum_below n f ≤ f x + sum_below n (but x f) = below_but n x f in
    let c = sum_by-cons f x xs in
    omega arith
  where
    gone : (a : ℕ) → mem a xs ≡ false → but x f a ≡ 0
    gone a e = elim (cases_Bool (eqb a x)) [
      | inl y ↦ cond-true (eqb a x) 0 (f a) y
      | inr y ↦ cond-false (eqb a x) 0 (f a) y ∙ h a (ap (λ b. b || mem a xs) y ∙ e)
    ]

pub by_add : (names : List ℕ) (f g : ℕ → ℕ) → sum_by (λ a. f a + g a) names ≡ sum_by f names + sum_by g names
by_add [] f g = refl
by_add (x ∷ xs) f g =
    let a = sum_by-cons f x xs in
    let b = sum_by-cons g x xs in
    let c = sum_by-cons (λ a. f a + g a) x xs in
    let ih : sum_by (λ a. f a + g a) xs ≡ sum_by f xs + sum_by g xs = by_add xs f g in
    omega arith

-- ---- over classes

from_le : (k c : ℕ) (f g : ℕ → ℕ) → ((c : ℕ) → 2 ^ c * f c ≤ 2 ^ c * g c) → words_from k c f ≤ words_from k c g
from_le zero c f g h = omega arith
from_le (suc k) c f g h =
    let ih : words_from k (c + 1) f ≤ words_from k (c + 1) g = from_le k (c + 1) f g h in
    let l : 2 ^ c * f c ≤ 2 ^ c * g c = h c in
    omega arith

pub words_le : (f g : ℕ → ℕ) → ((c : ℕ) → 2 ^ c * f c ≤ 2 ^ c * g c) → words_in f ≤ words_in g
unfolding words_in
words_le f g h = from_le 21 1 f g h

from_add : (k c : ℕ) (f g : ℕ → ℕ) → words_from k c (λ c. f c + g c) ≡ words_from k c f + words_from k c g
from_add zero c f g = refl
from_add (suc k) c f g =
    let ih : words_from k (c + 1) (λ c. f c + g c) ≡ words_from k (c + 1) f + words_from k (c + 1) g =
    from_add k (c + 1) f g in
    let e : 2 ^ c * (f c + g c) ≡ 2 ^ c * f c + 2 ^ c * g c = times_add (2 ^ c) (f c) (g c) in
    omega arith
  where
    times_add : (k x y : ℕ) → k * (x + y) ≡ k * x + k * y
    times_add k x y = grind arith

pub words_add : (f g : ℕ → ℕ) → words_in (λ c. f c + g c) ≡ words_in f + words_in g
unfolding words_in
words_add f g = from_add 21 1 f g

from_zero : (k c : ℕ) → words_from k c (λ c. 0) ≡ 0
from_zero zero c = refl
from_zero (suc k) c = let ih : words_from k (c + 1) (λ c. 0) ≡ 0 = from_zero k (c + 1) in let e : 2 ^ c * 0 ≡ 0 =
    omega arith in omega arith

pub words_zero : words_in (λ c. 0) ≡ 0
unfolding words_in
words_zero = from_zero 21 1

-- each class's words, with a number more for each class
from_each : (k c b : ℕ) (f g : ℕ → ℕ) → ((c : ℕ) → 1 ≤ c → c ≤ 21 → 2 ^ c * f c ≤ 2 ^ c * g c + b) → 1 ≤ c → c + k ≤
    22 → words_from k c f ≤ words_from k c g + k * b
from_each zero c b f g h lo hi = omega arith
from_each (suc k) c b f g h lo hi =
    let ih : words_from k (c + 1) f ≤ words_from k (c + 1) g + k * b =
    from_each k (c + 1) b f g h (omega arith) (omega arith) in
    let l : 2 ^ c * f c ≤ 2 ^ c * g c + b = h c lo (omega arith) in
    let d : suc k * b ≡ k * b + b = suc_times k b in
    omega arith
  where
    suc_times : (n b : ℕ) → suc n * b ≡ n * b + b
    suc_times n b = grind arith

pub words_each : (b : ℕ) (f g : ℕ → ℕ) → ((c : ℕ) → 1 ≤ c → c ≤ 21 → 2 ^ c * f c ≤ 2 ^ c * g c + b) → words_in f ≤
    words_in g + 21 * b
unfolding words_in
words_each b f g h = from_each 21 1 b f g h (omega arith) (omega arith)

-- one class's words are some of all
from_one : (k c d : ℕ) (f : ℕ → ℕ) → c ≤ d → d < c + k → 2 ^ d * f d ≤ words_from k c f
from_one zero c d f lo hi = absurd (omega arith)
from_one (suc k) c d f lo hi = elim (eqb_tells c d) [
  | inl e ↦ let q : 2 ^ c * f c ≡ 2 ^ d * f d = ap (λ n. 2 ^ n * f n) e.1 in omega arith
  | inr e ↦ let ne = e.1 in let ih : 2 ^ d * f d ≤ words_from k (c + 1) f =
      from_one k (c + 1) d f (grind arith) (omega arith) in omega arith
]

pub words_one : (c : ℕ) (f : ℕ → ℕ) → 1 ≤ c → c ≤ 21 → 2 ^ c * f c ≤ words_in f
unfolding words_in
words_one c f lo hi = from_one 21 1 c f lo (omega arith)

-- sums of sums
pub words_below : (n : ℕ) (g : ℕ → ℕ → ℕ) → words_in (λ c. sum_below n (λ a. g a c)) ≡ sum_below n (λ a. words_in (g a))
unfolding sum_below
words_below zero g = words_zero
words_below (suc n) g = words_add (λ c. sum_below n (λ a. g a c)) (g n) ∙ ap (λ x. x + words_in (g n)) (words_below n g)

pub words_names : (names : List ℕ) (g : ℕ → ℕ → ℕ) → words_in (λ c. sum_by (λ a. g a c) names) ≡
    sum_by (λ a. words_in (g a)) names
words_names [] g = words_zero
words_names (x ∷ xs) g =
    ap words_in (λ i c. sum_by-cons (λ a. g a c) x xs i) ∙ words_add (g x) (λ c. sum_by (λ a. g a c) xs) ∙
    ap (λ y. words_in (g x) + y) (words_names xs g) ∙ sym (sum_by-cons (λ a. words_in (g a)) x xs)
