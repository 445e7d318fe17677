-- Words of extents, over all classes.
use Rattle.std.proofs.Common.{◌≡◌, ℕ, zero, suc, ◌+◌, ◌*◌, ◌^◌, ◌<◌, ◌≤◌, max, Some, inl, inr, ap, arith}
use Rattle.std.proofs.lemmas.Bool.Decides.{eqb_tells}
use Rattle.seg_store.specs.declared.store.StoreFault.TheVariants.{Full}
use Rattle.seg_store.specs.Extents.{words_from, words_in}
use Rattle.seg_store.specs.Meaning.{Meaning}
use Rattle.seg_store.specs.Store.{IsStore}
use Rattle.seg_store.specs.Telling.{in_use, Rises, Fits, IsOver, IsTelling}

suc_times : (n x : ℕ) → suc n * x ≡ n * x + x
suc_times n x = grind arith

times_le : (n x y : ℕ) → x ≤ y → n * x ≤ n * y
times_le zero x y l = omega arith
times_le (suc n) x y l =
    let ih : n * x ≤ n * y = times_le n x y l in
    let a = suc_times n x in
    let b = suc_times n y in
    omega arith

times_less : (n x y : ℕ) → x < y → n * x + n ≤ n * y
times_less zero x y l = omega arith
times_less (suc n) x y l =
    let ih : n * x + n ≤ n * y = times_less n x y l in
    let a = suc_times n x in
    let b = suc_times n y in
    omega arith

-- ---- at least as many of each class

from_le : (k c : ℕ) (f g : ℕ → ℕ) → ((d : ℕ) → c ≤ d → f d ≤ g d) → words_from k c f ≤ words_from k c g
from_le zero c f g h = omega arith
from_le (suc k) c f g h =
    let ih : words_from k (c + 1) f ≤ words_from k (c + 1) g =
    from_le k (c + 1) f g (λ d l. h d (omega (arith, l))) in
    let first : 2 ^ c * f c ≤ 2 ^ c * g c = times_le (2 ^ c) (f c) (g c) (h c (omega arith)) in
    omega arith

pub words_le : (f g : ℕ → ℕ) → ((c : ℕ) → 1 ≤ c → f c ≤ g c) → words_in f ≤ words_in g
unfolding words_in
words_le f g h = from_le 21 1 f g h

-- ---- and more of one class

from_more : (k c i : ℕ) (f g : ℕ → ℕ) → c ≤ i → i < c + k → f i < g i → ((d : ℕ) → c ≤ d → f d ≤ g d)
    → words_from k c f + 2 ^ i ≤ words_from k c g
from_more zero c i f g low high more h = absurd (omega (arith, low, high))
from_more (suc k) c i f g low high more h = elim (eqb_tells c i) [
  | inl e ↦
      let rest : words_from k (c + 1) f ≤ words_from k (c + 1) g =
      from_le k (c + 1) f g (λ d l. h d (omega (arith, l))) in
      let one : 2 ^ i * f i + 2 ^ i ≤ 2 ^ i * g i = times_less (2 ^ i) (f i) (g i) more in
      let old : 2 ^ c * f c ≡ 2 ^ i * f i = ap (λ n. 2 ^ n * f n) e.1 in
      let new : 2 ^ c * g c ≡ 2 ^ i * g i = ap (λ n. 2 ^ n * g n) e.1 in
      omega arith
  | inr e ↦
      let rest : words_from k (c + 1) f + 2 ^ i ≤ words_from k (c + 1) g =
      from_more k (c + 1) i f g (let n = e.1 in grind arith) (omega (arith, high)) more
      (λ d l. h d (omega (arith, l))) in
      let first : 2 ^ c * f c ≤ 2 ^ c * g c = times_le (2 ^ c) (f c) (g c) (h c (omega arith)) in
      omega arith
]

pub words_more : (c : ℕ) (f g : ℕ → ℕ) → 1 ≤ c → c ≤ 21 → f c < g c → ((d : ℕ) → 1 ≤ d → f d ≤ g d)
    → words_in f + 2 ^ c ≤ words_in g
unfolding words_in
words_more c f g low high more h = from_more 21 1 c f g low (omega (arith, high)) more h

-- ---- a call that was done

pub done_fits : (reserved : ℕ) (m : Meaning) (f g : ℕ → ℕ) → IsStore reserved m → IsTelling reserved m g →
    Rises (Some f) (Some g) (in_use m) → Fits (Some f) (in_use m) m.limit
done_fits reserved m f g store tells rises =
    let words : words_in (λ c. max (f c) (in_use m c)) ≤ words_in g =
    words_le (λ c. max (f c) (in_use m c)) g (λ c l. let e = rises c l in omega (arith, e)) in
    omega (arith, words, tells.words, store.room)

-- what is over doesn't fit
pub over_not_fits : (f now : ℕ → ℕ) (reserved need limit : ℕ) → IsOver (Some f) now (Full reserved need limit) →
    Fits (Some f) now limit → ⊥
over_not_fits f now reserved need limit o l = let m = o.over in omega (arith, l, m)
