-- The numbers of names in the beginning of a list.
use Rattle.std.proofs.Common.{arith, ◌≡◌, ℕ, zero, suc, ◌+◌, ◌<◌, ◌≤◌, Bool, true, false, List, [], ◌∷◌, take, None, Some, Option, refl, subst, if◌then◌else◌}
use Rattle.std.specs.Str.{bytes_eq}
use Rattle.py_base.specs.Numbers.{number_from}

least_by : (n i : ℕ) (b : Bool) (o : Option ℕ) → (o ≡ Some i → n + 1 ≤ i) → (if b then Some n else o) ≡ Some i → n ≤ i
least_by n i true o f e = let q : n ≡ i = cc in omega (arith, q)
least_by n i false o f e = let q = f e in omega (arith, q)

-- numbers are none before the first
least : (n i : ℕ) (xs : List (List ℕ)) (x : List ℕ) → number_from n xs x ≡ Some i → n ≤ i
least n i [] x e = absurd (let q : ◌≡◌ {A = Option ℕ} None (Some i) = e in cc)
least n i (y ∷ ys) x e = least_by n i (bytes_eq y x) (number_from (n + 1) ys x) (λ q. least (n + 1) i ys x q) e

within_by : (n i : ℕ) (b : Bool) (o p : Option ℕ) → (o ≡ Some i → p ≡ Some i) → (if b then Some n else o) ≡ Some i →
    (if b then Some n else p) ≡ Some i
within_by n i true o p f e = e
within_by n i false o p f e = f e

-- a number below the end of the beginning is that of the beginning
pub within : (n k i : ℕ) (xs : List (List ℕ)) (x : List ℕ) → number_from n xs x ≡ Some i → i < n + k →
    number_from n (take k xs) x ≡ Some i
within n zero i xs x e l = absurd (let q = least n i xs x e in omega (arith, q, l))
within n (suc k) i [] x e l = absurd (let q : ◌≡◌ {A = Option ℕ} None (Some i) = e in cc)
within n (suc k) i (y ∷ ys) x e l = within_by n i (bytes_eq y x) (number_from (n + 1) ys x)
    (number_from (n + 1) (take k ys) x) (λ q. within (n + 1) k i ys x q (omega (arith, l))) e

past_by : (n i k : ℕ) (b : Bool) (o p : Option ℕ) → n < k → (o ≡ Some i → p ≡ None) →
    (if b then Some n else o) ≡ Some i → k ≤ i → (if b then Some n else p) ≡ None
past_by n i k true o p s f e l = absurd (let q : n ≡ i = cc in omega (arith, s, q, l))
past_by n i k false o p s f e l = f e

-- a name whose number is past it isn't there
pub past : (n k i : ℕ) (xs : List (List ℕ)) (x : List ℕ) → number_from n xs x ≡ Some i → n + k ≤ i →
    number_from n (take k xs) x ≡ None
past n zero i xs x e l = refl
past n (suc k) i [] x e l = refl
past n (suc k) i (y ∷ ys) x e l = past_by n i (n + suc k) (bytes_eq y x) (number_from (n + 1) ys x)
    (number_from (n + 1) (take k ys) x) (omega arith) (λ q. past (n + 1) k i ys x q (omega (arith, l))) e l

none_by : (n : ℕ) (b : Bool) (o p : Option ℕ) → (o ≡ None → p ≡ None) → (if b then Some n else o) ≡ None →
    (if b then Some n else p) ≡ None
none_by n true o p f e = absurd (let q : ◌≡◌ {A = Option ℕ} (Some n) None = e in cc)
none_by n false o p f e = f e

pub nowhere : (n k : ℕ) (xs : List (List ℕ)) (x : List ℕ) → number_from n xs x ≡ None →
    number_from n (take k xs) x ≡ None
nowhere n zero xs x e = refl
nowhere n (suc k) [] x e = refl
nowhere n (suc k) (y ∷ ys) x e = none_by n (bytes_eq y x) (number_from (n + 1) ys x)
    (number_from (n + 1) (take k ys) x) (λ q. nowhere (n + 1) k ys x q) e
