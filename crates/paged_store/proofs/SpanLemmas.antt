-- Which places a span has, and the words of a record's header, body and index.
use Rattle.std.proofs.Common.{◌≡◌, ◌⊎◌, ℕ, ◌+◌, ◌*◌, ◌<◌, ◌≤◌, Bool, true, false, ◌||◌, refl, inl, inr, arith}
use Rattle.std.proofs.lemmas.Bool.Decides.{nat_tests}
use Rattle.paged_store.specs.Words.{in_span, in_head}

pub in_span_holds : (place n p : ℕ) → place ≤ p → p < place + n → in_span place n p ≡ true
in_span_holds place n p l h = grind (arith, nat_tests)

-- the bounds of a place that a span has
pub span_bounds : (place n p : ℕ) → in_span place n p ≡ true → (place ≤ p) × (p < place + n)
span_bounds place n p h = grind (arith, nat_tests)

pub not_in_span : (place n p : ℕ) → (p < place) ⊎ (place + n ≤ p) → in_span place n p ≡ false
not_in_span place n p h = grind (arith, nat_tests)

pub in_span_at : (place n j : ℕ) → j < n → in_span place n (place + j) ≡ true
in_span_at place n j h = in_span_holds place n (place + j) (omega arith) (omega arith)

-- a span of no places
pub none_in_span : (place p : ℕ) → in_span place 0 p ≡ false
none_in_span place p = grind (arith, nat_tests)

pub head_at : (a j : ℕ) → j < 4 → in_head a (2 * a + j) ≡ true
head_at a j h = in_span_at (2 * a) 4 j h

pub head_first : (a : ℕ) → in_head a (2 * a) ≡ true
head_first a = in_span_holds (2 * a) 4 (2 * a) (omega arith) (omega arith)

-- ---- the parts of a record

pub in_first : (x y z : Bool) → x ≡ true → (x || (y || z)) ≡ true
in_first true y z h = refl
in_first false y z h = cc

pub in_second : (x y z : Bool) → y ≡ true → (x || (y || z)) ≡ true
in_second true y z h = refl
in_second false true z h = refl
in_second false false z h = cc

pub in_third : (x y z : Bool) → z ≡ true → (x || (y || z)) ≡ true
in_third true y z h = refl
in_third false true z h = refl
in_third false false z h = h

-- a place of a record is its header's, its body's or its index's
pub in_parts : (x y z : Bool) → (x || (y || z)) ≡ true → (x ≡ true) ⊎ ((y ≡ true) ⊎ (z ≡ true))
in_parts true y z h = inl refl
in_parts false true z h = inr (inl refl)
in_parts false false z h = inr (inr h)
