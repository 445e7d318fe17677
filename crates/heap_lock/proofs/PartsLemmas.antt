-- Lists of parts.
use Rattle.std.proofs.Common.{◌≡◌, ℕ, zero, suc, ◌+◌, ◌<◌, ◌≤◌, ◌≢◌, ◌==◌, nat_lt, nat_le, if◌then◌else◌, List, [], ◌∷◌, length, All, Contains, Bool, true, false, refl, arith}
use mathlib.Core.Logic.{dite}
use native.Mathlib.Decide.{ℕ_discrete}
use Rattle.std.proofs.lemmas.Bool.Decides.{nat_tests}
use Rattle.std.proofs.lemmas.List.Elements.{All-nil, All-cons, at_from_Contains}
use Rattle.std.proofs.lemmas.List.Sums.{sum_by-cons}
use Rattle.std.specs.List.{HoldsAt}
use Rattle.heap_lock.specs.Parts.{all_parts, HasAllParts, times, IsDescending, highest_part, lower_parts, with_part, merged}

-- how often a part stands

times_cons : (part x : ℕ) (xs : List ℕ) → times part (x ∷ xs) ≡ (if x == part then 1 else 0) + times part xs
times_cons part x xs = sum_by-cons (λ other. if other == part then 1 else 0) x xs

pub times_split : (part : ℕ) (parts : List ℕ) → times part (lower_parts parts) + times part (highest_part parts) ≡
    times part parts
times_split part [] = refl
times_split part (x ∷ xs) = omega (arith, times_cons part x xs, times_cons part x [])

times_with_part : (part x : ℕ) (ys : List ℕ) → times part (with_part x ys) ≡ (if x == part then 1 else 0) + times part
    ys
times_with_part part x [] = times_cons part x []
times_with_part part x (y ∷ ys) =
    elim (nat_le y x) as (λ b. times part (if b then x ∷ y ∷ ys else y ∷ with_part x ys) ≡ (if x == part then 1 else 0)
    + times part (y ∷ ys)) [
      | true ↦ times_cons part x (y ∷ ys)
      | false ↦ omega (arith, times_cons part y (with_part x ys), times_cons part y ys, times_with_part part x ys)
    ]

pub times_merged : (part : ℕ) (xs ys : List ℕ) → times part (merged xs ys) ≡ times part xs + times part ys
times_merged part [] ys = omega arith
times_merged part (x ∷ xs) ys = omega (
  arith,
  times_with_part part x (merged xs ys),
  times_merged part xs ys,
  times_cons part x xs,
)

-- each part below n stands once among all parts, and no other number does
pub times_all_parts : (part n : ℕ) → times part (all_parts n) ≡ (if nat_lt part n then 1 else 0)
times_all_parts part zero = grind (arith, nat_tests)
times_all_parts part (suc n) = let here = times_cons part n (all_parts n) in let later = times_all_parts part n in
    grind (arith, nat_tests)

times_at : (part : ℕ) (xs : List ℕ) (k : ℕ) → k < length xs → HoldsAt (λ other. other ≡ part) xs k → 1 ≤ times part xs
times_at part [] k within is = absurd (omega arith)
times_at part (x ∷ xs) zero within is = let here = times_cons part x xs in let same : x ≡ part = is 0 in
    grind (arith, nat_tests)
times_at part (x ∷ xs) (suc k) within is = omega (arith, times_cons part x xs, times_at part xs k (omega arith) is)

pub times_Contains : (part : ℕ) (xs : List ℕ) → Contains xs part → 1 ≤ times part xs
times_Contains part xs has = let at = at_from_Contains xs part has in times_at part xs at.0 at.1 at.2

pub none_left : (parts : List ℕ) → ((part : ℕ) → times part parts ≡ 0) → parts ≡ []
none_left [] none = refl
none_left (x ∷ xs) none = let here = times_cons x x xs in let no = none x in absurd (grind (arith, nat_tests))

-- all parts

pub length_all_parts : (n : ℕ) → length (all_parts n) ≡ n
length_all_parts zero = refl
length_all_parts (suc n) = omega (arith, length_all_parts n)

later : (part x : ℕ) (xs : List ℕ) → Contains xs part → Contains (x ∷ xs) part
later part x xs has = (suc has.0, omega (arith, has.1), has.2)

contains_all_parts : (n part : ℕ) → part < n → Contains (all_parts n) part
contains_all_parts zero part within = absurd (omega arith)
contains_all_parts (suc n) part within = dite (ℕ_discrete n part)
    (λ same. (0, omega arith, same))
    (λ apart. later part n (all_parts n) (contains_all_parts n part (omega arith)))

pub has_all_parts : (n : ℕ) → HasAllParts n (all_parts n)
has_all_parts n = record { each = contains_all_parts n }

-- the order

at_most_all_parts : (n : ℕ) (most : ℕ) → n ≤ most + 1 → All (λ other. other ≤ most) (all_parts n)
at_most_all_parts zero most within = All-nil (λ other. other ≤ most)
at_most_all_parts (suc n) most within = All-cons (λ other. other ≤ most) n (all_parts n) (omega arith)
    (at_most_all_parts n most (omega arith))

pub descending_all_parts : (n : ℕ) → IsDescending (all_parts n)
descending_all_parts zero = tt
descending_all_parts (suc n) = (at_most_all_parts n n (omega arith), descending_all_parts n)

length_with_part : (x : ℕ) (ys : List ℕ) → length (with_part x ys) ≡ length ys + 1
length_with_part x [] = refl
length_with_part x (y ∷ ys) =
    elim (nat_le y x) as (λ b. length (if b then x ∷ y ∷ ys else y ∷ with_part x ys) ≡ length (y ∷ ys) + 1)
    [ true ↦ omega arith | false ↦ omega (arith, length_with_part x ys) ]

pub length_merged : (xs ys : List ℕ) → length (merged xs ys) ≡ length xs + length ys
length_merged [] ys = omega arith
length_merged (x ∷ xs) ys = omega (arith, length_with_part x (merged xs ys), length_merged xs ys)

at_most_with_part : (most x : ℕ) (ys : List ℕ) → x ≤ most → All (λ other. other ≤ most) ys →
    All (λ other. other ≤ most) (with_part x ys)
at_most_with_part most x [] here all = All-cons (λ other. other ≤ most) x [] here all
at_most_with_part most x (y ∷ ys) here all =
    let first : y ≤ most = all 0 0 (omega arith) in
    let later : All (λ other. other ≤ most) ys = λ k d within. all (suc k) d (omega arith) in
    elim (nat_le y x) as (λ b. All (λ other. other ≤ most) (if b then x ∷ y ∷ ys else y ∷ with_part x ys)) [
      | true ↦ All-cons (λ other. other ≤ most) x (y ∷ ys) here all
      | false ↦ All-cons (λ other. other ≤ most) y (with_part x ys) first (at_most_with_part most x ys here later)
    ]

-- whichever way the test goes by which a part finds its place
descending_by_test : (x y : ℕ) (ys : List ℕ) → IsDescending (y ∷ ys) → IsDescending (with_part x ys) → (b : Bool) →
    nat_le y x ≡ b
    → IsDescending (if b then x ∷ y ∷ ys else y ∷ with_part x ys)
descending_by_test x y ys order behind true test =
    let first : y ≤ x = grind (arith, nat_tests) in
    (All-cons (λ other. other ≤ x) y ys first (λ k d within. let most = order.0 k d within in omega arith), order)
descending_by_test x y ys order behind false test =
    let first : x ≤ y = grind (arith, nat_tests) in
    (at_most_with_part y x ys first order.0, behind)

descending_with_part : (x : ℕ) (ys : List ℕ) → IsDescending ys → IsDescending (with_part x ys)
descending_with_part x [] order = (All-nil (λ other. other ≤ x), tt)
descending_with_part x (y ∷ ys) order = descending_by_test x y ys order (descending_with_part x ys order.1)
    (nat_le y x) refl

pub descending_merged : (xs ys : List ℕ) → IsDescending ys → IsDescending (merged xs ys)
descending_merged [] ys order = order
descending_merged (x ∷ xs) ys order = descending_with_part x (merged xs ys) (descending_merged xs ys order)

-- lists that are not empty

pub cons_some : (x : ℕ) (xs : List ℕ) → x ∷ xs ≢ []
cons_some x xs = λ e. cc

length_from_some : (parts : List ℕ) → parts ≢ [] → 1 ≤ length parts
length_from_some [] some = absurd (some refl)
length_from_some (x ∷ xs) some = omega arith

pub some_from_length : (parts : List ℕ) → 1 ≤ length parts → parts ≢ []
some_from_length [] some = absurd (omega arith)
some_from_length (x ∷ xs) some = cons_some x xs

pub merged_some : (xs ys : List ℕ) → ys ≢ [] → merged xs ys ≢ []
merged_some xs ys some = some_from_length (merged xs ys) (let sum = length_merged xs ys in let least =
    length_from_some ys some in omega arith)
