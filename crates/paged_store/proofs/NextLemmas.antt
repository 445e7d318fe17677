-- Extents that are claimed together: they have the next words.
use Rattle.std.proofs.Common.{◌≡◌, ℕ, zero, suc, ◌+◌, ◌%◌, ◌^◌, ◌≤◌, [], ◌∷◌, ◌++◌, Ok, inr, refl, sym, ◌∙◌, ap, subst, arith}
use Rattle.page_table.specs.Pages.{Table, IsTable, Lies}
use Rattle.page_table.specs.Reserving.{TakesNew, TakesNext, TakesThree}
use Rattle.paged_store.specs.Words.{size_of}
use Rattle.paged_store.specs.inner.Claiming.{extent_for, Claims, RisesBy}
use Rattle.paged_store.proofs.ClaimLemmas.{claims_none, claims_both, claimed_one, ends_within, grows_by, same_one, same_two}
use Rattle.paged_store.proofs.PartLemmas.{size_of_none}
use Rattle.paged_store.proofs.RiseLemmas.{rises_one, rises_none, rises_then}

-- ---- one

new_lies : (c p : ℕ) (t u : Table) → IsTable t → TakesNew c p t u → Lies c p u.reserved
new_lies c p t u h k =
    let e : u.reserved ≡ t.reserved + 2 ^ c = ap (λ (z : Table). z.reserved) k.table in
    record {
      first = omega (arith, k.place, h.first);
      even = ap (λ x. x % 2) k.place ∙ h.even;
      within = omega (arith, k.place, e);
    }

next_claims : (c p : ℕ) (t u : Table) → c ≤ 21 → IsTable t → TakesNext c p t u → Claims (extent_for c p) t u
next_claims zero p t u h table k = subst (Claims [] t) (sym k.1) (claims_none t)
next_claims (suc c) p t u h table k =
    claimed_one (suc c) t u (Ok p) (omega arith) h (inr k) (new_lies (suc c) p t u table k)

next_ends : (c p : ℕ) (t u : Table) → IsTable t → TakesNext c p t u → p + size_of c ≤ u.reserved
next_ends zero p t u table k =
    let e : u.reserved ≡ t.reserved = ap (λ (z : Table). z.reserved) k.1 in
    let n = size_of_none 0 refl in
    omega (arith, k.0, e, n)
next_ends (suc c) p t u table k =
    ends_within (suc c) u.reserved (Ok p) (omega arith) (new_lies (suc c) p t u table k)

next_grows : (c p : ℕ) (t u : Table) → TakesNext c p t u → u.reserved ≤ t.reserved + size_of c
next_grows zero p t u k = let e : u.reserved ≡ t.reserved = ap (λ (z : Table). z.reserved) k.1 in omega (arith, e)
next_grows (suc c) p t u k = grows_by (suc c) t u (Ok p) (omega arith) (inr k)

next_rises : (c p : ℕ) (t u : Table) → c ≤ 21 → IsTable t → TakesNext c p t u → RisesBy (c ∷ []) t u
next_rises zero p t u h table k = subst (RisesBy (0 ∷ []) t) (sym k.1) (rises_none (0 ∷ []) t)
next_rises (suc c) p t u h table k = rises_one (suc c) t u (Ok p) table (omega arith) h (inr k)

-- ---- three

module _ (a b c p q r : ℕ) (t u : Table) (a_most : a ≤ 21) (b_most : b ≤ 21) (c_most : c ≤ 21) (table : IsTable t)
    (k : TakesThree a b c p q r t u) where
  first : Claims (extent_for a p) t k.one
  first = next_claims a p t k.one a_most table k.first

  second : Claims (extent_for b q) k.one k.two
  second = next_claims b q k.one k.two b_most k.one_is k.second

  third : Claims (extent_for c r) k.two u
  third = next_claims c r k.two u c_most k.two_is k.third

  both : Claims (extent_for a p ++ extent_for b q) t k.two
  both = claims_both (extent_for a p) (extent_for b q) t k.one k.two first second

  pub three_claim : Claims (extent_for a p ++ extent_for b q ++ extent_for c r) t u
  three_claim = claims_both (extent_for a p ++ extent_for b q) (extent_for c r) t k.two u both third

  pub three_end : (p + size_of a ≤ u.reserved) × (q + size_of b ≤ u.reserved) × (r + size_of c ≤ u.reserved)
  three_end =
      let x = next_ends a p t k.one table k.first in
      let y = next_ends b q k.one k.two k.one_is k.second in
      let z = next_ends c r k.two u k.two_is k.third in
      let m = second.more in
      let n = third.more in
      (omega (arith, x, m, n), omega (arith, y, n), z)

  pub three_grow : u.reserved ≤ t.reserved + size_of a + size_of b + size_of c
  three_grow =
      let x = next_grows a p t k.one k.first in
      let y = next_grows b q k.one k.two k.second in
      let z = next_grows c r k.two u k.third in
      omega (arith, x, y, z)

  pub three_rise : RisesBy (a ∷ b ∷ c ∷ []) t u
  three_rise =
      rises_then (a ∷ b ∷ []) (c ∷ []) (extent_for a p ++ extent_for b q) t k.two u
      (rises_then (a ∷ []) (b ∷ []) (extent_for a p) t k.one k.two (next_rises a p t k.one a_most table k.first) first
      (same_one a p) (next_rises b q k.one k.two b_most k.one_is k.second))
      both (same_two a p b q) (next_rises c r k.two u c_most k.two_is k.third)
