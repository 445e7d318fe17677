-- The names of loaned records.
use Rattle.std.proofs.Common.{◌≡◌, ℕ, true, false, ◌||◌, eqb, List, [], ◌∷◌, ◌++◌, Option, Some, IsSome, refl, sym, ◌∙◌, ap, subst, inl, inr}
use Rattle.std.proofs.lemmas.Bool.{cases_Bool, both_ways, cond-true, cond-false, or_cases, or_left, or_right}
use Rattle.py_data.specs.declared.value.Addr.{Addr}
use Rattle.py_data.specs.Collection.{places}
use Rattle.py_data.specs.Sight.{mem}
use Rattle.py_data.proofs.Grow.{mem_append}
use Rattle.stm_pieces.specs.declared.lent.OnTerms.{OnTerms}
use Rattle.stm_pieces.specs.PieceState.{but_at}
use Rattle.stm_pieces.specs.Terms.{AreNames}

places_more : (names : List Addr) (a : Addr) → places (names ++ a ∷ []) ≡ places names ++ a.0 ∷ []
places_more [] a = refl
places_more (x ∷ names) a = ap (λ xs. x.0 ∷ xs) (places_more names a)

-- an address is among the names with one more
mem_more : (names : List Addr) (a : Addr) (b : ℕ) →
    mem b (places (names ++ a ∷ [])) ≡ (mem b (places names) || (eqb b a.0 || false))
mem_more names a b = ap (mem b) (places_more names a) ∙ mem_append b (places names) (a.0 ∷ [])

named_more : (names : List Addr) (terms : ℕ → Option OnTerms) (a : Addr) (t : OnTerms) → AreNames names terms → (b : ℕ)
    (u : OnTerms) → but_at terms a.0 (Some t) b ≡ Some u → mem b (places (names ++ a ∷ [])) ≡ true
named_more names terms a t k b u e = mem_more names a b ∙ elim (cases_Bool (eqb b a.0)) [
  | inl y ↦ or_right (mem b (places names)) (eqb b a.0 || false) (or_left (eqb b a.0) false y)
  | inr n ↦ or_left (mem b (places names)) (eqb b a.0 || false)
      (k.named b u (sym (cond-false (eqb b a.0) (Some t) (terms b) n) ∙ e))
]

there_more : (names : List Addr) (terms : ℕ → Option OnTerms) (a : Addr) (t : OnTerms) → AreNames names terms → (b : ℕ)
    → mem b (places (names ++ a ∷ [])) ≡ true → IsSome (but_at terms a.0 (Some t) b)
there_more names terms a t k b m = elim (cases_Bool (eqb b a.0)) [
  | inl y ↦ subst IsSome (sym (cond-true (eqb b a.0) (Some t) (terms b) y)) refl
  | inr n ↦ subst IsSome (sym (cond-false (eqb b a.0) (Some t) (terms b) n)) (k.there b (old n))
]
  where
    old : eqb b a.0 ≡ false → mem b (places names) ≡ true
    old n = elim (or_cases (mem b (places names)) (eqb b a.0 || false) (sym (mem_more names a b) ∙ m)) [
      | inl o ↦ o
      | inr e ↦ elim (or_cases (eqb b a.0) false e) [
        | inl y ↦ absurd (both_ways (eqb b a.0) n y)
        | inr f ↦ absurd (both_ways false refl f)
      ]
    ]

-- one record more has one name more
pub names_more : (names names1 : List Addr) (terms terms1 : ℕ → Option OnTerms) (a : Addr) (t : OnTerms) →
    names1 ≡ names ++ a ∷ [] → terms1 ≡ but_at terms a.0 (Some t) → AreNames names terms → AreNames names1 terms1
names_more names names1 terms terms1 a t n e k =
    subst (λ xs. AreNames xs terms1) (sym n) (subst (AreNames (names ++ a ∷ [])) (sym e)
    (record { named = named_more names terms a t k; there = there_more names terms a t k }))
