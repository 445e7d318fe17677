-- A list of addresses with one more, and the two lists of what a segment holds.
use Rattle.std.proofs.Common.{◌≡◌, ℕ, Bool, true, false, ◌||◌, eqb, List, [], ◌∷◌, ◌++◌, inl, inr, refl, sym, ◌∙◌, ap, subst}
use Rattle.std.proofs.lemmas.Bool.{both_ways, or_cases}
use Rattle.std.proofs.lemmas.Bool.Decides.{eqb_tells}
use Rattle.py_data.specs.Sight.{mem}
use Rattle.seg_store.proofs.Sees.{mem_last}

-- a property of the addresses of a set with one more
pub one_more : (P : ℕ → Type 0) (a b : ℕ) (t : Bool) → (eqb b a || t) ≡ true → P a → (t ≡ true → P b) → P b
one_more P a b t e here there = elim (eqb_tells b a) [
  | inl y ↦ subst P (sym y.1) here
  | inr n ↦ elim (or_cases (eqb b a) t e) [
    | inl y ↦ absurd (both_ways _ n.0 y)
    | inr z ↦ there z
  ]
]

or_shift : (x y z : Bool) → (x || (y || z)) ≡ ((x || y) || z)
or_shift true y z = refl
or_shift false y z = refl

or_middle : (x y z : Bool) → (x || (y || z)) ≡ (y || (x || z))
or_middle true true z = refl
or_middle true false z = refl
or_middle false y z = refl

-- what is held once an address more is locked
pub locked_more : (a b : ℕ) (t : Bool) (changed made : List ℕ) → t ≡ (mem b changed || mem b made) → (eqb b a || t)
    ≡ (mem b (changed ++ a ∷ []) || mem b made)
locked_more a b t changed made e = ap (λ x. eqb b a || x) e ∙ or_shift (eqb b a) (mem b changed) (mem b made)
    ∙ ap (λ x. x || mem b made) (sym (mem_last b a changed))

-- and once a record is made there
pub made_more : (a b : ℕ) (t : Bool) (changed made : List ℕ) → t ≡ (mem b changed || mem b made) → (eqb b a || t)
    ≡ (mem b changed || mem b (made ++ a ∷ []))
made_more a b t changed made e = ap (λ x. eqb b a || x) e ∙ or_middle (eqb b a) (mem b changed) (mem b made)
    ∙ ap (λ x. mem b changed || x) (sym (mem_last b a made))
