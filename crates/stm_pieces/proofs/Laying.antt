-- Changed records laid over those that are loaned on terms.
use Rattle.std.proofs.Common.{◌≡◌, ℕ, true, false, eqb, Option, Some, None, is_some, sym, ◌∙◌, ap, inl, inr, refl}
use Rattle.std.proofs.lemmas.Bool.{cases_Bool, both_ways, cond-true, cond-false, eqb-true, eq-eqb}
use Rattle.py_data.specs.Changes.{Replaced}
use Rattle.py_data.specs.Heap.{Heap, Rec, put_at, no_records}
use Rattle.stm_pieces.specs.declared.lent.OnTerms.{OnTerms}
use Rattle.stm_pieces.specs.PieceState.{but_at}
use Rattle.stm_pieces.specs.Terms.{loaned_in, over, laid_over}

over_none : (x y : Option Rec) → over x y ≡ None → x ≡ None
over_none None y e = refl
over_none (Some r) y e = absurd cc

-- where no changed record is, the loaned one is shown
shown_loaned : (x y : Option Rec) → x ≡ None → over x y ≡ y
shown_loaned x y e = ap (λ o. over o y) e

pub not_changed : (x : Option Rec) → is_some x ≡ false → x ≡ None
not_changed None e = refl
not_changed (Some r) e = absurd (both_ways true e refl)

-- nothing laid over nothing
pub laid_nothing : (changed : Heap) (terms : ℕ → Option OnTerms) → changed ≡ no_records → terms ≡ (λ _. None) →
    laid_over changed (λ a. loaned_in (terms a)) ≡ no_records
laid_nothing changed terms c t = λ i. laid_over (c i) (λ a. loaned_in (t i a))

put_at_place : (changed loaned : Heap) (a : ℕ) (q : Rec) (b : ℕ) →
    laid_over (put_at changed a q) loaned b ≡ put_at (laid_over changed loaned) a q b
put_at_place changed loaned a q b = elim (cases_Bool (eqb b a)) [
  | inl y ↦ ap (λ o. over o (loaned b)) (cond-true (eqb b a) (Some q) (changed b) y) ∙
      sym (cond-true (eqb b a) (Some q) (over (changed b) (loaned b)) y)
  | inr n ↦ ap (λ o. over o (loaned b)) (cond-false (eqb b a) (Some q) (changed b) n) ∙
      sym (cond-false (eqb b a) (Some q) (over (changed b) (loaned b)) n)
]

-- a changed record stands in what is shown
laid_put : (changed loaned : Heap) (a : ℕ) (q : Rec) →
    laid_over (put_at changed a q) loaned ≡ put_at (laid_over changed loaned) a q
laid_put changed loaned a q = λ i b. put_at_place changed loaned a q b i

own_at_place : (changed loaned : Heap) (a : ℕ) (q : Rec) → changed a ≡ None → loaned a ≡ Some q → (b : ℕ) →
    laid_over (put_at changed a q) loaned b ≡ laid_over changed loaned b
own_at_place changed loaned a q none is b = elim (cases_Bool (eqb b a)) [
  | inl y ↦
      let e : b ≡ a = eqb-true b a y in
      ap (λ o. over o (loaned b)) (cond-true (eqb b a) (Some q) (changed b) y) ∙
      sym (shown_loaned (changed b) (loaned b) (ap changed e ∙ none) ∙ ap loaned e ∙ is)
  | inr n ↦ ap (λ o. over o (loaned b)) (cond-false (eqb b a) (Some q) (changed b) n)
]

-- a copy of a loaned record shows nothing else
pub laid_own : (changed loaned : Heap) (a : ℕ) (q : Rec) → changed a ≡ None → loaned a ≡ Some q →
    laid_over (put_at changed a q) loaned ≡ laid_over changed loaned
laid_own changed loaned a q none is = λ i b. own_at_place changed loaned a q none is b i

pub own_here : (changed changed1 loaned : Heap) (a : ℕ) (q : Rec) → changed a ≡ None → loaned a ≡ Some q →
    changed1 ≡ put_at changed a q → changed1 a ≡ laid_over changed loaned a
own_here changed changed1 loaned a q none is e =
    ap (λ h. h a) e ∙ cond-true (eqb a a) (Some q) (changed a) (eq-eqb a a refl) ∙
    sym (shown_loaned (changed a) (loaned a) none ∙ is)

lend_at_place : (changed loaned : Heap) (a : ℕ) (r : Rec) → laid_over changed loaned a ≡ None → (b : ℕ) →
    laid_over changed (put_at loaned a r) b ≡ put_at (laid_over changed loaned) a r b
lend_at_place changed loaned a r none b = elim (cases_Bool (eqb b a)) [
  | inl y ↦
      let e : b ≡ a = eqb-true b a y in
      let n : changed b ≡ None = ap changed e ∙ over_none (changed a) (loaned a) none in
      shown_loaned (changed b) (put_at loaned a r b) n ∙ cond-true (eqb b a) (Some r) (loaned b) y ∙
      sym (cond-true (eqb b a) (Some r) (over (changed b) (loaned b)) y)
  | inr n ↦ ap (λ o. over (changed b) o) (cond-false (eqb b a) (Some r) (loaned b) n) ∙
      sym (cond-false (eqb b a) (Some r) (over (changed b) (loaned b)) n)
]

-- a record that is loaned in a free place is shown
laid_lend : (changed loaned : Heap) (a : ℕ) (r : Rec) → laid_over changed loaned a ≡ None →
    laid_over changed (put_at loaned a r) ≡ put_at (laid_over changed loaned) a r
laid_lend changed loaned a r none = λ i b. lend_at_place changed loaned a r none b i

-- what was changed among the copies was changed in what is shown
pub laid_replaced : (changed changed1 loaned old : Heap) (a : ℕ) (f : Rec → Rec) → laid_over changed loaned ≡ old →
    changed a ≡ old a → Replaced a f changed changed1 → Replaced a f old (laid_over changed1 loaned)
laid_replaced changed changed1 loaned old a f same own r = (
  r.0,
  sym own ∙ r.1,
  ap (λ h. laid_over h loaned) r.2 ∙ laid_put changed loaned a (f r.0) ∙ ap (λ h. put_at h a (f r.0)) same,
)

-- ---- terms
-- what a field of the terms says, once those of one record are set
field_in : {A : Type 0} (f : Option OnTerms → A) (terms : ℕ → Option OnTerms) (a : ℕ) (t : OnTerms) (b : ℕ) →
    f (but_at terms a (Some t) b) ≡ but_at (λ n. f (terms n)) a (f (Some t)) b
field_in f terms a t b = elim (cases_Bool (eqb b a)) [
  | inl y ↦ ap f (cond-true (eqb b a) (Some t) (terms b) y) ∙ sym (cond-true (eqb b a) (f (Some t)) (f (terms b)) y)
  | inr n ↦ ap f (cond-false (eqb b a) (Some t) (terms b) n) ∙
      sym (cond-false (eqb b a) (f (Some t)) (f (terms b)) n)
]

pub field_set : {A : Type 0} (f : Option OnTerms → A) (terms terms1 : ℕ → Option OnTerms) (a : ℕ) (t : OnTerms) →
    terms1 ≡ but_at terms a (Some t) → (λ n. f (terms1 n)) ≡ but_at (λ n. f (terms n)) a (f (Some t))
field_set f terms terms1 a t e = ap (λ g. λ n. f (g n)) e ∙ (λ i b. field_in f terms a t b i)

-- a record that is loaned on terms in a free place is shown
pub laid_more : (changed : Heap) (terms terms1 : ℕ → Option OnTerms) (a : ℕ) (t : OnTerms) →
    terms1 ≡ but_at terms a (Some t) → laid_over changed (λ b. loaned_in (terms b)) a ≡ None
    → laid_over changed (λ b. loaned_in (terms1 b)) ≡ put_at (laid_over changed (λ b. loaned_in (terms b))) a t.entry
laid_more changed terms terms1 a t e none =
    ap (laid_over changed) (field_set loaned_in terms terms1 a t e) ∙
    laid_lend changed (λ b. loaned_in (terms b)) a t.entry none

-- on the same terms the same is shown
pub laid_same : (changed : Heap) (terms terms1 : ℕ → Option OnTerms) → terms1 ≡ terms →
    laid_over changed (λ b. loaned_in (terms1 b)) ≡ laid_over changed (λ b. loaned_in (terms b))
laid_same changed terms terms1 e = ap (λ (f : ℕ → Option OnTerms). laid_over changed (λ b. loaned_in (f b))) e
