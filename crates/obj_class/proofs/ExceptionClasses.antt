-- Which of the classes that every program has are exception classes.
use Rattle.std.proofs.Common.{arith, ◌≡◌, ◌≢◌, ℕ, zero, suc, ◌+◌, ◌<◌, ◌≤◌, Bool, true, false, cond, eqb, ltb, [], codes, length, refl, sym, ap, subst, ◌∙◌, inl, inr, lit<}
use Rattle.std.specs.Prelude.{get_or}
use Rattle.std.proofs.lemmas.Bool.{cases_Bool, cond-false, eq-eqb, eqb-true, ltb-true, ne_eqb}
use Rattle.py_base.specs.Numbers.{class_count, class_number}
use Rattle.py_base.specs.declared.kind.Kind.TheVariants.{Str}
use Rattle.py_data.specs.declared.value.Value.{Value}
use Rattle.py_data.specs.declared.value.Value.TheVariants.{None as NoneValue, Ref}
use Rattle.py_data.specs.Closed.{base_of}
use Rattle.py_data.specs.Heap.{Heap, value_at, new_rec}
use Rattle.py_data.proofs.Same.{one_rec}
use Rattle.obj_class.specs.Bases.{ref, up}
use Rattle.obj_class.specs.Laws.{ExceptionsLaw}
use Rattle.obj_class.specs.Roots.{IsExceptionClass, IsRoots, base_names, class_place, root_class}
use Rattle.obj_class.proofs.Below.{up_none}

-- ---- a base has a lower number
abbrev pub base_number : ℕ → ℕ
base_number n = class_number (get_or base_names n [])

-- of so many numbers from k on, the base has a lower number, which isn't that of `object`
abbrev are_lower : ℕ → ℕ → Bool
are_lower k zero = true
are_lower k (suc m) = cond (ltb 0 (base_number k)) (cond (ltb (base_number k) k) (are_lower (k + 1) m) false) false

abbrev Lower : ℕ → Type 0
Lower n = (0 < base_number n) × (base_number n < n)

first_lower : (k : ℕ) (a b more : Bool) → ltb 0 (base_number k) ≡ a → ltb (base_number k) k ≡ b →
    cond a (cond b more false) false ≡ true → Lower k × (more ≡ true)
first_lower k true true more s t e = ((ltb-true 0 (base_number k) s, ltb-true (base_number k) k t), e)
first_lower k true false more s t e = absurd (let z : false ≡ true = e in cc)
first_lower k false b more s t e = absurd (let z : false ≡ true = e in cc)

pub other_number : (n k : ℕ) → eqb n k ≡ false → n ≢ k
other_number n k f e = let z : true ≡ false = sym (eq-eqb n k e) ∙ f in cc

lower_at : (n k m : ℕ) → are_lower k m ≡ true → k ≤ n → n < k + m → Lower n
lower_at n k zero e l g = absurd (omega (arith, l, g))
lower_at n k (suc m) e l g =
    let f = first_lower k (ltb 0 (base_number k)) (ltb (base_number k) k) (are_lower (k + 1) m) refl refl e in
    elim (cases_Bool (eqb n k)) [
      | inl y ↦ subst Lower (sym (eqb-true n k y)) f.0
      | inr f1 ↦ lower_at n (k + 1) m f.1 (apart n k f1 l) (omega (arith, g))
    ]
  where
    apart : (n k : ℕ) → eqb n k ≡ false → k ≤ n → k + 1 ≤ n
    apart n k f l = let d = other_number n k f in omega (arith, d, l)

pub lower : (n : ℕ) → 1 < n → n < class_count → Lower n
lower n l g = lower_at n 2 18 refl l g

abbrev place_of : Value → ℕ
place_of (Ref a) = a.0
place_of v = 0

pub same_address : (a b : ℕ) → ref a ≡ ref b → a ≡ b
same_address a b e = ap place_of e

module _ (h : Heap) (roots : ℕ) (r : IsRoots h roots) where
  -- what is above the base is above the class
  base_above : (n k : ℕ) (x : Value) → 0 < n → n < class_count →
      up h k (value_at r.list.values (class_place (base_number n))) ≡ x →
      up h (suc k) (value_at r.list.values (class_place n)) ≡ x
  base_above n k x l g e =
      let c = r.classes n g in
      let other : n ≢ 0 = λ z. omega (arith, l, z) in
      ap (up h (suc k)) c.is ∙ (ap (λ o. up h k (base_of o)) c.here ∙
      (ap (up h k) (c.base ∙ cond-false (eqb n 0) NoneValue (root_class r.list.values (get_or base_names n []))
      (ne_eqb n 0 other)) ∙ e))

  exception_by : (f n : ℕ) → n < f → 0 < n → n < class_count →
      IsExceptionClass h r.list.values (value_at r.list.values (class_place n))
  exception_by zero n m l g = absurd (omega (arith, m))
  exception_by (suc f) n m l g = elim (cases_Bool (eqb n 1)) [
    | inl y ↦ (0, ap (λ n. value_at r.list.values (class_place n)) (eqb-true n 1 y))
    | inr q ↦ above_base (exception_by f (base_number n)) (lower n (more_than n q l) g)
  ]
    where
      more_than : (n : ℕ) → eqb n 1 ≡ false → 0 < n → 1 < n
      more_than n q l = let d = other_number n 1 q in omega (arith, d, l)

      above_base : (base_number n < f → 0 < base_number n → base_number n < class_count →
          IsExceptionClass h r.list.values (value_at r.list.values (class_place (base_number n)))) → Lower n →
          IsExceptionClass h r.list.values (value_at r.list.values (class_place n))
      above_base more b = let i = more (omega (arith, b.1, m)) b.0 (omega (arith, b.1, g)) in
          (suc i.0, base_above n i.0 (root_class r.list.values (codes "BaseException")) l g i.1)

  -- `object` is another class than `BaseException`, since it has another name
  object_other : root_class r.list.values (codes "object") ≡ root_class r.list.values (codes "BaseException") → ⊥
  object_other e =
      let c = r.classes 0 (lit< tt) in
      let d = r.classes 1 (lit< tt) in
      let at : ref c.address ≡ ref d.address = sym c.is ∙ (e ∙ d.is) in
      let same = same_address c.address d.address at in
      let class : c.class ≡ d.class = one_rec (h d.address) d.class c.class d.here (sym (ap h same) ∙ c.here) in
      let named = same_address c.name d.name (sym c.named ∙ (ap (λ q. value_at q.values 0) class ∙ d.named)) in
      let text : new_rec Str [] (codes "object") ≡ new_rec Str [] (codes "BaseException") =
      one_rec (h d.name) (new_rec Str [] (codes "BaseException")) (new_rec Str [] (codes "object")) d.text
      (sym (ap h named) ∙ c.text) in
      let long : 6 ≡ 13 = ap (λ q. length q.bytes) text in
      omega (arith, long)

  object_is_none : (k : ℕ) → up h k (root_class r.list.values (codes "object")) ≡ root_class r.list.values
      (codes "BaseException") → ⊥
  object_is_none zero e = object_other e
  object_is_none (suc k) e =
      let c = r.classes 0 (lit< tt) in
      let d = r.classes 1 (lit< tt) in
      let none : NoneValue ≡ ref d.address =
      sym (ap (up h (suc k)) c.is ∙ (ap (λ o. up h k (base_of o)) c.here ∙ (ap (up h k) c.base ∙ up_none h k))) ∙
      (e ∙ d.is) in
      cc

pub exceptions_law : ExceptionsLaw
exceptions_law = record {
  are = λ h roots n r l g. exception_by h roots r (n + 1) n (omega arith) l g;
  object = λ h roots r i. object_is_none h roots r i.0 i.1;
}
