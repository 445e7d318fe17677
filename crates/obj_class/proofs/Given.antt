-- What `attr` answers of what is found, and that it only looks where it makes no Method.
use Rattle.std.proofs.Common.{arith, ◌≡◌, ℕ, [], ◌∷◌, Option, Some, None, refl, sym, ap, subst, ◌∙◌}
use Rattle.std.specs.Prelude.{IfSome}
use Rattle.py_base.specs.declared.kind.Kind.TheVariants.{Str, Cell, Function, Class, Method}
use Rattle.py_data.specs.declared.value.Value.{Value}
use Rattle.py_data.specs.declared.record.Got.{Got}
use Rattle.py_data.specs.declared.record.Got.TheVariants.{Is as IsGotten, Raise}
use Rattle.py_data.specs.Closed.{IsItem}
use Rattle.py_data.specs.Heap.{Heap, new_rec}
use Rattle.py_data.specs.Holds.{Holds}
use Rattle.py_data.specs.Looking.{Looks, bytes_row}
use Rattle.py_data.specs.Order.{Rules, IsOrdered}
use Rattle.py_data.specs.Row.{Ret}
use Rattle.py_data.specs.Shape.{RefTo}
use Rattle.py_data.proofs.Holding.{holds_ret, holds_weaken}
use Rattle.py_data.proofs.HoldingCalls.{holds_make, holds_looks}
use Rattle.py_data.proofs.Looking.{looks_ret, looks_then, looks_held, bytes_looks}
use Rattle.py_data.proofs.Making.{made_fits}
use Rattle.obj_class.specs.declared.lookup.Found.{Found}
use Rattle.obj_class.specs.declared.lookup.Found.TheVariants.{Plain, Bound}
use Rattle.obj_class.specs.Attributes.{attribute, attribute_fault, bytes_in}
use Rattle.obj_class.specs.AttrRows.{attr_row, find_attr_row, given_row, method_row, missing_row}
use Rattle.obj_class.specs.Bases.{ref}
use Rattle.obj_class.specs.HoldsLaws.{IsGiven, IsUnbound}
use Rattle.obj_class.specs.Roots.{IsRoots}
use Rattle.obj_class.proofs.AttrHolds.{IsGood, attribute_good}
use Rattle.obj_class.proofs.AttrLooks.{find_looks}
use Rattle.obj_class.proofs.FaultHolds.{made_here}
use Rattle.obj_class.proofs.Parts.{Is, is_at}

module _ (S : Type 0) (x : Value) (h : Heap) (name : ℕ) (t : Is h Str name) where
  missing_looks : (A : Type 0) → Looks {S = S} (λ z. z ≡ Raise (attribute_fault (bytes_in (h name))))
      (missing_row {A = A} name) h
  unfolding missing_row
  missing_looks A =
      let p : Got A → Type 0 = λ z. z ≡ Raise (attribute_fault (bytes_in (h name))) in
      looks_then (λ bs. bs ≡ t.rec.bytes) p (bytes_row name) (λ t. Ret (Raise (attribute_fault t))) h
      (bytes_looks S h name t.rec t.here)
      (λ bs e. looks_ret S p (Raise (attribute_fault bs)) h
      (ap (λ bs. Raise (attribute_fault bs)) (e ∙ ap bytes_in (sym t.here))))

  given_looks : (o : Option Found) → IsUnbound o → Looks {S = S} (λ z. IsGiven x (bytes_in (h name)) o z h)
      (given_row x name o) h
  unfolding given_row
  given_looks None u = missing_looks Value
  given_looks (Some (Plain y)) u = looks_ret S (λ z. z ≡ IsGotten y) (IsGotten y) h refl
  given_looks (Some (Bound f)) u = absurd u

module _ {S : Type 0} (rules : Rules) (stands : Heap → S → Type 0) where
  given_is : (x : Value) (h : Heap) (name : ℕ) (t : Is h Str name) (order : IsOrdered rules h) → IsItem h x →
      (o : Option Found) → IfSome o (IsGood rules h order) →
      Holds rules stands (IsGiven x (bytes_in (h name)) o) (given_row {S = S} x name o) h
  unfolding given_row method_row
  given_is x h name t order i None g =
      let p : Got Value → Type 0 = λ z. z ≡ Raise (attribute_fault (bytes_in (h name))) in
      holds_weaken rules stands (λ a h1. (h1 ≡ h) × p a) (IsGiven x (bytes_in (h name)) None) (λ a h1 j. j.1)
      (missing_row {S = S} name) h (looks_held rules stands p h (missing_row {S = S} name)
      (missing_looks S x h name t Value))
  given_is x h name t order i (Some (Plain y)) g =
      holds_ret rules stands (IsGiven x (bytes_in (h name)) (Some (Plain y))) (IsGotten y) h refl
  given_is x h name t order i (Some (Bound f)) g =
      let made = new_rec Method (f ∷ x ∷ []) [] in
      let p = IsGiven x (bytes_in (h name)) (Some (Bound f)) in
      holds_make rules stands p made (λ a. Ret (IsGotten (ref a))) h
      (λ a. made_fits rules h a Method (f ∷ x ∷ []) [] (λ e. let q : Method ≡ Class = e in cc)
      (λ e. let q : Method ≡ Function = e in cc) (λ e. let q : Method ≡ Cell = e in cc) (g.0, (i, tt)) g.1 refl
      (omega arith) (omega arith))
      (λ a h1 order1 y e item. holds_ret rules stands p (IsGotten (ref a)) h1 (a, refl, made_here h h1 a made e))

  pub attr_given : (h : Heap) (roots name : ℕ) (x : Value) → IsOrdered rules h → IsRoots h roots → IsItem h x →
      RefTo h Str (ref name) → Holds rules stands (IsGiven x (bytes_in (h name)) (attribute h roots x name))
      (attr_row roots x name) h
  unfolding attr_row
  attr_given h roots name x order r i s =
      let t = is_at h Str name s in
      let o = attribute h roots x name in
      let p = IsGiven x (bytes_in (h name)) o in
      holds_looks rules stands p (λ z. z ≡ o) (find_attr_row roots x name) (λ o. given_row x name o) h order
      (find_looks S rules h order name t roots x r i.0)
      (λ z e. subst (λ z. Holds rules stands p (given_row {S = S} x name z) h) (sym e)
      (given_is x h name t order i o (attribute_good rules h order roots name x r)))

  pub attr_looks : (h : Heap) (roots name : ℕ) (x : Value) → IsOrdered rules h → IsRoots h roots → IsItem h x →
      RefTo h Str (ref name) → IsUnbound (attribute h roots x name)
      → Looks {S = S} (λ z. IsGiven x (bytes_in (h name)) (attribute h roots x name) z h) (attr_row roots x name) h
  unfolding attr_row
  attr_looks h roots name x order r i s u =
      let t = is_at h Str name s in
      let o = attribute h roots x name in
      let p : Got Value → Type 0 = λ z. IsGiven x (bytes_in (h name)) o z h in
      looks_then (λ z. z ≡ o) p (find_attr_row roots x name) (λ o. given_row x name o) h
      (find_looks S rules h order name t roots x r i.0)
      (λ z e. subst (λ z. Looks {S = S} p (given_row x name z) h) (sym e) (given_looks S x h name t o u))
