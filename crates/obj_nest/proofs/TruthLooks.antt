-- The row of truth only looks, may be begun over a heap in order, and answers what the definition of truth says.
use Rattle.std.proofs.Common.{◌≡◌, ℕ, Bool, List, [], ◌∷◌, Some, refl, sym, ap, subst, ◌∙◌}
use Rattle.py_base.specs.declared.kind.Kind.{Kind}
use Rattle.py_base.specs.declared.kind.Kind.TheVariants.{Str, Tuple, List as ListKind, Dict, Cell, Function, Class, Instance, Method, Iter, Range, Lock, Thread}
use Rattle.py_data.specs.declared.value.Value.{Value}
use Rattle.py_data.specs.declared.value.Value.TheVariants.{Unset, None as NoneValue, Bool as BoolValue, Int, Ref, Builtin}
use Rattle.py_data.specs.Heap.{Rec, Heap, value_at}
use Rattle.py_data.specs.Shape.{HasShape}
use Rattle.py_data.specs.Closed.{Refers}
use Rattle.py_data.specs.Range.{IsRange}
use Rattle.py_data.specs.Row.{Ret}
use Rattle.py_data.specs.Order.{Rules, IsOrdered}
use Rattle.py_data.specs.Looking.{Looks, look_row, kind_row}
use Rattle.py_data.specs.Truth.{truth, truth_by, has_item}
use Rattle.py_data.proofs.Steps.{at_is}
use Rattle.py_data.proofs.Looking.{looks_ret, looks_read, looks_then, looks_weaken, look_looks, some_of, kind_looks}
use Rattle.std.specs.Prelude.{nat_lt, length}
use Rattle.obj_nest.specs.Truth.{bytes_filled, values_filled, range_filled, stop_with, step_with, filled_by, filled_row, plain_truth, truth_row}
use Rattle.obj_nest.proofs.Filled.{filled}

-- a range has three values
three : (vs : List Value) → IsRange vs → value_at vs 0 ∷ value_at vs 1 ∷ value_at vs 2 ∷ [] ≡ vs
three (Int i ∷ Int j ∷ Int k ∷ []) h = refl
three _ h = absurd h

module _ (S : Type 0) (rules : Rules) (h : Heap) (order : IsOrdered rules h) where
  module _ (a : ℕ) (r : Rec) (e : h a ≡ Some r) where
    bytes_looks : Looks {S = S} (λ z. z ≡ nat_lt 0 (length r.bytes)) (bytes_filled a) h
    unfolding bytes_filled
    bytes_looks = looks_read (λ z. z ≡ nat_lt 0 (length r.bytes)) a (λ r. Ret (nat_lt 0 (length r.bytes))) h r e
        (looks_ret S (λ z. z ≡ nat_lt 0 (length r.bytes)) (nat_lt 0 (length r.bytes)) h refl)

    values_looks : Looks {S = S} (λ z. z ≡ nat_lt 0 (length r.values)) (values_filled a) h
    unfolding values_filled
    values_looks = looks_read (λ z. z ≡ nat_lt 0 (length r.values)) a (λ r. Ret (nat_lt 0 (length r.values))) h r e
        (looks_ret S (λ z. z ≡ nat_lt 0 (length r.values)) (nat_lt 0 (length r.values)) h refl)

    range_looks : IsRange r.values → Looks {S = S} (λ z. z ≡ has_item r.values) (range_filled a) h
    unfolding range_filled stop_with step_with
    range_looks i =
        let p = λ (z : Bool). z ≡ has_item r.values in
        let q = three r.values i in
        looks_then (λ x. x ≡ value_at r.values 0) p (look_row a 0) (λ x. stop_with a x) h (look_looks S h a r e 0)
        (λ x ex. looks_then (λ y. y ≡ value_at r.values 1) p (look_row a 1) (λ y. step_with a x y) h
        (look_looks S h a r e 1)
        (λ y ey. looks_then (λ z. z ≡ value_at r.values 2) p (look_row a 2) (λ z. Ret (has_item (x ∷ y ∷ z ∷ []))) h
        (look_looks S h a r e 2)
        (λ z ez. looks_ret S p (has_item (x ∷ y ∷ z ∷ [])) h
        (ap (λ x. has_item (x ∷ y ∷ z ∷ [])) ex ∙
        (ap (λ y. has_item (value_at r.values 0 ∷ y ∷ z ∷ [])) ey ∙
        (ap (λ z. has_item (value_at r.values 0 ∷ value_at r.values 1 ∷ z ∷ [])) ez ∙ ap has_item q))))))

    all_values : Looks {S = S} (λ z. z ≡ truth_by Tuple r.values r.bytes) (values_filled a) h
    all_values = looks_weaken (λ z. z ≡ nat_lt 0 (length r.values)) (λ z. z ≡ truth_by Tuple r.values r.bytes)
        (λ z e. e ∙ filled r.values) (values_filled a) h values_looks

    by_looks : (k : Kind) → HasShape h k r.values →
        Looks {S = S} (λ z. z ≡ truth_by k r.values r.bytes) (filled_by a k) h
    unfolding filled_by
    by_looks Str i = looks_weaken (λ z. z ≡ nat_lt 0 (length r.bytes)) (λ z. z ≡ truth_by Str r.values r.bytes)
        (λ z e. e ∙ filled r.bytes) (bytes_filled a) h bytes_looks
    by_looks Tuple i = all_values
    by_looks ListKind i = all_values
    by_looks Dict i = all_values
    by_looks Range i = range_looks i
    by_looks Cell i = looks_ret S (λ z. z ≡ truth_by Cell r.values r.bytes) (truth_by Cell r.values r.bytes) h refl
    by_looks Function i = looks_ret S (λ z. z ≡ truth_by Function r.values r.bytes)
        (truth_by Function r.values r.bytes) h refl
    by_looks Class i = looks_ret S (λ z. z ≡ truth_by Class r.values r.bytes) (truth_by Class r.values r.bytes) h refl
    by_looks Instance i = looks_ret S (λ z. z ≡ truth_by Instance r.values r.bytes)
        (truth_by Instance r.values r.bytes) h refl
    by_looks Method i = looks_ret S (λ z. z ≡ truth_by Method r.values r.bytes) (truth_by Method r.values r.bytes) h
        refl
    by_looks Iter i = looks_ret S (λ z. z ≡ truth_by Iter r.values r.bytes) (truth_by Iter r.values r.bytes) h refl
    by_looks Lock i = looks_ret S (λ z. z ≡ truth_by Lock r.values r.bytes) (truth_by Lock r.values r.bytes) h refl
    by_looks Thread i = looks_ret S (λ z. z ≡ truth_by Thread r.values r.bytes) (truth_by Thread r.values r.bytes) h
        refl

    filled_looks : Looks {S = S} (λ z. z ≡ truth_by r.kind r.values r.bytes) (filled_row a) h
    unfolding filled_row
    filled_looks =
        let p = λ (z : Bool). z ≡ truth_by r.kind r.values r.bytes in
        looks_then (λ k. k ≡ r.kind) p (kind_row a) (λ k. filled_by a k) h (kind_looks S h a r e)
        (λ k ek. subst (λ k. Looks {S = S} p (filled_by a k) h) (sym ek)
        (by_looks r.kind (order.each a r e).closed.shaped.0))

  pub truth_at_looks : (x : Value) → Refers h x → Looks {S = S} (λ z. z ≡ truth h x) (truth_row x) h
  unfolding truth_row
  truth_at_looks (Ref a) i =
      let r = some_of (h a.0) i in
      looks_weaken (λ z. z ≡ truth_by r.0.kind r.0.values r.0.bytes) (λ z. z ≡ truth h (Ref a))
      (λ z e. e ∙ sym (ap (λ q. truth_by q.kind q.values q.bytes) (at_is h a.0 r.0 r.1))) (filled_row a.0) h
      (filled_looks a.0 r.0 r.1)
  truth_at_looks Unset i = looks_ret S (λ z. z ≡ truth h Unset) (plain_truth Unset) h refl
  truth_at_looks NoneValue i = looks_ret S (λ z. z ≡ truth h NoneValue) (plain_truth NoneValue) h refl
  truth_at_looks (BoolValue b) i = looks_ret S (λ z. z ≡ truth h (BoolValue b)) (plain_truth (BoolValue b)) h refl
  truth_at_looks (Int n) i = looks_ret S (λ z. z ≡ truth h (Int n)) (plain_truth (Int n)) h refl
  truth_at_looks (Builtin n) i = looks_ret S (λ z. z ≡ truth h (Builtin n)) (plain_truth (Builtin n)) h refl
