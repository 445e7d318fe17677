-- What rows of nested values answer, for operators that are put together from them: anything, or an exception that can
-- be made.
use Rattle.std.proofs.Common.{◌≡◌, ℕ, Bool, subst, sym}
use Rattle.py_data.specs.declared.value.Value.{Value}
use Rattle.py_data.specs.Heap.{Heap}
use Rattle.py_data.specs.Closed.{IsItem}
use Rattle.py_data.specs.Comparing.{equal, order}
use Rattle.py_data.specs.Order.{Rules, IsOrdered}
use Rattle.py_data.specs.Looking.{Looks}
use Rattle.py_data.specs.Answers.{IsGot}
use Rattle.py_data.proofs.Looking.{looks_weaken}
use Rattle.obj_nest.specs.Equal.{equal_row}
use Rattle.obj_nest.specs.Ordering.{order_row}
use Rattle.obj_class.specs.Roots.{IsRoots}
use Rattle.obj_class.specs.Telling.{text_of, told_row}
use Rattle.obj_class.proofs.TellingLooks.{told_looks}
use Rattle.obj_nest.proofs.NestLooks as nest
use Rattle.obj_ops.proofs.Faults.{equal_can, order_can, text_can}
pub use Rattle.obj_ops.proofs.Faults.{IsAny}
pub use Rattle.obj_str.proofs.StrHolds.{new_text_holds}

module _ (S : Type 0) (rules : Rules) (h : Heap) (ordered : IsOrdered rules h) where
  pub equal_looks : (x y : Value) → IsItem h x → IsItem h y → Looks {S = S} (λ g. IsGot IsAny g h) (equal_row x y) h
  equal_looks x y i j = looks_weaken (λ z. z ≡ equal h x y) (λ g. IsGot IsAny g h)
      (λ g e. subst (λ z. IsGot IsAny z h) (sym e) (equal_can h h x y)) (equal_row x y) h
      (nest.equal_looks S rules h x y ordered i j)

  pub order_looks : (x y : Value) → IsItem h x → IsItem h y → Looks {S = S} (λ g. IsGot IsAny g h) (order_row x y) h
  order_looks x y i j = looks_weaken (λ z. z ≡ order h x y) (λ g. IsGot IsAny g h)
      (λ g e. subst (λ z. IsGot IsAny z h) (sym e) (order_can h h x y)) (order_row x y) h
      (nest.order_looks S rules h x y ordered i j)

  pub text_looks : (roots : ℕ) → IsRoots h roots → (x : Value) (quoted : Bool) → IsItem h x →
      Looks {S = S} (λ g. IsGot IsAny g h) (told_row roots x quoted) h
  text_looks roots r x quoted i =
      looks_weaken (λ z. z ≡ text_of h roots x quoted) (λ g. IsGot IsAny g h)
      (λ g e. subst (λ z. IsGot IsAny z h) (sym e) (text_can h h roots x quoted)) (told_row roots x quoted) h
      (told_looks S rules h ordered roots r x quoted i)
