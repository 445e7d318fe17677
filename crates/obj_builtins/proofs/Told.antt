-- What comes from other crates: texts of values only look, and so does sorting, which answers items.
use Rattle.std.proofs.Common.{ℕ, Bool, List, length}
use Rattle.py_data.specs.declared.value.Value.{Value}
use Rattle.py_data.specs.Answers.{IsGot}
use Rattle.py_data.specs.Closed.{IsItem}
use Rattle.py_data.specs.Every.{Every}
use Rattle.py_data.specs.Heap.{Heap}
use Rattle.py_data.specs.Holds.{Holds}
use Rattle.py_data.specs.Looking.{Looks}
use Rattle.py_data.specs.Order.{Rules, IsOrdered}
use Rattle.obj_class.specs.Roots.{IsRoots}
use Rattle.obj_class.specs.Telling.{told_row}
use Rattle.obj_methods.specs.Sorting.{sorted_row}
use Rattle.obj_methods.proofs.MethodsHold.{methods_hold}
use Rattle.obj_ops.proofs.Nested as nested
pub use Rattle.obj_class.proofs.TellingCalm.{told_calm}
pub use Rattle.obj_methods.specs.HoldsLaws.{AreSoMany}
pub use Rattle.obj_ops.proofs.Nested.{IsAny}

pub told_looks : (S : Type 0) (rules : Rules) (h : Heap) → IsOrdered rules h → (roots : ℕ) (x : Value) (quoted : Bool)
    → IsRoots h roots → IsItem h x → Looks {S = S} (λ g. IsGot IsAny g h) (told_row roots x quoted) h
told_looks S rules h order roots x quoted known i = nested.text_looks S rules h order roots known x quoted i

pub sorted_holds : {S : Type 0} (rules : Rules) (stands : Heap → S → Type 0) (h : Heap) (vs : List Value) →
    IsOrdered rules h → Every (IsItem h) vs → Holds rules stands (IsGot (AreSoMany (length vs))) (sorted_row vs) h
sorted_holds rules stands h vs order i = (methods_hold rules stands).sorted h vs order i
