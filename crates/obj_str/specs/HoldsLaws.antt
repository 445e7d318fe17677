-- Over each heap in order each method of a string holds; and no record is longer in its course than before it or at its
-- end.
-- States `docs/LANGUAGE.md`, "Methods of strings", and `docs/HEAP.md`, "Rows that hold".
use Rattle.std.specs.Prelude.{◌≡◌, ℕ, false, List}
use Rattle.py_base.specs.declared.kind.Kind.TheVariants.{Str}
use Rattle.py_data.specs.declared.value.Value.{Value}
use Rattle.py_data.specs.Answers.{IsAnswer}
use Rattle.py_data.specs.Closed.{IsItem}
use Rattle.py_data.specs.Every.{Every}
use Rattle.py_data.specs.Heap.{Heap}
use Rattle.py_data.specs.Holds.{Holds}
use Rattle.py_data.specs.Order.{Rules, IsOrdered}
use Rattle.py_data.specs.Shape.{KindIn}
use Rattle.py_data.specs.Steady.{Steady}
use Rattle.obj_str.specs.Methods.{method_row}
use Rattle.obj_str.specs.Strings.{new_text}

-- a string stands at the address
abbrev pub IsStrAt : Heap → ℕ → Type 0
IsStrAt h a = KindIn (h a) (λ k. k ≡ Str)

-- a new string may be made, and each method called with values that stand in the heap
pub record StrHolds {S : Type 0} (rules : Rules) (stands : Heap → S → Type 0) : Type 0 where
  pub new_text : (h : Heap) (bs : List ℕ) → IsOrdered rules h → Holds rules stands IsAnswer (new_text bs) h
  pub method : (h : Heap) (m a : ℕ) (args : List Value) → IsOrdered rules h → IsStrAt h a → Every (IsItem h) args →
      Holds rules stands IsAnswer (method_row m a args) h

pub record StrSteady (S : Type 0) : Type 0 where
  pub new_text : (bs : List ℕ) → Steady {S = S} false (new_text bs)
  pub method : (m a : ℕ) (args : List Value) → Steady {S = S} false (method_row m a args)
