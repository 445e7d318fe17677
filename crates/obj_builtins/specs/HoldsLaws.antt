-- Over each heap in order each builtin function holds; and no record is longer in its course than before it or at its
-- end. States `docs/LANGUAGE.md`, "Builtins", and `docs/HEAP.md`, "Rows that hold".
use Rattle.std.specs.Prelude.{ℕ, false, List}
use Rattle.py_data.specs.declared.value.Value.{Value}
use Rattle.py_data.specs.Answers.{IsAnswer}
use Rattle.py_data.specs.Closed.{IsItem}
use Rattle.py_data.specs.Every.{Every}
use Rattle.py_data.specs.Heap.{Heap}
use Rattle.py_data.specs.Holds.{Holds}
use Rattle.py_data.specs.Order.{Rules, IsOrdered}
use Rattle.py_data.specs.Steady.{Steady}
use Rattle.obj_class.specs.Roots.{IsRoots}
use Rattle.obj_builtins.specs.Functions.{function_row}

-- with the program's list of roots and with items for its arguments each function may be begun, leaves a heap in order,
-- and answers an item or an exception
pub record FunctionsHold {S : Type 0} (rules : Rules) (stands : Heap → S → Type 0) : Type 0 where
  pub function : (h : Heap) (roots b : ℕ) (args : List Value) → IsOrdered rules h → IsRoots h roots →
      Every (IsItem h) args → Holds rules stands IsAnswer (function_row roots b args) h

pub record FunctionsSteady (S : Type 0) : Type 0 where
  pub function : (roots b : ℕ) (args : List Value) → Steady {S = S} false (function_row roots b args)
