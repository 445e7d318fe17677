-- Over each heap in order each method of a list or a dictionary, and sorting, holds; and no record is longer in its
-- course than before it or at its end. States `docs/LANGUAGE.md`, "Methods of lists", "Methods of dictionaries" and
-- "Sorting", and `docs/HEAP.md`, "Rows that hold".
use Rattle.std.specs.Prelude.{◌≡◌, ℕ, false, List, length}
use Rattle.py_data.specs.declared.value.Value.{Value}
use Rattle.py_data.specs.Answers.{IsAnswer, IsGot}
use Rattle.py_data.specs.Closed.{IsItem}
use Rattle.py_data.specs.Every.{Every}
use Rattle.py_data.specs.Heap.{Heap}
use Rattle.py_data.specs.Holds.{Holds}
use Rattle.py_data.specs.Order.{Rules, IsOrdered}
use Rattle.py_data.specs.Steady.{Steady, Calm}
use Rattle.obj_seq.specs.HoldsLaws.{IsListAt}
use Rattle.obj_dict.specs.HoldsLaws.{IsDictAt}
use Rattle.obj_methods.specs.Lists.{list_method_row}
use Rattle.obj_methods.specs.Dicts.{dict_method_row}
use Rattle.obj_methods.specs.Sorting.{sorted_row}

-- so many items of the heap
abbrev pub AreSoMany : ℕ → List Value → Heap → Type 0
AreSoMany n vs h = Every (IsItem h) vs × (length vs ≡ n)

-- each may be begun with values that stand in the heap, leaves a heap in order, and answers what stands in it or an
-- exception
pub record MethodsHold {S : Type 0} (rules : Rules) (stands : Heap → S → Type 0) : Type 0 where
  pub list_method : (h : Heap) (m a : ℕ) (args : List Value) → IsOrdered rules h → IsListAt h a → Every (IsItem h) args
      → Holds rules stands IsAnswer (list_method_row m a args) h
  pub dict_method : (h : Heap) (m d : ℕ) (args : List Value) → IsOrdered rules h → IsDictAt h d → Every (IsItem h) args
      → Holds rules stands IsAnswer (dict_method_row m d args) h
  pub sorted : (h : Heap) (vs : List Value) → IsOrdered rules h → Every (IsItem h) vs →
      Holds rules stands (IsGot (AreSoMany (length vs))) (sorted_row vs) h

-- sorting makes nothing shorter, so it may also stand behind what makes a record longer
pub record MethodsSteady (S : Type 0) : Type 0 where
  pub list_method : (m a : ℕ) (args : List Value) → Steady {S = S} false (list_method_row m a args)
  pub dict_method : (m d : ℕ) (args : List Value) → Steady {S = S} false (dict_method_row m d args)
  pub sorted : (vs : List Value) → Calm {S = S} (sorted_row vs)
