-- Over each heap in order each operator holds; and no record is longer in its course than before it or at its end.
-- States `docs/LANGUAGE.md`, "Arithmetic", "Operators on sequences" and "The % operator", and `docs/HEAP.md`, "Rows
-- that hold".
use Rattle.std.specs.Prelude.{ℕ, false}
use Rattle.py_data.specs.declared.value.Value.{Value}
use Rattle.py_data.specs.Heap.{Heap}
use Rattle.py_data.specs.Closed.{IsItem}
use Rattle.py_data.specs.Order.{Rules, IsOrdered}
use Rattle.py_data.specs.Holds.{Holds}
use Rattle.py_data.specs.Answers.{IsAnswer}
use Rattle.py_data.specs.Steady.{Steady}
use Rattle.obj_class.specs.Roots.{IsRoots}
use Rattle.obj_ops.specs.Binary.{unary_row, binary_row}
use Rattle.obj_ops.specs.InPlace.{in_place_row}
use Rattle.obj_ops.specs.Compare.{compare_row}

-- with items for its operands, and where `%` may be asked for with the list of roots, each operator may be begun,
-- leaves a heap in order, and answers an item or an exception
pub record OpsHold {S : Type 0} (rules : Rules) (stands : Heap → S → Type 0) : Type 0 where
  pub unary : (h : Heap) (op : ℕ) (x : Value) → IsOrdered rules h → IsItem h x →
      Holds rules stands IsAnswer (unary_row op x) h
  pub binary : (h : Heap) (roots op : ℕ) (x y : Value) → IsOrdered rules h → IsRoots h roots → IsItem h x →
      IsItem h y → Holds rules stands IsAnswer (binary_row roots op x y) h
  pub in_place : (h : Heap) (roots op : ℕ) (x y : Value) → IsOrdered rules h → IsRoots h roots → IsItem h x →
      IsItem h y → Holds rules stands IsAnswer (in_place_row roots op x y) h
  pub compare : (h : Heap) (op : ℕ) (x y : Value) → IsOrdered rules h → IsItem h x → IsItem h y →
      Holds rules stands IsAnswer (compare_row op x y) h

-- ---- steady rows

pub record OpsSteady (S : Type 0) : Type 0 where
  pub unary : (op : ℕ) (x : Value) → Steady {S = S} false (unary_row op x)
  pub binary : (roots op : ℕ) (x y : Value) → Steady {S = S} false (binary_row roots op x y)
  pub in_place : (roots op : ℕ) (x y : Value) → Steady {S = S} false (in_place_row roots op x y)
  pub compare : (op : ℕ) (x y : Value) → Steady {S = S} false (compare_row op x y)
