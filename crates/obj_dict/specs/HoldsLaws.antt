-- Over each heap in order each operation on a dictionary holds; and no record is longer in its course than before it or
-- at its end.
-- States `docs/LANGUAGE.md`, "Dictionaries", and `docs/HEAP.md`, "Rows that hold".
use Rattle.std.specs.Prelude.{◌≡◌, ℕ, false}
use Rattle.py_base.specs.declared.kind.Kind.TheVariants.{Dict}
use Rattle.py_data.specs.declared.value.Value.{Value}
use Rattle.py_data.specs.Heap.{Heap}
use Rattle.py_data.specs.Shape.{KindIn}
use Rattle.py_data.specs.Closed.{IsItem}
use Rattle.py_data.specs.Order.{Rules, IsOrdered}
use Rattle.py_data.specs.Holds.{Holds}
use Rattle.py_data.specs.Answers.{IsGot, IfItem, IsAnswer, IsDone}
use Rattle.py_data.specs.Steady.{Steady}
use Rattle.obj_dict.specs.declared.listing.Part.{Part}
use Rattle.obj_dict.specs.Dict.{get_row, set_row, del_row}
use Rattle.obj_dict.specs.Listing.{list_of_row}

-- a dictionary stands at the address
abbrev pub IsDictAt : Heap → ℕ → Type 0
IsDictAt h d = KindIn (h d) (λ k. k ≡ Dict)

-- with values that stand in the heap each operation may be begun, leaves a heap in order, and answers what stands in it
-- or an exception
pub record DictHolds {S : Type 0} (rules : Rules) (stands : Heap → S → Type 0) : Type 0 where
  pub get : (h : Heap) (d : ℕ) (key : Value) → IsOrdered rules h → IsDictAt h d → IsItem h key →
      Holds rules stands (IsGot IfItem) (get_row d key) h
  pub set : (h : Heap) (d : ℕ) (key x : Value) → IsOrdered rules h → IsDictAt h d → IsItem h key → IsItem h x →
      Holds rules stands IsDone (set_row d key x) h
  pub del : (h : Heap) (d : ℕ) (key : Value) → IsOrdered rules h → IsDictAt h d → IsItem h key →
      Holds rules stands IsAnswer (del_row d key) h
  pub list_of : (h : Heap) (d : ℕ) (part : Part) → IsOrdered rules h → IsDictAt h d →
      Holds rules stands IsAnswer (list_of_row d part) h

pub record DictSteady (S : Type 0) : Type 0 where
  pub get : (d : ℕ) (key : Value) → Steady {S = S} false (get_row d key)
  pub set : (d : ℕ) (key x : Value) → Steady {S = S} false (set_row d key x)
  pub del : (d : ℕ) (key : Value) → Steady {S = S} false (del_row d key)
  pub list_of : (d : ℕ) (part : Part) → Steady {S = S} false (list_of_row d part)
