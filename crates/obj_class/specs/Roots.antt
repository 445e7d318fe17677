-- What a program has in its heap from its first step on: the list of roots, with the classes that every program has.
-- States `docs/LANGUAGE.md`, "Exceptions" and "Instructions".
use Rattle.std.specs.Prelude.{◌≡◌, ℕ, ◌+◌, ◌<◌, ◌==◌, cond, codes, List, [], ◌∷◌, Some, get_or}
use Rattle.py_base.specs.declared.kind.Kind.TheVariants.{Str, Tuple, Cell, Class}
use Rattle.py_base.specs.Numbers.{class_names, class_number, class_count}
use Rattle.py_data.specs.declared.value.Value.{Value}
use Rattle.py_data.specs.declared.value.Value.TheVariants.{None as NoneValue}
use Rattle.py_data.specs.Heap.{Heap, Rec, value_at, new_rec}
use Rattle.py_data.specs.Shape.{RefTo}
use Rattle.obj_class.specs.Bases.{ref, up}

-- the base of each class, in the order of the classes; `object` has none
abbrev pub base_names : List (List ℕ)
base_names = codes "" ∷ codes "object" ∷ codes "BaseException" ∷ codes "Exception" ∷ codes "StandardError" ∷ codes
    "StandardError" ∷ codes "StandardError" ∷ codes "StandardError" ∷ codes "StandardError" ∷ codes "StandardError" ∷
    codes "StandardError" ∷ codes "StandardError" ∷ codes "StandardError" ∷ codes "StandardError" ∷ codes
    "ArithmeticError" ∷ codes "ArithmeticError" ∷ codes "LookupError" ∷ codes "LookupError" ∷ codes "NameError" ∷ codes
    "Exception" ∷ []

-- the name that a class has itself: `thread.error` is the class `error`
abbrev pub own_name : ℕ → List ℕ
own_name n = cond (n == class_number (codes "thread.error")) (codes "error") (get_or class_names n [])

-- behind the Cell of the count of threads come the classes, in the order of their numbers
abbrev pub class_place : ℕ → ℕ
class_place n = 1 + n

-- the class of a name, in a list of roots
abbrev pub root_class : List Value → List ℕ → Value
root_class vs name = value_at vs (class_place (class_number name))

-- the base of the class of a number: none of `object`, and of another the class of the base's name
abbrev pub root_base : List Value → ℕ → Value
root_base vs n = cond (n == class_number (codes "object")) NoneValue (root_class vs (get_or base_names n []))

-- in a list of roots, the class of a number stands at its place
pub record HasClass (h : Heap) (vs : List Value) (n : ℕ) : Type 0 where
  pub address : ℕ
  pub is : value_at vs (class_place n) ≡ ref address
  pub class : Rec
  pub here : h address ≡ Some class
  pub kind : class.kind ≡ Class
  pub name : ℕ
  pub named : value_at class.values 0 ≡ ref name
  pub text : h name ≡ Some (new_rec Str [] (own_name n))
  pub base : value_at class.values 1 ≡ root_base vs n

-- The record at an address is the list of roots of a program: the Cell of the count of threads, and then the classes.
-- What stands in the Cell is for a client to say, and so are the strings and the Cells behind the classes.
pub record IsRoots (h : Heap) (roots : ℕ) : Type 0 where
  pub list : Rec
  pub here : h roots ≡ Some list
  pub kind : list.kind ≡ Tuple
  pub counts : RefTo h Cell (value_at list.values 0)
  pub classes : (n : ℕ) → n < class_count → HasClass h list.values n

-- an exception class: `BaseException`, or one below it
abbrev pub IsExceptionClass : Heap → List Value → Value → Type 0
IsExceptionClass h vs v = (k : ℕ) × (up h k v ≡ root_class vs (codes "BaseException"))
