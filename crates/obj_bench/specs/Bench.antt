-- What the bench knows of its view and its stack. States `docs/HEAP.md`, "Order of a heap".
use Rattle.std.specs.Prelude.{◌≡◌, ◌<◌, ℕ, zero, suc, pos, false, List, [], ◌∷◌, length}
use Rattle.py_base.specs.Numbers.{binary_signs, compare_signs}
use Rattle.py_data.specs.declared.value.Value.{Value}
use Rattle.py_data.specs.declared.value.Value.TheVariants.{Int}
use Rattle.py_data.specs.Every.{Every}
use Rattle.py_data.specs.Heap.{Heap}
use Rattle.py_base.specs.declared.kind.Kind.TheVariants.{Tuple, Class}
use Rattle.py_data.specs.Shape.{KindIn}
use Rattle.py_data.specs.Closed.{IsItem}
use Rattle.py_data.specs.Order.{Rules, IsOrdered}
use Rattle.py_data.specs.Sense.{Sense, IsLive}
use Rattle.obj_class.specs.Roots.{IsRoots}
use Rattle.obj_bench.specs.declared.operators.Operator.{Operator}
use Rattle.obj_bench.specs.declared.operators.Operator.TheVariants.{Binary, InPlace, Compare}

-- a client that asks nothing of a heap
abbrev pub free : Rules
free = record { function = λ h vs. Unit {0}; cell = λ a x. Unit {0} }

abbrev pub any_state : {S : Type 0} → Heap → S → Type 0
any_state h s = Unit {0}

-- there is a class at an address, or a tuple
abbrev pub IsClassAt : Heap → ℕ → Type 0
IsClassAt h a = KindIn (h a) (λ k. k ≡ Class)

abbrev pub IsTupleAt : Heap → ℕ → Type 0
IsTupleAt h a = KindIn (h a) (λ k. k ≡ Tuple)

-- there is an operator of that number
abbrev pub IsOperator : Operator → Type 0
IsOperator (Binary n) = n < length binary_signs
IsOperator (InPlace n) = n < length binary_signs
IsOperator (Compare n) = n < length compare_signs

-- a view of a whole heap gave no Stop, and its heap is in order
pub record Ready {S X : Type 0} (u : Sense S X) (v : X) : Type 0 where
  pub whole : u.partial ≡ false
  pub live : IsLive u v
  pub order : IsOrdered free (u.heap v)

module _ {S X : Type 0} (u : Sense S X) (roots : ℕ) where
  -- the same; the list of roots stands at an address, and each value of the stack stands in the heap
  pub record Good (stack : List Value) (v : X) : Type 0 where
    pub whole : u.partial ≡ false
    pub live : IsLive u v
    pub order : IsOrdered free (u.heap v)
    pub listed : IsRoots (u.heap v) roots
    pub items : Every (IsItem (u.heap v)) stack

  -- the same, and the answer has a property
  pub record GoodWith {A : Type 0} (p : A → Heap → Type 0) (stack : List Value) (x : A) (v : X) : Type 0 where
    pub good : Good stack v
    pub answer : p x (u.heap v)

-- pairs of so many numbers from i on, each with 0
abbrev pub pairs_from : ℕ → ℕ → List Value
pairs_from i zero = []
pairs_from i (suc n) = Int (pos i) ∷ Int (pos 0) ∷ pairs_from (suc i) n
