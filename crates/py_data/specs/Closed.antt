-- When a heap is closed: what its records refer to stands in it, and each has its kind's shape. States `docs/HEAP.md`,
-- "Closed heaps".
use Rattle.std.specs.Prelude.{◌≡◌, ◌≢◌, ℕ, suc, ◌<◌, Option, Some, None}
use Rattle.py_base.specs.Numbers.{builtin_count}
use Rattle.py_data.specs.declared.value.Value.{Value}
use Rattle.py_data.specs.declared.value.Value.TheVariants.{Unset, None as NoneValue, Ref, Builtin}
use Rattle.py_base.specs.declared.kind.Kind.TheVariants.{Class}
use Rattle.py_data.specs.Every.{Every}
use Rattle.py_data.specs.Heap.{Rec, Heap, Has, value_at}
use Rattle.py_data.specs.Shape.{IsShaped}

-- a reference is to a record that stands there, and a builtin's number is below their count
abbrev pub Refers : Heap → Value → Type 0
Refers h (Ref a) = Has h a.0
Refers h (Builtin b) = b < builtin_count
Refers h v = Unit {0}

-- a value that an item may be: it is set, and what it refers to is there
abbrev pub IsItem : Heap → Value → Type 0
IsItem h v = Refers h v × (v ≢ Unset)

-- the base of the record at an address, which is a class's second value
abbrev pub base_of : Option Rec → Value
base_of None = NoneValue
base_of (Some r) = value_at r.values 1

-- from this base on, at most so many classes follow, one the base of another, and then None
abbrev pub BasesEnd : Heap → ℕ → Value → Type 0
BasesEnd h n NoneValue = Unit {0}
BasesEnd h (suc n) (Ref a) = BasesEnd h n (base_of (h a.0))
BasesEnd h _ v = ⊥

-- a record is closed in a heap
pub record IsClosedAt (h : Heap) (r : Rec) : Type 0 where
  pub refers : Every (Refers h) r.values
  pub shaped : IsShaped h r
  pub bases : r.kind ≡ Class → (n : ℕ) × BasesEnd h n (value_at r.values 1)

-- a heap is closed: each of its records is closed in it
abbrev pub IsClosed : Heap → Type 0
IsClosed h = (a : ℕ) (r : Rec) → h a ≡ Some r → IsClosedAt h r
