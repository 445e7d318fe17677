-- What operations on objects answer: values that may be items, and exceptions. States `docs/HEAP.md`, "Rows that hold".
use Rattle.std.specs.Prelude.{◌<◌, Option, IfSome, codes}
use Rattle.py_base.specs.Numbers.{class_number, class_count}
use Rattle.py_data.specs.declared.value.Value.{Value}
use Rattle.py_base.specs.declared.kind.Kind.{Kind}
use Rattle.py_base.specs.declared.kind.Kind.TheVariants.{List as ListKind, Tuple}
use Rattle.py_data.specs.declared.record.Got.{Got}
use Rattle.py_data.specs.declared.record.Got.TheVariants.{Is, Raise}
use Rattle.py_data.specs.declared.record.With.{With}
use Rattle.py_data.specs.declared.record.With.TheVariants.{Held}
use Rattle.py_data.specs.declared.record.Fault.{Fault}
use Rattle.py_data.specs.Heap.{Heap}
use Rattle.py_data.specs.Closed.{IsItem}

-- what an exception is told with is there
abbrev pub IsTold : Heap → With → Type 0
IsTold h (Held v) = IsItem h v
IsTold h _ = Unit {0}

-- an exception that can be made over a heap: it is of a class that every program has, which isn't `object`, and what it
-- is told with is there
abbrev pub IsFault : Heap → Fault → Type 0
IsFault h e = (class_number (codes "object") < e.exc) × (e.exc < class_count) × IsTold h e.with

-- what an operation answers has the property, or is an exception that can be made
abbrev pub IsGot : {A : Type 0} → (A → Heap → Type 0) → Got A → Heap → Type 0
IsGot p (Is a) h = p a h
IsGot p (Raise e) h = IsFault h e

-- an item, or an exception
abbrev pub IsAnswer : Got Value → Heap → Type 0
IsAnswer = IsGot (λ v h. IsItem h v)

-- an item, or none
abbrev pub IfItem : Option Value → Heap → Type 0
IfItem o h = IfSome o (IsItem h)

-- nothing, or an exception
abbrev pub IsDone : Got (Unit {0}) → Heap → Type 0
IsDone = IsGot (λ u h. Unit {0})

-- kinds of which any items may be the values
abbrev pub IsSequenceKind : Kind → Type 0
IsSequenceKind ListKind = Unit {0}
IsSequenceKind Tuple = Unit {0}
IsSequenceKind _ = ⊥
