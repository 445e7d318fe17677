-- When a heap is in order: each of its records is closed in it and within the limit of length, and is as a client asks
-- it to be; and what one heap keeps of another.
-- States `docs/HEAP.md`, "Order of a heap".
use Rattle.std.specs.Prelude.{◌≡◌, ℕ, zero, suc, false, List, Some}
use Rattle.py_data.specs.declared.change.Change.{Change}
use Rattle.py_data.specs.declared.change.Change.TheVariants.{Set, Push, Pair}
use Rattle.py_data.specs.declared.value.Value.{Value}
use Rattle.py_base.specs.declared.kind.Kind.{Kind}
use Rattle.py_base.specs.declared.kind.Kind.TheVariants.{Tuple, Cell, Function, Iter, Lock, Thread}
use Rattle.py_data.specs.Heap.{Rec, Heap, is_tracked, value_at}
use Rattle.py_data.specs.Shape.{RefTo, IsCount, IsBool, NoneOr, IsThreadNumber, IsIterable}
use Rattle.py_data.specs.Changes.{IsShort}
use Rattle.py_data.specs.Closed.{Refers, IsItem, IsClosedAt}

-- what a client asks, beyond their shape, of the values of a Function, and of what stands in the Cell at an address
pub record Rules : Type 1 where
  pub function : Heap → List Value → Type 0
  pub cell : ℕ → Value → Type 0

-- a record may stand at an address of a heap
pub record FitsAt (rules : Rules) (h : Heap) (a : ℕ) (r : Rec) : Type 0 where
  pub closed : IsClosedAt h r
  pub short : IsShort r
  pub function : r.kind ≡ Function → rules.function h r.values
  pub cell : r.kind ≡ Cell → rules.cell a (value_at r.values 0)

-- a heap is in order
pub record IsOrdered (rules : Rules) (h : Heap) : Type 0 where
  pub each : (a : ℕ) (r : Rec) → h a ≡ Some r → FitsAt rules h a r

-- a record is there still: of the same kind, and the same one where it is fixed
pub record IsKept (h1 : Heap) (a : ℕ) (r : Rec) : Type 0 where
  pub now : Rec
  pub here : h1 a ≡ Some now
  pub kind : now.kind ≡ r.kind
  pub fixed : is_tracked r.kind ≡ false → now ≡ r

-- the second heap keeps each record of the first
pub record Extends (h h1 : Heap) : Type 0 where
  pub kept : (a : ℕ) (r : Rec) → h a ≡ Some r → IsKept h1 a r

-- what is asked of a Function holds for good
pub record AreLasting (rules : Rules) : Type 0 where
  pub function : (h h1 : Heap) (vs : List Value) → Extends h h1 → rules.function h vs → rules.function h1 vs

-- a state that may stand over a heap in order may stand over each that extends it
abbrev pub StatesLast : {S : Type 0} → Rules → (Heap → S → Type 0) → Type 0
StatesLast {S} rules stands = (h h1 : Heap) (s : S) → IsOrdered rules h → Extends h h1 → stands h s → stands h1 s

-- ---- what a change may put into a record of a heap in order, so that the record fits still

-- the places of an Iter that goes on: what it goes over, its place, and the length at its start
abbrev pub IterPlace : Heap → ℕ → Value → Type 0
IterPlace h zero x = IsIterable h x
IterPlace h (suc i) x = IsCount x

-- the places of a Thread: its target, its arguments, its number, and whether it has ended
abbrev pub ThreadPlace : Heap → ℕ → Value → Type 0
ThreadPlace h zero x = IsItem h x
ThreadPlace h (suc zero) x = RefTo h Tuple x
ThreadPlace h (suc (suc zero)) x = NoneOr IsThreadNumber x
ThreadPlace h (suc (suc (suc i))) x = IsBool x

-- the values that may be put in a place of a tracked record of each kind, which stands at an address
abbrev pub MayPut : Rules → Heap → ℕ → Kind → ℕ → Value → Type 0
MayPut rules h a Cell i x = Refers h x × rules.cell a x
MayPut rules h a Iter i x = IterPlace h i x
MayPut rules h a Lock i x = IsBool x
MayPut rules h a Thread i x = ThreadPlace h i x
MayPut rules h a _ i x = IsItem h x

-- what a change puts into a record may stand there
abbrev pub Puts : Rules → Heap → ℕ → Change → Rec → Type 0
Puts rules h a (Set i x) r = MayPut rules h a r.kind i x
Puts rules h a (Push x) r = IsItem h x
Puts rules h a (Pair key x) r = IsItem h key × IsItem h x
Puts rules h a _ r = Unit {0}
