-- Rows that hold: each call has what it needs and leaves a heap in order, whatever the calls before it answered, and
-- the answer has a property.
-- States `docs/HEAP.md`, "Rows that hold".
use Rattle.std.specs.Prelude.{◌≡◌, ℕ, false, Some, None}
use Rattle.py_data.specs.Heap.{Rec, Heap}
use Rattle.py_data.specs.Changes.{after}
use Rattle.py_data.specs.Row.{Call, Reply, Row, Ret, Do, Edit, Make, Start}
use Rattle.py_data.specs.Sense.{Asks, Effect}
use Rattle.py_data.specs.Order.{Rules, FitsAt, IsOrdered, Extends}

-- another record may stand in the place of the one that is there
abbrev pub Refits : Rules → Heap → ℕ → (Rec → Rec) → Type 0
Refits rules h a f = (r : Rec) → h a ≡ Some r → FitsAt rules h a (f r)

-- A call leaves a heap in order: a changed record fits still, a new one fits at each free address, and a state that is
-- started may stand over the heap.
abbrev pub Tends : {S : Type 0} → Rules → (Heap → S → Type 0) → Call S → Heap → Type 0
Tends rules stands (Edit a c) h = Refits rules h a (after c)
Tends rules stands (Make r) h = (a : ℕ) → h a ≡ None → FitsAt rules h a r
Tends rules stands (Start s) h = stands h s
Tends rules stands _ h = Unit {0}

-- From a heap the row holds, with this property of its answer and of the heap that it leaves.
unfoldable pub Holds : {S A : Type 0} → Rules → (Heap → S → Type 0) → (A → Heap → Type 0) → Row S A → Heap → Type 0
Holds rules stands p (Ret a) h = p a h
Holds rules stands p (Do c k) h =
    Asks false c h × Tends rules stands c h
    × ((r : Reply c) (h1 : Heap) → Effect false c h r h1 → IsOrdered rules h1 → Extends h h1 →
    Holds rules stands p (k r) h1)
