-- Laws of heaps in order and of rows that hold, in the words in which `src/laws.rt` ensures them.
-- States `docs/HEAP.md`, "Order of a heap" and "Rows that hold".
use Rattle.std.specs.Prelude.{◌≡◌, ℕ, Bool, false, List, ◌++◌}
use Rattle.py_data.specs.declared.change.Change.{Change}
use Rattle.py_data.specs.Every.{Every}
use Rattle.py_data.specs.Heap.{Heap, Rec, no_records}
use Rattle.py_data.specs.Changes.{after, Allows, Suits, AreShort}
use Rattle.py_data.specs.Closed.{IsClosed}
use Rattle.py_data.specs.Order.{Rules, FitsAt, IsOrdered, Extends, Puts}
use Rattle.py_data.specs.Row.{Row, bind}
use Rattle.py_data.specs.Sense.{Sense, Run, Safe, ShownOf}
use Rattle.py_data.specs.Sight.{Sight, Does}
use Rattle.py_data.specs.Holds.{Holds}
use Rattle.py_data.specs.Looking.{Looks}

-- to extend a heap is a preorder
pub record ExtendsLaw : Type 0 where
  pub same : (h : Heap) → Extends h h
  pub then : (h h1 h2 : Heap) → Extends h h1 → Extends h1 h2 → Extends h h2

pub record OrderLaw (rules : Rules) : Type 0 where
  -- the empty heap is in order
  pub empty : IsOrdered rules no_records
  -- a heap in order is closed, and its records are within the limit
  pub closed : (h : Heap) → IsOrdered rules h → IsClosed h
  pub short : (h : Heap) → IsOrdered rules h → AreShort h
  -- what fits over a heap in order fits over each heap that extends it
  pub stays : (h h1 : Heap) (a : ℕ) (r : Rec) → IsOrdered rules h → Extends h h1 → FitsAt rules h a r →
      FitsAt rules h1 a r
  -- a record that fits is left fitting by each change that may be made and puts what may stand there
  pub change : (h : Heap) (a : ℕ) (c : Change) (r : Rec) → FitsAt rules h a r → Allows c r → Suits false h c r →
      Puts rules h a c r → FitsAt rules h a (after c r)

module _ {S A : Type 0} (rules : Rules) (stands : Heap → S → Type 0) (p : A → Heap → Type 0) where
  -- a row that holds is safe over each view that shows the heap, or a part of it
  abbrev pub HoldsSafe : Type 0
  HoldsSafe = (partial : Bool) (row : Row S A) (g h : Heap) → ShownOf partial g h → IsOrdered rules h →
      Holds rules stands p row h → Safe partial row g

  -- over each view of a whole heap: what a row that holds has answered has the property, and the heap is in order and
  -- extends the one before
  abbrev pub HoldsRun : {X : Type 0} → Sense S X → Type 0
  HoldsRun {X} u =
      u.partial ≡ false → (row : Row S A) (v w : X) (y : A) → Holds rules stands p row (u.heap v) →
      IsOrdered rules (u.heap v) → Run u row v y w
      → p y (u.heap w) × IsOrdered rules (u.heap w) × Extends (u.heap v) (u.heap w)

  -- by its meaning: the same, and each state that it has started may stand over the heap
  pub record Held (s : Sight S) (y : A) (t : Sight S) : Type 0 where
    pub answer : p y t.heap
    pub order : IsOrdered rules t.heap
    pub extends : Extends s.heap t.heap
    pub started : List S
    pub more : t.started ≡ s.started ++ started
    pub each : Every (stands t.heap) started

  abbrev pub HoldsDoes : Type 0
  HoldsDoes = (row : Row S A) (s t : Sight S) (y : A) → Holds rules stands p row s.heap → IsOrdered rules s.heap →
      Does row s y t → Held s y t

  -- a row that only looks holds, for all rules, and leaves the heap
  abbrev pub LooksHold : Type 0
  LooksHold = (row : Row S A) (h : Heap) → Looks (λ a. p a h) row h →
      Holds rules stands (λ a h1. (h1 ≡ h) × p a h) row h

  -- a row holds where its first part does, and what follows holds over each heap in order that extends the first
  abbrev pub HoldsBind : {B : Type 0} → (B → Heap → Type 0) → Type 0
  HoldsBind {B} q =
      (row : Row S A) (f : A → Row S B) (h : Heap) → IsOrdered rules h → Holds rules stands p row h
      → ((a : A) (h1 : Heap) → IsOrdered rules h1 → Extends h h1 → p a h1 → Holds rules stands q (f a) h1) →
      Holds rules stands q (bind row f) h

-- over each view: a row that only looks has left the heap, and has answered what has the property
abbrev pub LooksRun : {S X A : Type 0} → Sense S X → (A → Heap → Type 0) → Type 0
LooksRun {S} {X} {A} u p = (row : Row S A) (v w : X) (y : A) → Looks (λ a. p a (u.heap v)) row (u.heap v) →
    Run u row v y w → p y (u.heap v) × (u.heap w ≡ u.heap v)

-- a row only looks where its first part does, and what follows does for each answer that the part may give
abbrev pub LooksBind : {A B : Type 0} → Type 0 → (A → Heap → Type 0) → (B → Heap → Type 0) → Type 0
LooksBind {A} {B} S p q =
    (row : Row S A) (f : A → Row S B) (h : Heap) → Looks (λ a. p a h) row h →
    ((a : A) → p a h → Looks (λ b. q b h) (f a) h) → Looks (λ b. q b h) (bind row f) h
