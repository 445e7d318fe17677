-- Over each heap in order each operation on a list, a tuple or an iterator holds; and no record is longer in its course
-- than before it or at its end.
-- States `docs/LANGUAGE.md`, "Lists and tuples" and "Iteration", and `docs/HEAP.md`, "Rows that hold".
use Rattle.std.specs.Prelude.{◌≡◌, ◌≤◌, ℕ, ℤ, false, List, length, Option}
use Rattle.py_base.specs.declared.kind.Kind.TheVariants.{List as ListKind, Iter}
use Rattle.py_data.specs.declared.value.Value.{Value}
use Rattle.py_data.specs.declared.value.Value.TheVariants.{Ref}
use Rattle.py_data.specs.declared.record.TheConstants.{LENGTH_LIMIT}
use Rattle.py_data.specs.Every.{Every}
use Rattle.py_data.specs.Heap.{Heap}
use Rattle.py_data.specs.Shape.{KindIn, RefTo}
use Rattle.py_data.specs.Closed.{IsItem}
use Rattle.py_data.specs.Order.{Rules, IsOrdered}
use Rattle.py_data.specs.Holds.{Holds}
use Rattle.py_data.specs.Answers.{IsGot, IfItem, IsAnswer, IsDone, IsSequenceKind}
use Rattle.py_data.specs.Steady.{Steady}
use Rattle.obj_seq.specs.Seq.{item_row, set_item_row, del_item_row, pop_row, insert_row, reverse_row, slice_row}
use Rattle.obj_seq.specs.Iter.{iter_row, next_row}
use Rattle.obj_seq.specs.Gather.{gather_row}

-- a list stands at the address
abbrev pub IsListAt : Heap → ℕ → Type 0
IsListAt h a = KindIn (h a) (λ k. k ≡ ListKind)

-- a list or a tuple does
abbrev pub IsSequenceAt : Heap → ℕ → Type 0
IsSequenceAt h a = KindIn (h a) IsSequenceKind

-- an iterator does
abbrev pub IsIterAt : Heap → ℕ → Type 0
IsIterAt h it = KindIn (h it) (λ k. k ≡ Iter)

-- a value is an iterator that stands in the heap
abbrev pub IsIterator : Value → Heap → Type 0
IsIterator x h = IsItem h x × RefTo h Iter x

-- items of the heap, and no more than a list may have
abbrev pub AreItems : List Value → Heap → Type 0
AreItems vs h = Every (IsItem h) vs × (length vs ≤ LENGTH_LIMIT)

-- with values that stand in the heap each operation may be begun, leaves a heap in order, and answers what stands in it
-- or an exception
pub record SeqHolds {S : Type 0} (rules : Rules) (stands : Heap → S → Type 0) : Type 0 where
  pub item : (h : Heap) (a : ℕ) (i : ℤ) → IsOrdered rules h → IsSequenceAt h a →
      Holds rules stands IsAnswer (item_row a i) h
  pub set_item : (h : Heap) (a : ℕ) (i : ℤ) (x : Value) → IsOrdered rules h → IsListAt h a → IsItem h x →
      Holds rules stands IsDone (set_item_row a i x) h
  pub del_item : (h : Heap) (a : ℕ) (i : ℤ) → IsOrdered rules h → IsListAt h a →
      Holds rules stands IsDone (del_item_row a i) h
  pub pop : (h : Heap) (a : ℕ) (i : ℤ) → IsOrdered rules h → IsListAt h a → Holds rules stands IsAnswer (pop_row a i) h
  pub insert : (h : Heap) (a : ℕ) (i : ℤ) (x : Value) → IsOrdered rules h → IsListAt h a → IsItem h x →
      Holds rules stands IsDone (insert_row a i x) h
  pub reverse : (h : Heap) (a : ℕ) → IsOrdered rules h → IsListAt h a →
      Holds rules stands (λ u h. Unit {0}) (reverse_row a) h
  pub slice : (h : Heap) (a : ℕ) (from to : Option ℤ) → IsOrdered rules h → IsSequenceAt h a →
      Holds rules stands IsAnswer (slice_row a from to) h
  pub make_iter : (h : Heap) (x : Value) → IsOrdered rules h → IsItem h x →
      Holds rules stands (IsGot IsIterator) (iter_row x) h
  pub next : (h : Heap) (it : ℕ) → IsOrdered rules h → IsItem h (Ref (record { 0 = it })) →
      Holds rules stands (IsGot IfItem) (next_row it) h
  pub gather : (h : Heap) (x : Value) → IsOrdered rules h → IsItem h x →
      Holds rules stands (IsGot AreItems) (gather_row x) h

pub record SeqSteady (S : Type 0) : Type 0 where
  pub item : (a : ℕ) (i : ℤ) → Steady {S = S} false (item_row a i)
  pub set_item : (a : ℕ) (i : ℤ) (x : Value) → Steady {S = S} false (set_item_row a i x)
  pub del_item : (a : ℕ) (i : ℤ) → Steady {S = S} false (del_item_row a i)
  pub pop : (a : ℕ) (i : ℤ) → Steady {S = S} false (pop_row a i)
  pub insert : (a : ℕ) (i : ℤ) (x : Value) → Steady {S = S} false (insert_row a i x)
  pub reverse : (a : ℕ) → Steady {S = S} false (reverse_row a)
  pub slice : (a : ℕ) (from to : Option ℤ) → Steady {S = S} false (slice_row a from to)
  pub make_iter : (x : Value) → Steady {S = S} false (iter_row x)
  pub next : (it : ℕ) → Steady {S = S} false (next_row it)
  pub gather : (x : Value) → Steady {S = S} false (gather_row x)
