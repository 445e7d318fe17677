-- What sorting and the methods of lists answer and leave, in words of items, of equality and of order.
-- States `docs/LANGUAGE.md`, "Methods of lists" and "Sorting".
use Rattle.std.specs.Prelude.{◌≡◌, ◌≢◌, ◌⊎◌, ℕ, ◌+◌, ◌<◌, ◌≤◌, pos, Bool, true, false, List, [], ◌∷◌, ◌++◌, length, take, drop, Some}
use Rattle.std.specs.List.{filter}
use Rattle.std.specs.List.Sorted.{IsPermutation}
use Rattle.std.specs.declared.cmp.Ordering.{Ordering}
use Rattle.std.specs.declared.cmp.Ordering.TheVariants.{Less, Equal}
use Rattle.py_base.specs.declared.kind.Kind.TheVariants.{List as ListKind}
use Rattle.py_data.specs.declared.record.Fault.{Fault}
use Rattle.py_data.specs.declared.record.Got.{Got}
use Rattle.py_data.specs.declared.record.Got.TheVariants.{Is, Raise}
use Rattle.py_data.specs.declared.record.TheConstants.{LENGTH_LIMIT}
use Rattle.py_data.specs.declared.value.Value.{Value}
use Rattle.py_data.specs.declared.value.Value.TheVariants.{None as NoneValue, Int}
use Rattle.py_data.specs.Closed.{IsItem}
use Rattle.py_data.specs.Comparing.{equal, order}
use Rattle.py_data.specs.Every.{Every}
use Rattle.py_data.specs.Fault.{memory_fault, operand_fault}
use Rattle.py_data.specs.Heap.{Heap, Rec, value_at}
use Rattle.py_data.specs.Looking.{Looks}
use Rattle.py_data.specs.Order.{Rules, IsOrdered}
use Rattle.py_data.specs.Sense.{Sense, Run}
use Rattle.obj_seq.specs.Laws.{Leaves, Says}
use Rattle.obj_nest.specs.Laws.{IsNumber, IsString}
use Rattle.obj_methods.specs.Lists.{append_row, index_with, lack_fault, remove_row, sort_row}
use Rattle.obj_methods.specs.Sorting.{sorted_row}

-- ---- sorting

-- all are numbers, or all are strings
abbrev pub CanSort : Heap → List Value → Type 0
CanSort h vs = Every (IsNumber h) vs ⊎ Every (IsString h) vs

-- neither of two values comes before the other
abbrev pub is_tie : Got Ordering → Bool
is_tie (Is Equal) = true
is_tie _ = false

-- values that tie with this one
abbrev pub tying : Heap → Value → List Value → List Value
tying h x ys = filter (λ y. is_tie (order h x y)) ys

-- the second list is the first one in order
pub record IsSorted (h : Heap) (xs ys : List Value) : Type 0 where
  -- it has the same values
  pub same : IsPermutation xs ys
  -- none comes before one that stands before it
  pub rises : (i j : ℕ) → i < j → j < length ys → order h (value_at ys j) (value_at ys i) ≢ Is Less
  -- those that tie stand in the order in which they stood
  pub stable : (i : ℕ) → i < length xs → tying h (value_at xs i) ys ≡ tying h (value_at xs i) xs

-- over a heap in order: values that can be sorted are, any others raise TypeError, and nothing is done but to look
pub record SortedLaw (S : Type 0) (rules : Rules) : Type 0 where
  pub sorted : (h : Heap) (vs : List Value) → IsOrdered rules h → Every (IsItem h) vs → CanSort h vs →
      Looks {S = S} (λ z. (ys : List Value) × (z ≡ Is ys) × IsSorted h vs ys) (sorted_row vs) h
  pub refused : (h : Heap) (vs : List Value) → IsOrdered rules h → Every (IsItem h) vs → (CanSort h vs → ⊥) →
      Looks {S = S} (λ z. z ≡ Raise operand_fault) (sorted_row vs) h

-- ---- searching

-- no item before a place is equal to a value
abbrev pub NoneBefore : Heap → Value → List Value → ℕ → Type 0
NoneBefore h x vs k = (i : ℕ) → i < k → equal h (value_at vs i) x ≡ Is false

-- the least place whose item is equal to a value
pub record IsFirst (h : Heap) (x : Value) (vs : List Value) (k : ℕ) : Type 0 where
  pub within : k < length vs
  pub same : equal h (value_at vs k) x ≡ Is true
  pub before : NoneBefore h x vs k

-- over a heap in order, of a list: the least place whose item is equal, ValueError where none is, and what a comparison
-- before it raises; nothing is done but to look
pub record SearchLaw (S : Type 0) (rules : Rules) : Type 0 where
  pub found : (h : Heap) (a : ℕ) (r : Rec) (x : Value) (k : ℕ) → IsOrdered rules h → h a ≡ Some r → r.kind ≡ ListKind →
      IsItem h x → IsFirst h x r.values k
      → Looks {S = S} (λ z. z ≡ Is (Int (pos k))) (index_with a (Some x)) h
  pub missing : (h : Heap) (a : ℕ) (r : Rec) (x : Value) → IsOrdered rules h → h a ≡ Some r → r.kind ≡ ListKind →
      IsItem h x → NoneBefore h x r.values (length r.values)
      → Looks {S = S} (λ z. z ≡ Raise lack_fault) (index_with a (Some x)) h
  pub raised : (h : Heap) (a : ℕ) (r : Rec) (x : Value) (k : ℕ) (e : Fault) → IsOrdered rules h → h a ≡ Some r →
      r.kind ≡ ListKind → IsItem h x → k < length r.values → equal h (value_at r.values k) x ≡ Raise e
      → NoneBefore h x r.values k → Looks {S = S} (λ z. z ≡ Raise e) (index_with a (Some x)) h

-- ---- what is left

module _ {S X : Type 0} (u : Sense S X) where
  -- a value that was appended comes last; a list that has as many items as a list may have takes no other
  abbrev pub AppendLaw : Type 0
  AppendLaw =
      (a : ℕ) (x : Value) (r : Rec) (v w : X) (res : Got Value) → u.heap v a ≡ Some r → length r.values < LENGTH_LIMIT
      → Run u (append_row a x) v res w
      → (res ≡ Is NoneValue) × Leaves a r (r.values ++ x ∷ []) (u.heap v) (u.heap w)

  abbrev pub AppendFullLaw : Type 0
  AppendFullLaw = (a : ℕ) (x : Value) (r : Rec) (v w : X) (res : Got Value) → u.heap v a ≡ Some r →
      LENGTH_LIMIT ≤ length r.values → Run u (append_row a x) v res w → Says u (Raise memory_fault) res v w

  module _ (rules : Rules) where
    -- the first equal item is gone, and the others are left in their order; where no item is equal, all is as it was
    abbrev pub RemoveLaw : Type 0
    RemoveLaw =
        (a : ℕ) (x : Value) (r : Rec) (k : ℕ) (v w : X) (res : Got Value) → IsOrdered rules (u.heap v) →
        u.heap v a ≡ Some r → r.kind ≡ ListKind → IsItem (u.heap v) x → IsFirst (u.heap v) x r.values k
        → Run u (remove_row a x) v res w → (res ≡ Is NoneValue) × Leaves a r (take k r.values ++ drop (k + 1) r.values)
        (u.heap v) (u.heap w)

    abbrev pub RemoveLackLaw : Type 0
    RemoveLackLaw =
        (a : ℕ) (x : Value) (r : Rec) (v w : X) (res : Got Value) → IsOrdered rules (u.heap v) → u.heap v a ≡ Some r →
        r.kind ≡ ListKind → IsItem (u.heap v) x → NoneBefore (u.heap v) x r.values (length r.values)
        → Run u (remove_row a x) v res w → Says u (Raise lack_fault) res v w

    -- a list that can be sorted is left in order, and any other one as it was
    abbrev pub SortLaw : Type 0
    SortLaw =
        (a : ℕ) (r : Rec) (v w : X) (res : Got Value) → IsOrdered rules (u.heap v) → u.heap v a ≡ Some r →
        r.kind ≡ ListKind → CanSort (u.heap v) r.values → Run u (sort_row a) v res w
        → (res ≡ Is NoneValue) × (ys : List Value) × IsSorted (u.heap v) r.values ys × Leaves a r ys (u.heap v)
        (u.heap w)

    abbrev pub SortRefusedLaw : Type 0
    SortRefusedLaw =
        (a : ℕ) (r : Rec) (v w : X) (res : Got Value) → IsOrdered rules (u.heap v) → u.heap v a ≡ Some r →
        r.kind ≡ ListKind → (CanSort (u.heap v) r.values → ⊥) → Run u (sort_row a) v res w
        → Says u (Raise operand_fault) res v w
