-- What the operations on lists answer and leave, in words of the list alone, and what they raise.
-- States `docs/LANGUAGE.md`, "Lists and tuples" and "Iteration".
use Rattle.std.specs.Prelude.{◌≡◌, ◌≢◌, ℕ, ℤ, ◌+◌, ◌/◌, ◌<◌, ◌≤◌, List, [], ◌∷◌, ◌++◌, length, take, drop, reverse, slice_set, Option, Some, None}
use Rattle.py_base.specs.declared.kind.Kind.TheVariants.{Dict, Iter}
use Rattle.py_data.specs.declared.value.Value.{Value}
use Rattle.py_data.specs.declared.value.Value.TheVariants.{Ref}
use Rattle.py_data.specs.declared.record.Got.{Got}
use Rattle.py_data.specs.declared.record.Got.TheVariants.{Is, Raise}
use Rattle.py_data.specs.declared.record.TheConstants.{LENGTH_LIMIT}
use Rattle.py_data.specs.Fault.{index_fault, empty_fault, memory_fault, iterable_fault, size_fault}
use Rattle.py_data.specs.Heap.{Heap, Rec, value_at, new_rec}
use Rattle.py_data.specs.Row.{Row}
use Rattle.py_data.specs.Sense.{Sense, Run}
use Rattle.py_data.specs.Shape.{RefTo, IsIterable}
use Rattle.obj_seq.specs.Iter.{iter_values, iter_row, next_row}
use Rattle.obj_seq.specs.Seq.{place, bound, bound_or, part, item_row, set_item_row, del_item_row, pop_row, insert_row, reverse_row, slice_row}

-- the record at an address has these values now, and is else as it was but for its room; all other records are as they
-- were
pub record Leaves (a : ℕ) (r : Rec) (items : List Value) (h h1 : Heap) : Type 0 where
  pub now : Rec
  pub is : h1 a ≡ Some now
  pub same : now ≡ record r { values = items; room = now.room }
  pub others : (b : ℕ) → b ≢ a → h1 b ≡ h b

module _ {S X : Type 0} (u : Sense S X) where
  -- a row answers this, and leaves all records as they were
  abbrev pub Says : {A : Type 0} → A → A → X → X → Type 0
  Says y res v w = (res ≡ y) × (u.heap w ≡ u.heap v)

  -- the item that an index names; all records are as they were
  abbrev pub ItemLaw : Type 0
  ItemLaw =
      (a : ℕ) (i : ℤ) (r : Rec) (k : ℕ) (v w : X) (res : Got Value) → u.heap v a ≡ Some r →
      place i (length r.values) ≡ Some k → Run u (item_row a i) v res w
      → Says (Is (value_at r.values k)) res v w

  -- another value in the place of the item that an index names
  abbrev pub SetLaw : Type 0
  SetLaw =
      (a : ℕ) (i : ℤ) (x : Value) (r : Rec) (k : ℕ) (v w : X) (res : Got (Unit {0})) → u.heap v a ≡ Some r →
      place i (length r.values) ≡ Some k → Run u (set_item_row a i x) v res w
      → (res ≡ Is tt) × Leaves a r (slice_set r.values k x) (u.heap v) (u.heap w)

  -- an item that was taken out: it is the answer, and the others are left in their order
  abbrev pub PopLaw : Type 0
  PopLaw =
      (a : ℕ) (i : ℤ) (r : Rec) (k : ℕ) (v w : X) (res : Got Value) → u.heap v a ≡ Some r →
      place i (length r.values) ≡ Some k → Run u (pop_row a i) v res w
      → (res ≡ Is (value_at r.values k)) × Leaves a r (take k r.values ++ drop (k + 1) r.values) (u.heap v) (u.heap w)

  abbrev pub DelLaw : Type 0
  DelLaw =
      (a : ℕ) (i : ℤ) (r : Rec) (k : ℕ) (v w : X) (res : Got (Unit {0})) → u.heap v a ≡ Some r →
      place i (length r.values) ≡ Some k → Run u (del_item_row a i) v res w
      → (res ≡ Is tt) × Leaves a r (take k r.values ++ drop (k + 1) r.values) (u.heap v) (u.heap w)

  -- a value that was put in stands between those before the bound and those from there on
  abbrev pub InsertLaw : Type 0
  InsertLaw =
      (a : ℕ) (i : ℤ) (x : Value) (r : Rec) (v w : X) (res : Got (Unit {0})) → u.heap v a ≡ Some r →
      length r.values < LENGTH_LIMIT → Run u (insert_row a i x) v res w
      → (res ≡ Is tt) × Leaves a r (take (bound i (length r.values)) r.values ++ x ∷ drop (bound i (length r.values))
      r.values) (u.heap v) (u.heap w)

  -- a list that was turned round
  abbrev pub ReverseLaw : Type 0
  ReverseLaw = (a : ℕ) (r : Rec) (v w : X) → u.heap v a ≡ Some r → Run u (reverse_row a) v tt w →
      Leaves a r (reverse r.values) (u.heap v) (u.heap w)

  -- a slice is a new record of the same kind, of the values between its bounds; all other records are as they were
  abbrev pub SliceLaw : Type 0
  SliceLaw =
      (a : ℕ) (from to : Option ℤ) (r : Rec) (v w : X) (res : Got Value) → u.heap v a ≡ Some r →
      Run u (slice_row a from to) v res w
      → (b : ℕ) × (res ≡ Is (Ref (record { 0 = b }))) × (u.heap v b ≡ None)
      × (u.heap w b ≡ Some (new_rec r.kind
      (part r.values (bound_or from 0 (length r.values)) (bound_or to (length r.values) (length r.values))) []))
      × ((c : ℕ) → c ≢ b → u.heap w c ≡ u.heap v c)

  -- ---- what is raised; all records are then as they were
  -- an index that no item has raises IndexError
  abbrev pub IndexLaw : {A : Type 0} → (ℕ → ℤ → Row S (Got A)) → Type 0
  IndexLaw {A} row =
      (a : ℕ) (i : ℤ) (r : Rec) (v w : X) (res : Got A) → u.heap v a ≡ Some r → place i (length r.values) ≡ None →
      Run u (row a i) v res w → Says (Raise index_fault) res v w

  -- so does `pop`, but of an empty list, where it says so
  abbrev pub PopIndexLaw : Type 0
  PopIndexLaw =
      (a : ℕ) (i : ℤ) (r : Rec) (v w : X) (res : Got Value) → u.heap v a ≡ Some r → 0 < length r.values →
      place i (length r.values) ≡ None → Run u (pop_row a i) v res w
      → Says (Raise index_fault) res v w

  abbrev pub EmptyLaw : Type 0
  EmptyLaw = (a : ℕ) (i : ℤ) (r : Rec) (v w : X) (res : Got Value) → u.heap v a ≡ Some r → r.values ≡ [] →
      Run u (pop_row a i) v res w → Says (Raise empty_fault) res v w

  -- a list that has as many items as a list may have takes no other: MemoryError
  abbrev pub FullLaw : Type 0
  FullLaw =
      (a : ℕ) (i : ℤ) (x : Value) (r : Rec) (v w : X) (res : Got (Unit {0})) → u.heap v a ≡ Some r →
      LENGTH_LIMIT ≤ length r.values → Run u (insert_row a i x) v res w
      → Says (Raise memory_fault) res v w

  -- what can't be gone through, and isn't an iterator, has no iterator: TypeError
  abbrev pub NoIterLaw : Type 0
  NoIterLaw = (x : Value) (v w : X) (res : Got Value) → (IsIterable (u.heap v) x → ⊥) → (RefTo (u.heap v) Iter x → ⊥) →
      Run u (iter_row x) v res w → Says (Raise iterable_fault) res v w

  -- an iterator over a dictionary that hasn't as many pairs as at its start goes on no more: RuntimeError
  abbrev pub SizeLaw : Type 0
  SizeLaw =
      (it d at count : ℕ) (q r : Rec) (v w : X) (res : Got (Option Value)) → u.heap v it ≡ Some q →
      q.kind ≡ Iter → q.values ≡ iter_values d at count → u.heap v d ≡ Some r → r.kind ≡ Dict
      → length r.values / 2 ≢ count → Run u (next_row it) v res w → Says (Raise size_fault) res v w
