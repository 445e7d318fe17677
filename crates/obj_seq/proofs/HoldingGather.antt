-- Over each heap in order the items of an item are gathered.
use Rattle.std.proofs.Common.{arith, ◌≡◌, ℕ, zero, suc, ℤ, ◌+◌, ◌≤◌, true, false, ltb, List, [], ◌∷◌, ◌++◌, length, Option, Some, None, Result, Ok, Err, refl, sym, subst, ◌∙◌, length-append, lit<}
use Rattle.std.proofs.lemmas.Bool.{ltb-false}
use Rattle.std.specs.Prelude.{is_some}
use Rattle.py_base.specs.declared.kind.Kind.{Kind}
use Rattle.py_base.specs.declared.kind.Kind.TheVariants.{Str, Tuple, List as ListKind, Dict, Cell, Iter, Range}
use Rattle.py_data.specs.declared.value.Value.{Value}
use Rattle.py_data.specs.declared.value.Value.TheVariants.{Unset, None as NoneValue, Bool as BoolValue, Int, Ref, Builtin}
use Rattle.py_data.specs.declared.record.Fault.{Fault}
use Rattle.py_data.specs.declared.record.Got.{Got}
use Rattle.py_data.specs.declared.record.Got.TheVariants.{Is, Raise}
use Rattle.py_data.specs.declared.record.TheConstants.{LENGTH_LIMIT}
use Rattle.py_data.specs.Every.{Every}
use Rattle.py_data.specs.Fault.{iterable_fault, memory_fault}
use Rattle.py_data.specs.Heap.{Rec, Heap, new_rec}
use Rattle.py_data.specs.Shape.{KindIn}
use Rattle.py_data.specs.Closed.{IsItem}
use Rattle.py_data.specs.Row.{Row, Ret, Do, Read}
use Rattle.py_data.specs.Looking.{walk_row, walk_on}
use Rattle.py_data.specs.Order.{Rules, FitsAt, IsOrdered}
use Rattle.py_data.specs.Holds.{Holds}
use Rattle.py_data.specs.Answers.{IsGot, IsFault, IfItem}
use Rattle.py_data.specs.Range.{range_length, range_item}
use Rattle.py_data.proofs.EveryLemmas.{every_and}
use Rattle.py_data.proofs.Holding.{holds_ret, holds_bind}
use Rattle.py_data.proofs.HoldingCalls.{holds_read, holds_make}
use Rattle.py_data.proofs.ItemLemmas.{items_stay, fit_items}
use Rattle.py_data.proofs.Keep.{kind_stays}
use Rattle.py_data.proofs.Making.{text_fits}
use Rattle.obj_seq.specs.declared.span.Span.{Span}
use Rattle.obj_seq.specs.Iter.{next_row, span_of}
use Rattle.obj_seq.specs.Gather.{keys_of, letters_row, numbers, numbers_row, taken, take_row, left_row, gather_as, gather_of, gather_row}
use Rattle.obj_seq.specs.HoldsLaws.{IsIterAt, AreItems, SeqHolds}
use Rattle.obj_seq.proofs.HoldingIters.{iter_item, make_iter_holds, next_holds}
use Rattle.obj_seq.proofs.Holding.{cond_holds, item_holds, set_item_holds, del_item_holds, pop_holds, insert_holds, reverse_holds, slice_holds}
pub use Rattle.obj_seq.proofs.SteadyRows.{gather_steady}

-- ---- lists of items
keys_items : (h : Heap) (vs : List Value) → Every (IsItem h) vs → Every (IsItem h) (keys_of vs)
keys_items h [] i = tt
keys_items h (k ∷ []) i = tt
keys_items h (k ∷ x ∷ rest) i = (i.0, keys_items h rest i.1.1)

keys_short : (vs : List Value) → length (keys_of vs) ≤ length vs
keys_short [] = omega arith
keys_short (k ∷ []) = omega arith
keys_short (k ∷ x ∷ rest) = omega (arith, keys_short rest)

numbers_items : (h : Heap) (start step : ℤ) (n : ℕ) → Every (IsItem h) (numbers start step n)
numbers_items h start step zero = tt
numbers_items h start step (suc n) =
    every_and (IsItem h) (numbers start step n) (Int (range_item start step n) ∷ []) (numbers_items h start step n)
    ((tt, λ e. let z : Int (range_item start step n) ≡ Unset = e in cc), tt)

numbers_count : (start step : ℤ) (n : ℕ) → length (numbers start step n) ≡ n
numbers_count start step zero = refl
numbers_count start step (suc n) = omega
    (arith, length-append (numbers start step n) (Int (range_item start step n) ∷ []), numbers_count start step n)

-- what a turn over an iterator leaves, where so many items were taken before
abbrev Took : ℕ → Result (List Value) (Got (List Value)) → Heap → Type 0
Took n (Ok xs) h = Every (IsItem h) xs × (length xs ≡ n + 1)
Took n (Err got) h = IsGot AreItems got h

took : (h : Heap) (xs : List Value) (g : Got (Option Value)) → Every (IsItem h) xs → length xs ≤ LENGTH_LIMIT →
    IsGot IfItem g h → Took (length xs) (taken xs g) h
took h xs (Is (Some x)) i l f = (every_and (IsItem h) xs (x ∷ []) i (f, tt), length-append xs (x ∷ []))
took h xs (Is None) i l f = (i, l)
took h xs (Raise e) i l f = f

module _ {S : Type 0} (rules : Rules) (stands : Heap → S → Type 0) where
  fault_holds : (e : Fault) (h : Heap) → IsFault h e → Holds {S = S} rules stands (IsGot AreItems) (Ret (Raise e)) h
  fault_holds e h i = holds_ret rules stands (IsGot AreItems) (Raise e) h i

  items_hold : (vs : List Value) (h : Heap) → Every (IsItem h) vs → length vs ≤ LENGTH_LIMIT →
      Holds {S = S} rules stands (IsGot AreItems) (Ret (Is vs)) h
  items_hold vs h i l = holds_ret rules stands (IsGot AreItems) (Is vs) h (i, l)

  letters_hold : (made : List Value) (bs : List ℕ) (h : Heap) → IsOrdered rules h → Every (IsItem h) made →
      length made + length bs ≤ LENGTH_LIMIT → Holds {S = S} rules stands (IsGot AreItems) (letters_row made bs) h
  unfolding letters_row
  letters_hold made [] h order i l = items_hold made h i (omega (arith, l))
  letters_hold made (x ∷ xs) h order i l =
      holds_make rules stands (IsGot AreItems) (new_rec Str [] (x ∷ []))
      (λ b. letters_row (made ++ Ref (record { 0 = b }) ∷ []) xs) h
      (λ b. text_fits rules h b (x ∷ []) (omega arith))
      (λ b h1 order1 y e item.
      let new = Ref (record { 0 = b }) ∷ [] in
      letters_hold (made ++ new) xs h1 order1 (every_and (IsItem h1) made new (items_stay h h1 y made i) (item, tt))
      (omega (arith, l, length-append made new)))

  numbers_hold : (o : Option Span) (h : Heap) → Holds {S = S} rules stands (IsGot AreItems) (numbers_row o) h
  unfolding numbers_row
  numbers_hold None h = fault_holds iterable_fault h (lit< tt, lit< tt, tt)
  numbers_hold (Some s) h =
      let n = range_length s.start s.stop s.step in
      cond_holds rules stands (IsGot AreItems) (ltb LENGTH_LIMIT n) (Ret (Raise memory_fault))
      (Ret (Is (numbers s.start s.step n))) h
      (λ y. fault_holds memory_fault h (lit< tt, lit< tt, tt))
      (λ z. items_hold (numbers s.start s.step n) h (numbers_items h s.start s.step n)
      (omega (arith, ltb-false LENGTH_LIMIT n z, numbers_count s.start s.step n)))

  take_holds : (it : ℕ) (xs : List Value) (h : Heap) → IsOrdered rules h → IsIterAt h it → Every (IsItem h) xs →
      length xs ≤ LENGTH_LIMIT → Holds {S = S} rules stands (Took (length xs)) (take_row it xs) h
  take_holds it xs h order k i l =
      holds_bind rules stands (IsGot IfItem) (Took (length xs)) (next_row it) (λ g. Ret (taken xs g)) h order
      (next_holds rules stands h it order (iter_item h it k))
      (λ g h1 order1 x f. holds_ret rules stands (Took (length xs)) (taken xs g) h1
      (took h1 xs g (items_stay h h1 x xs i) l f))

  on_holds : (row : List Value → Row S (Got (List Value))) (n : ℕ) (h : Heap) →
      ((xs : List Value) → Every (IsItem h) xs → length xs ≡ n + 1 → Holds rules stands (IsGot AreItems) (row xs) h)
      → (r : Result (List Value) (Got (List Value))) → Took n r h →
      Holds rules stands (IsGot AreItems) (walk_on row r) h
  on_holds row n h s (Ok xs) t = s xs t.0 t.1
  on_holds row n h s (Err got) t = holds_ret rules stands (IsGot AreItems) got h t

  left_from : (it m : ℕ) (xs : List Value) (h : Heap) → IsOrdered rules h → IsIterAt h it → Every (IsItem h) xs →
      length xs + m ≤ LENGTH_LIMIT + 1 →
      Holds {S = S} rules stands (IsGot AreItems) (walk_row (take_row it) (Raise memory_fault) m xs) h
  unfolding walk_row
  left_from it zero xs h order k i l = fault_holds memory_fault h (lit< tt, lit< tt, tt)
  left_from it (suc m) xs h order k i l =
      holds_bind rules stands (Took (length xs)) (IsGot AreItems) (take_row it xs)
      (walk_on (walk_row (take_row it) (Raise memory_fault) m)) h order
      (take_holds it xs h order k i (omega (arith, l)))
      (λ r h1 order1 x t.
      on_holds (walk_row (take_row it) (Raise memory_fault) m) (length xs) h1
      (λ ys j e. left_from it m ys h1 order1 (kind_stays h h1 x it (λ k. k ≡ Iter) k) j (omega (arith, l, e))) r t)

  left_holds : (it : ℕ) (h : Heap) → IsOrdered rules h → IsIterAt h it →
      Holds {S = S} rules stands (IsGot AreItems) (left_row it) h
  unfolding left_row
  left_holds it h order k = left_from it (LENGTH_LIMIT + 1) [] h order k tt (omega arith)

  -- the items of a record of a kind that isn't a Cell's
  from_holds : (a : ℕ) (r : Rec) (k : Kind) (h : Heap) → IsOrdered rules h → h a ≡ Some r → r.kind ≡ k →
      Holds {S = S} rules stands (IsGot AreItems) (gather_as a k r.values r.bytes) h
  from_holds a r k h order e f = by k f
    where
      fit : FitsAt rules h a r
      fit = order.each a r e

      by : (k : Kind) → r.kind ≡ k → Holds {S = S} rules stands (IsGot AreItems) (gather_as a k r.values r.bytes) h
      by ListKind f = items_hold r.values h
          (fit_items rules h a r fit (λ c. let z : ListKind ≡ Cell = sym f ∙ c in cc)) fit.short.0
      by Tuple f = items_hold r.values h (fit_items rules h a r fit (λ c. let z : Tuple ≡ Cell = sym f ∙ c in cc))
          fit.short.0
      by Dict f =
          items_hold (keys_of r.values) h
          (keys_items h r.values (fit_items rules h a r fit (λ c. let z : Dict ≡ Cell = sym f ∙ c in cc)))
          (omega (arith, fit.short.0, keys_short r.values))
      by Str f = letters_hold [] r.bytes h order tt (omega (arith, fit.short.1))
      by Range f = numbers_hold (span_of r.values) h
      by Iter f = left_holds a h order (subst (λ o. KindIn o (λ k. k ≡ Iter)) (sym e) f)
      by _ f = fault_holds iterable_fault h (lit< tt, lit< tt, tt)

  pub gather_holds : (h : Heap) (x : Value) → IsOrdered rules h → IsItem h x →
      Holds {S = S} rules stands (IsGot AreItems) (gather_row x) h
  unfolding gather_row
  gather_holds h (Ref a) order i = by (h a.0) refl i.0
    where
      by : (o : Option Rec) → h a.0 ≡ o → is_some o ≡ true →
          Holds {S = S} rules stands (IsGot AreItems) (Do (Read a.0) (gather_of a.0)) h
      by None e j = absurd (let z : false ≡ true = j in cc)
      by (Some r) e j = holds_read rules stands (IsGot AreItems) a.0 (gather_of a.0) h r e
          (from_holds a.0 r r.kind h order e refl)
  gather_holds h Unset order i = fault_holds iterable_fault h (lit< tt, lit< tt, tt)
  gather_holds h NoneValue order i = fault_holds iterable_fault h (lit< tt, lit< tt, tt)
  gather_holds h (BoolValue b) order i = fault_holds iterable_fault h (lit< tt, lit< tt, tt)
  gather_holds h (Int n) order i = fault_holds iterable_fault h (lit< tt, lit< tt, tt)
  gather_holds h (Builtin b) order i = fault_holds iterable_fault h (lit< tt, lit< tt, tt)

  pub seq_holds : SeqHolds rules stands
  seq_holds = record {
    item = item_holds rules stands;
    set_item = set_item_holds rules stands;
    del_item = del_item_holds rules stands;
    pop = pop_holds rules stands;
    insert = insert_holds rules stands;
    reverse = reverse_holds rules stands;
    slice = slice_holds rules stands;
    make_iter = make_iter_holds rules stands;
    next = next_holds rules stands;
    gather = gather_holds;
  }
