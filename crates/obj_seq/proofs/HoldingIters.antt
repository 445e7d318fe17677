-- Over each heap in order iterators are made and go on.
use Rattle.std.proofs.Common.{arith, ◌≡◌, ◌≢◌, ℕ, zero, suc, ◌+◌, ◌*◌, ◌<◌, Bool, true, false, cond, ltb, pos, List, [], ◌∷◌, length, slice_get, ◌⊎◌, inl, inr, Option, Some, None, refl, sym, ap, subst, ◌∙◌, lit<}
use Rattle.std.specs.Prelude.{is_some, IfSome}
use Rattle.py_base.specs.declared.kind.Kind.{Kind}
use Rattle.py_base.specs.declared.kind.Kind.TheVariants.{Str, Tuple, List as ListKind, Dict, Cell, Function, Class, Iter, Range}
use Rattle.py_data.specs.declared.value.Value.{Value}
use Rattle.py_data.specs.declared.value.Value.TheVariants.{Unset, None as NoneValue, Bool as BoolValue, Int, Ref, Builtin}
use Rattle.py_data.specs.declared.change.Change.TheVariants as change
use Rattle.py_data.specs.declared.record.Got.{Got}
use Rattle.py_data.specs.declared.record.Got.TheVariants.{Is, Raise}
use Rattle.py_data.specs.Every.{Every}
use Rattle.py_data.specs.Fault.{iterable_fault, operand_fault, size_fault}
use Rattle.py_data.specs.Heap.{Rec, Heap, is_tracked, new_rec}
use Rattle.py_data.specs.Shape.{KindIn, IsCount, is_iterable, IsIterable, HasShape}
use Rattle.py_data.specs.Changes.{IsValuePlace}
use Rattle.py_data.specs.Closed.{IsItem}
use Rattle.py_data.specs.Row.{Row, Ret, Do, Read}
use Rattle.py_data.specs.Order.{Rules, FitsAt, IsOrdered, MayPut}
use Rattle.py_data.specs.Holds.{Holds}
use Rattle.py_data.specs.Answers.{IsGot, IfItem}
use Rattle.py_data.proofs.Holding.{holds_ret}
use Rattle.py_data.proofs.HoldingCalls.{holds_read, holds_edit, holds_make}
use Rattle.py_data.proofs.ItemLemmas.{item_stays, fit_items}
use Rattle.py_data.proofs.Keep.{kind_stays}
use Rattle.py_data.proofs.Making.{made_fits, text_fits}
use Rattle.py_data.proofs.Steps.{put_here}
use Rattle.obj_seq.specs.declared.advance.Parts.{Parts}
use Rattle.obj_seq.specs.declared.span.Span.{Span}
use Rattle.py_data.specs.Range.{range_length, range_item}
use Rattle.obj_seq.specs.Iter.{iter_row, iter_of, count_of, is_iter, iter_values, make_iter_row, go_or_end, byte_or_end, number_in, pick, has_changed, is_str, iter_parts, next_over, next_by, next_with, next_row, parts_of, span_of}
use Rattle.obj_seq.specs.HoldsLaws.{IsIterAt, IsIterator}
use Rattle.obj_seq.proofs.IterFaults.{iter_kind}
use Rattle.obj_seq.proofs.Holding.{at_of, cond_holds}

-- ---- kinds
-- what has a length can be gone through
counted : (k : Kind) (vs : List Value) (bs : List ℕ) (n : ℕ) → count_of k vs bs ≡ Some n → is_iterable k ≡ true
counted Str vs bs n e = refl
counted Tuple vs bs n e = refl
counted ListKind vs bs n e = refl
counted Dict vs bs n e = refl
counted Range vs bs n e = refl
counted _ vs bs n e = absurd (let z : ◌≡◌ {A = Option ℕ} None (Some n) = e in cc)

iterable_set : (k : Kind) → is_iterable k ≡ true → k ≢ Cell
iterable_set k i e = let z : false ≡ true = sym (ap is_iterable e) ∙ i in cc

-- a record is an iterator, or says no parts
kind_iter : (k : Kind) → (k ≡ Iter) ⊎ ((vs : List Value) → iter_parts k vs ≡ None)
kind_iter Iter = inl refl
kind_iter _ = inr (λ vs. refl)

-- an iterator is a value that may be an item
pub iter_item : (h : Heap) (it : ℕ) → IsIterAt h it → IsItem h (Ref (record { 0 = it }))
iter_item h it k = let t = at_of h it (λ k. k ≡ Iter) k in
    (ap is_some t.here, λ e. let z : Ref (record { 0 = it }) ≡ Unset = e in cc)

-- ---- what an iterator has in hand
record Parted (h : Heap) (vs : List Value) : Type 0 where
  parts : Parts
  is : parts_of vs ≡ Some parts
  over : KindIn (h parts.over.0) (λ k. is_iterable k ≡ true)
  three : 1 < length vs

parted_three : (h : Heap) (over at count : Value) → IsIterable h over → IsCount at → IsCount count →
    Parted h (over ∷ at ∷ count ∷ [])
parted_three h (Ref a) (Int (pos at)) (Int (pos count)) i j k =
    record { parts = record { over = a; at = at; count = count }; is = refl; over = i; three = omega arith }
parted_three h (Ref a) (Int (pos at)) _ i j k = absurd k
parted_three h (Ref a) _ _ i j k = absurd j
parted_three h _ _ _ i j k = absurd i

parted : (h : Heap) (vs : List Value) → HasShape h Iter vs → Parted h vs
parted h (over ∷ at ∷ count ∷ []) s = parted_three h over at count s.0 s.1 s.2
parted h _ s = absurd s

parted_at : (rules : Rules) (h : Heap) (it : ℕ) (q : Rec) → IsOrdered rules h → h it ≡ Some q → q.kind ≡ Iter →
    Parted h q.values
parted_at rules h it q order e k = parted h q.values
    (subst (λ k. HasShape h k q.values) k (order.each it q e).closed.shaped.0)

-- ---- what there is at a place
get_has : {A : Type 0} (P : A → Type 0) (xs : List A) (i : ℕ) → Every P xs → IfSome (slice_get xs i) P
get_has P [] i e = tt
get_has P (x ∷ xs) zero e = e.0
get_has P (x ∷ xs) (suc i) e = get_has P xs i e.1

number_item : (h : Heap) (o : Option Span) (at : ℕ) → IfItem (number_in o at) h
number_item h (Some s) at = by (ltb at (range_length s.start s.stop s.step))
  where
    by : (b : Bool) → IfItem (cond b (Some (Int (range_item s.start s.step at))) None) h
    by true = (tt, λ e. let z : Int (range_item s.start s.step at) ≡ Unset = e in cc)
    by false = tt
number_item h None at = tt

picked_item : (h : Heap) (k : Kind) (vs : List Value) (at : ℕ) → Every (IsItem h) vs → IfItem (pick k vs at) h
picked_item h ListKind vs at i = get_has (IsItem h) vs at i
picked_item h Tuple vs at i = get_has (IsItem h) vs at i
picked_item h Dict vs at i = get_has (IsItem h) vs (2 * at) i
picked_item h Range vs at i = number_item h (span_of vs) at
picked_item h _ vs at i = tt

module _ {S : Type 0} (rules : Rules) (stands : Heap → S → Type 0) where
  -- ---- make_iter
  iter_fits : (h : Heap) (b a n : ℕ) → KindIn (h a) (λ k. is_iterable k ≡ true) → IsItem h (Ref (record { 0 = a })) →
      FitsAt rules h b (new_rec Iter (iter_values a 0 n) [])
  iter_fits h b a n k i =
      made_fits rules h b Iter (iter_values a 0 n) [] (λ e. let z : Iter ≡ Class = e in cc)
      (λ e. let z : Iter ≡ Function = e in cc) (λ e. let z : Iter ≡ Cell = e in cc)
      (i, ((tt, λ e. let z : Int (pos 0) ≡ Unset = e in cc), ((tt, λ e. let z : Int (pos n) ≡ Unset = e in cc), tt)))
      (k, tt, tt) refl (omega arith) (omega arith)

  made_holds : (a : ℕ) (r : Rec) (o : Option ℕ) (h : Heap) → h a ≡ Some r → IsItem h (Ref (record { 0 = a })) →
      count_of r.kind r.values r.bytes ≡ o → Holds rules stands (IsGot IsIterator) (make_iter_row a o) h
  unfolding make_iter_row
  made_holds a r None h e i f = holds_ret rules stands (IsGot IsIterator) (Raise iterable_fault) h
      (lit< tt, lit< tt, tt)
  made_holds a r (Some n) h e i f =
      let k = subst (λ o. KindIn o (λ k. is_iterable k ≡ true)) (sym e) (counted r.kind r.values r.bytes n f) in
      let q = new_rec Iter (iter_values a 0 n) [] in
      holds_make rules stands (IsGot IsIterator) q (λ b. Ret (Is (Ref (record { 0 = b })))) h
      (λ b. iter_fits h b a n k i)
      (λ b h1 order1 x g item.
      holds_ret rules stands (IsGot IsIterator) (Is (Ref (record { 0 = b }))) h1
      (item, subst (λ o. KindIn o (λ k. k ≡ Iter)) (sym (ap (λ z. z b) g ∙ put_here h b q)) refl))

  over_iter_holds : (a : ℕ) (r : Rec) (h : Heap) → h a ≡ Some r → IsItem h (Ref (record { 0 = a })) →
      Holds rules stands (IsGot IsIterator) (iter_of a r) h
  over_iter_holds a r h e i =
      cond_holds rules stands (IsGot IsIterator) (is_iter r.kind) (Ret (Is (Ref (record { 0 = a }))))
      (make_iter_row a (count_of r.kind r.values r.bytes)) h
      (λ y. holds_ret rules stands (IsGot IsIterator) (Is (Ref (record { 0 = a }))) h
      (i, subst (λ o. KindIn o (λ k. k ≡ Iter)) (sym e) (iter_kind r.kind y)))
      (λ n. made_holds a r (count_of r.kind r.values r.bytes) h e i refl)

  none_holds : (h : Heap) → Holds rules stands (IsGot IsIterator) (Ret (Raise iterable_fault)) h
  none_holds h = holds_ret rules stands (IsGot IsIterator) (Raise iterable_fault) h (lit< tt, lit< tt, tt)

  pub make_iter_holds : (h : Heap) (x : Value) → IsOrdered rules h → IsItem h x →
      Holds rules stands (IsGot IsIterator) (iter_row x) h
  make_iter_holds h (Ref a) order i = by (h a.0) refl i.0
    where
      by : (o : Option Rec) → h a.0 ≡ o → is_some o ≡ true →
          Holds rules stands (IsGot IsIterator) (Do (Read a.0) (iter_of a.0)) h
      by None e j = absurd (let z : false ≡ true = j in cc)
      by (Some r) e j = holds_read rules stands (IsGot IsIterator) a.0 (iter_of a.0) h r e (over_iter_holds a.0 r h e i)
  make_iter_holds h Unset order i = none_holds h
  make_iter_holds h NoneValue order i = none_holds h
  make_iter_holds h (BoolValue b) order i = none_holds h
  make_iter_holds h (Int n) order i = none_holds h
  make_iter_holds h (Builtin b) order i = none_holds h

  -- ---- next
  go_holds : (it at : ℕ) (o : Option Value) (h : Heap) → IsOrdered rules h → IsIterAt h it → IfItem o h →
      Holds rules stands (IsGot IfItem) (go_or_end it at o) h
  unfolding go_or_end
  go_holds it at None h order k i = holds_ret rules stands (IsGot IfItem) (Is None) h tt
  go_holds it at (Some x) h order k i =
      let t = at_of h it (λ k. k ≡ Iter) k in
      let q = t.rec in
      let p = parted_at rules h it q order t.here t.kind in
      holds_edit rules stands (IsGot IfItem) it (change.Set 1 (Int (pos (at + 1)))) (λ _. Ret (Is (Some x))) h q order
      t.here (ap is_tracked t.kind, p.three) (subst (λ z. IsValuePlace z 1) (sym t.kind) tt)
      (subst (λ z. MayPut rules h it z 1 (Int (pos (at + 1)))) (sym t.kind) tt)
      (λ h1 order1 y f. holds_ret rules stands (IsGot IfItem) (Is (Some x)) h1 (item_stays h h1 y x i))

  byte_holds : (it at : ℕ) (o : Option ℕ) (h : Heap) → IsOrdered rules h → IsIterAt h it →
      Holds rules stands (IsGot IfItem) (byte_or_end it at o) h
  unfolding byte_or_end
  byte_holds it at None h order k = holds_ret rules stands (IsGot IfItem) (Is None) h tt
  byte_holds it at (Some x) h order k =
      holds_make rules stands (IsGot IfItem) (new_rec Str [] (x ∷ []))
      (λ b. go_or_end it at (Some (Ref (record { 0 = b })))) h (λ b. text_fits rules h b (x ∷ []) (omega arith))
      (λ b h1 order1 y e item. go_holds it at (Some (Ref (record { 0 = b }))) h1 order1
      (kind_stays h h1 y it (λ k. k ≡ Iter) k) item)

  over_holds : (it at count : ℕ) (r : Rec) (h : Heap) → IsOrdered rules h → IsIterAt h it → Every (IsItem h) r.values →
      Holds rules stands (IsGot IfItem) (next_over it at count r) h
  over_holds it at count r h order k i =
      let other : Row S (Got (Option Value)) = go_or_end it at (pick r.kind r.values at) in
      cond_holds rules stands (IsGot IfItem) (is_str r.kind) (byte_or_end it at (slice_get r.bytes at))
      (cond (has_changed r.kind r.values count) (Ret (Raise size_fault)) other) h
      (λ y. byte_holds it at (slice_get r.bytes at) h order k)
      (λ n. cond_holds rules stands (IsGot IfItem) (has_changed r.kind r.values count) (Ret (Raise size_fault)) other h
      (λ y. holds_ret rules stands (IsGot IfItem) (Raise size_fault) h (lit< tt, lit< tt, tt))
      (λ n. go_holds it at (pick r.kind r.values at) h order k (picked_item h r.kind r.values at i)))

  with_holds : (it : ℕ) (p : Parts) (h : Heap) → IsOrdered rules h → IsIterAt h it →
      KindIn (h p.over.0) (λ k. is_iterable k ≡ true) → Holds rules stands (IsGot IfItem) (next_with it (Some p)) h
  unfolding next_with
  with_holds it p h order k i =
      let t = at_of h p.over.0 (λ k. is_iterable k ≡ true) i in
      holds_read rules stands (IsGot IfItem) p.over.0 (next_over it p.at p.count) h t.rec t.here
      (over_holds it p.at p.count t.rec h order k
      (fit_items rules h p.over.0 t.rec (order.each p.over.0 t.rec t.here) (iterable_set t.rec.kind t.kind)))

  by_holds : (it : ℕ) (o : Option (Option Parts)) (p : Parts) (h : Heap) → o ≡ Some (Some p) →
      Holds rules stands (IsGot IfItem) (next_with it (Some p)) h → Holds rules stands (IsGot IfItem) (next_by it o) h
  unfolding next_by
  by_holds it o p h e n = subst (λ o. Holds rules stands (IsGot IfItem) (next_by {S = S} it o) h) (sym e) n

  -- where no iterator stands
  other_holds : (it : ℕ) (o : Option (Option Parts)) (h : Heap) → o ≡ None →
      Holds rules stands (IsGot IfItem) (next_by it o) h
  unfolding next_by
  other_holds it o h e = subst (λ o. Holds rules stands (IsGot IfItem) (next_by {S = S} it o) h) (sym e)
      (holds_ret rules stands (IsGot IfItem) (Raise operand_fault) h (lit< tt, lit< tt, tt))

  record_holds : (it : ℕ) (q : Rec) (h : Heap) → IsOrdered rules h → h it ≡ Some q →
      Holds rules stands (IsGot IfItem) (next_by it (iter_parts q.kind q.values)) h
  record_holds it q h order e = elim (kind_iter q.kind) [
    | inl k ↦
        let p = parted_at rules h it q order e k in
        by_holds it (iter_parts q.kind q.values) p.parts h (ap (λ z. iter_parts z q.values) k ∙ ap Some p.is)
        (with_holds it p.parts h order (subst (λ o. KindIn o (λ k. k ≡ Iter)) (sym e) k) p.over)
    | inr n ↦ other_holds it (iter_parts q.kind q.values) h (n q.values)
  ]

  pub next_holds : (h : Heap) (it : ℕ) → IsOrdered rules h → IsItem h (Ref (record { 0 = it })) →
      Holds rules stands (IsGot IfItem) (next_row it) h
  next_holds h it order i = by (h it) refl i.0
    where
      by : (o : Option Rec) → h it ≡ o → is_some o ≡ true → Holds rules stands (IsGot IfItem) (next_row it) h
      by None e j = absurd (let z : false ≡ true = j in cc)
      by (Some q) e j = holds_read rules stands (IsGot IfItem) it (λ q. next_by it (iter_parts q.kind q.values)) h q e
          (record_holds it q h order e)
