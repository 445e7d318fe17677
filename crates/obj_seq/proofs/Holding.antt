-- Over each heap in order the operations on lists and tuples hold.
use Rattle.std.proofs.Common.{arith, ◌≡◌, ◌≢◌, ℕ, zero, suc, ◌+◌, ◌-◌, ◌<◌, ◌≤◌, ◌==◌, Bool, true, false, cond, ltb, ℤ, List, [], ◌∷◌, length, drop, reverse, Option, Some, None, refl, sym, ap, subst, ◌∙◌, lit<}
use Rattle.std.proofs.lemmas.Bool.{ltb-true}
use Rattle.std.proofs.lemmas.List.{length-set, length-drop, length-take, length-reverse}
use mathlib.Core.List.{reverse_aux}
use Rattle.py_base.specs.declared.kind.Kind.{Kind}
use Rattle.py_base.specs.declared.kind.Kind.TheVariants.{List as ListKind, Cell}
use Rattle.py_data.specs.declared.value.Value.{Value}
use Rattle.py_data.specs.declared.value.Value.TheVariants.{Ref}
use Rattle.py_data.specs.declared.change.Change.TheVariants as change
use Rattle.py_data.specs.declared.record.Got.{Got}
use Rattle.py_data.specs.declared.record.Got.TheVariants.{Is, Raise}
use Rattle.py_data.specs.declared.record.TheConstants.{LENGTH_LIMIT}
use Rattle.py_data.specs.Every.{Every}
use Rattle.py_data.specs.Fault.{index_fault, empty_fault, memory_fault}
use Rattle.py_data.specs.Heap.{Rec, Heap, is_tracked, value_at, new_rec, with_value}
use Rattle.py_data.specs.Shape.{KindIn}
use Rattle.py_data.specs.Changes.{IsValuePlace}
use Rattle.py_data.specs.Closed.{IsItem}
use Rattle.py_data.specs.Row.{Row, Ret, Do, Edit, bind}
use Rattle.py_data.specs.Order.{Rules, IsOrdered, Extends, MayPut}
use Rattle.py_data.specs.Holds.{Holds}
use Rattle.py_data.specs.Answers.{IsAnswer, IsDone, IsSequenceKind}
use Rattle.py_data.proofs.EveryLemmas.{every_take}
use Rattle.py_data.proofs.Holding.{holds_ret, holds_bind}
use Rattle.py_data.proofs.HoldingCalls.{holds_read, holds_edit, holds_make}
use Rattle.py_data.proofs.ItemLemmas.{item_at, item_stays, items_stay, fit_items}
use Rattle.py_data.proofs.Making.{sequence_fits}
use Rattle.py_data.proofs.Steps.{put_here}
use Rattle.obj_seq.specs.Seq.{place, if_place, bound, bound_or, part, put_row, gap_row, shift_row, item_row, set_item_row, set_item_at, del_item_row, del_item_at, pop_row, pop_at, insert_row, insert_at, reverse_row, slice_row, slice_at}
use Rattle.obj_seq.specs.Seq as seq
use Rattle.obj_seq.specs.HoldsLaws.{IsListAt, IsSequenceAt}
use Rattle.obj_seq.proofs.Leaving.{place_within, bound_within}

-- ---- the record at an address
pub record At (h : Heap) (a : ℕ) (P : Kind → Type 0) : Type 0 where
  pub rec : Rec
  pub here : h a ≡ Some rec
  pub kind : P rec.kind

pub at_of : (h : Heap) (a : ℕ) (P : Kind → Type 0) → KindIn (h a) P → At h a P
at_of h a P i = by (h a) refl i
  where
    by : (o : Option Rec) → h a ≡ o → KindIn o P → At h a P
    by None e i = absurd i
    by (Some r) e i = record { rec = r; here = e; kind = i }

-- the values of a list or a tuple are items
of_items : (k : Kind) → IsSequenceKind k → k ≢ Cell
of_items k i e = subst IsSequenceKind e i

are_items : (rules : Rules) (h : Heap) (a : ℕ) (r : Rec) → IsOrdered rules h → h a ≡ Some r → IsSequenceKind r.kind →
    Every (IsItem h) r.values
are_items rules h a r order e i = fit_items rules h a r (order.each a r e) (of_items r.kind i)

as_sequence : (k : Kind) → k ≡ ListKind → IsSequenceKind k
as_sequence k e = subst IsSequenceKind (sym e) tt

-- ---- parts of lists
every_drop : {A : Type 0} (P : A → Type 0) (xs : List A) (k : ℕ) → Every P xs → Every P (drop k xs)
every_drop P xs zero i = i
every_drop P [] (suc k) i = tt
every_drop P (x ∷ xs) (suc k) i = every_drop P xs k i.1

every_onto : {A : Type 0} (P : A → Type 0) (xs ys : List A) → Every P xs → Every P ys → Every P (reverse_aux xs ys)
every_onto P [] ys i j = j
every_onto P (x ∷ xs) ys i j = every_onto P xs (x ∷ ys) i.1 (i.0, j)

part_short : (vs : List Value) (i j : ℕ) → length vs ≤ LENGTH_LIMIT → length (part vs i j) ≤ LENGTH_LIMIT
part_short vs i j l = omega (arith, l, length-take (j - i) (drop i vs), length-drop i vs)

rest_short : (vs : List Value) (k : ℕ) → k < length vs → k + length (drop (k + 1) vs) < length vs
rest_short vs k l = omega (arith, length-drop (k + 1) vs)

module _ {S : Type 0} (rules : Rules) (stands : Heap → S → Type 0) where
  -- a row of changes, which has no answer
  abbrev IsLeft : Unit {0} → Heap → Type 0
  IsLeft u h = Unit {0}

  placed_holds : {A : Type 0} (p : A → Heap → Type 0) (o : Option ℕ) (f : ℕ → Row S A) (z : A) (h : Heap) →
      ((k : ℕ) → o ≡ Some k → Holds rules stands p (f k) h) → p z h → Holds rules stands p (if_place o f (Ret z)) h
  unfolding if_place
  placed_holds p (Some k) f z h n i = n k refl
  placed_holds p None f z h n i = holds_ret rules stands p z h i

  pub cond_holds : {A : Type 0} (p : A → Heap → Type 0) (b : Bool) (row other : Row S A) (h : Heap) →
      (b ≡ true → Holds rules stands p row h) → (b ≡ false → Holds rules stands p other h) →
      Holds rules stands p (cond b row other) h
  cond_holds p true row other h f g = f refl
  cond_holds p false row other h f g = g refl

  -- changes, and then an answer
  then_holds : {A : Type 0} (p : A → Heap → Type 0) (row : Row S (Unit {0})) (y : A) (h : Heap) → IsOrdered rules h →
      Holds rules stands IsLeft row h → ((h1 : Heap) → Extends h h1 → p y h1) →
      Holds rules stands p (bind row (λ _. Ret y)) h
  then_holds p row y h order i n = holds_bind rules stands IsLeft p row (λ _. Ret y) h order i
      (λ u h1 order1 x j. holds_ret rules stands p y h1 (n h1 x))

  -- an item is set in a place of a list
  set_holds : {A : Type 0} (p : A → Heap → Type 0) (a k : ℕ) (x : Value) (rest : Unit {0} → Row S A) (r : Rec)
      (h : Heap) → IsOrdered rules h → h a ≡ Some r → r.kind ≡ ListKind → k < length r.values → IsItem h x
      → ((h1 : Heap) → IsOrdered rules h1 → Extends h h1 → h1 a ≡ Some (with_value k x r) →
      Holds rules stands p (rest tt) h1) → Holds rules stands p (Do (Edit a (change.Set k x)) rest) h
  set_holds p a k x rest r h order e l w i n =
      holds_edit rules stands p a (change.Set k x) rest h r order e (ap is_tracked l, w)
      (subst (λ z. IsValuePlace z k) (sym l) tt) (subst (λ z. MayPut rules h a z k x) (sym l) i)
      (λ h1 order1 y f. n h1 order1 y (ap (λ g. g a) f ∙ put_here h a (with_value k x r)))

  put_holds : (a k : ℕ) (xs : List Value) (r : Rec) (h : Heap) → IsOrdered rules h → h a ≡ Some r → r.kind ≡ ListKind →
      k + length xs ≤ length r.values → Every (IsItem h) xs → Holds rules stands IsLeft (put_row a k xs) h
  unfolding put_row
  put_holds a k [] r h order e l w i = holds_ret rules stands IsLeft tt h tt
  put_holds a k (x ∷ xs) r h order e l w i =
      set_holds IsLeft a k x (λ _. put_row a (k + 1) xs) r h order e l (omega arith) i.0
      (λ h1 order1 y f. put_holds a (k + 1) xs (with_value k x r) h1 order1 f l
      (omega (arith, length-set r.values k x)) (items_stay h h1 y xs i.1))

  gap_holds : (a k : ℕ) (xs : List Value) (r : Rec) (h : Heap) → IsOrdered rules h → h a ≡ Some r → r.kind ≡ ListKind →
      k + length xs < length r.values → Every (IsItem h) xs → Holds rules stands IsLeft (gap_row a k xs) h
  unfolding gap_row
  gap_holds a k [] r h order e l w i = holds_edit rules stands IsLeft a (change.Cut k) (λ _. Ret tt) h r order e
      (l, tt) tt tt (λ h1 order1 y f. holds_ret rules stands IsLeft tt h1 tt)
  gap_holds a k (x ∷ xs) r h order e l w i =
      set_holds IsLeft a k x (λ _. gap_row a (k + 1) xs) r h order e l (omega arith) i.0
      (λ h1 order1 y f. gap_holds a (k + 1) xs (with_value k x r) h1 order1 f l
      (omega (arith, length-set r.values k x)) (items_stay h h1 y xs i.1))

  shift_holds : (a k : ℕ) (x : Value) (ys : List Value) (r : Rec) (h : Heap) → IsOrdered rules h → h a ≡ Some r →
      r.kind ≡ ListKind → length r.values < LENGTH_LIMIT → k + length ys ≤ length r.values → IsItem h x
      → Every (IsItem h) ys → Holds rules stands IsLeft (shift_row a k x ys) h
  unfolding shift_row
  shift_holds a k x [] r h order e l m w ix i = holds_edit rules stands IsLeft a (change.Push x) (λ _. Ret tt) h r
      order e (l, m) tt ix (λ h1 order1 y f. holds_ret rules stands IsLeft tt h1 tt)
  shift_holds a k x (y ∷ ys) r h order e l m w ix i =
      set_holds IsLeft a k x (λ _. shift_row a (k + 1) y ys) r h order e l (omega arith) ix
      (λ h1 order1 z f.
      shift_holds a (k + 1) y ys (with_value k x r) h1 order1 f l (omega (arith, m, length-set r.values k x))
      (omega (arith, length-set r.values k x)) (item_stays h h1 z y i.0) (items_stay h h1 z ys i.1))

  -- ---- the operations
  pub item_holds : (h : Heap) (a : ℕ) (i : ℤ) → IsOrdered rules h → IsSequenceAt h a →
      Holds rules stands IsAnswer (item_row a i) h
  item_holds h a i order at =
      let t = at_of h a IsSequenceKind at in
      let r = t.rec in
      holds_read rules stands IsAnswer a (seq.item_at i) h r t.here
      (placed_holds IsAnswer (place i (length r.values)) (λ k. Ret (Is (value_at r.values k))) (Raise index_fault) h
      (λ k f. holds_ret rules stands IsAnswer (Is (value_at r.values k)) h
      (item_at h r.values k (place_within i (length r.values) k f) (are_items rules h a r order t.here t.kind)))
      (lit< tt, lit< tt, tt))

  pub set_item_holds : (h : Heap) (a : ℕ) (i : ℤ) (x : Value) → IsOrdered rules h → IsListAt h a → IsItem h x →
      Holds rules stands IsDone (set_item_row a i x) h
  set_item_holds h a i x order at ix =
      let t = at_of h a (λ k. k ≡ ListKind) at in
      let r = t.rec in
      holds_read rules stands IsDone a (set_item_at a i x) h r t.here
      (placed_holds IsDone (place i (length r.values)) (λ k. Do (Edit a (change.Set k x)) (λ _. Ret (Is tt)))
      (Raise index_fault) h
      (λ k f. set_holds IsDone a k x (λ _. Ret (Is tt)) r h order t.here t.kind (place_within i (length r.values) k f)
      ix (λ h1 order1 y g. holds_ret rules stands IsDone (Is tt) h1 tt))
      (lit< tt, lit< tt, tt))

  -- the gap of an item that is taken out is closed
  closed_holds : (a k : ℕ) (r : Rec) (h : Heap) → IsOrdered rules h → h a ≡ Some r → r.kind ≡ ListKind →
      k < length r.values → Holds rules stands IsLeft (gap_row a k (drop (k + 1) r.values)) h
  closed_holds a k r h order e l w =
      gap_holds a k (drop (k + 1) r.values) r h order e l (rest_short r.values k w)
      (every_drop (IsItem h) r.values (k + 1) (are_items rules h a r order e (as_sequence r.kind l)))

  pub del_item_holds : (h : Heap) (a : ℕ) (i : ℤ) → IsOrdered rules h → IsListAt h a →
      Holds rules stands IsDone (del_item_row a i) h
  del_item_holds h a i order at =
      let t = at_of h a (λ k. k ≡ ListKind) at in
      let r = t.rec in
      holds_read rules stands IsDone a (del_item_at a i) h r t.here
      (placed_holds IsDone (place i (length r.values))
      (λ k. bind (gap_row a k (drop (k + 1) r.values)) (λ _. Ret (Is tt))) (Raise index_fault) h
      (λ k f. then_holds IsDone (gap_row a k (drop (k + 1) r.values)) (Is tt) h order
      (closed_holds a k r h order t.here t.kind (place_within i (length r.values) k f)) (λ h1 y. tt))
      (lit< tt, lit< tt, tt))

  pub pop_holds : (h : Heap) (a : ℕ) (i : ℤ) → IsOrdered rules h → IsListAt h a →
      Holds rules stands IsAnswer (pop_row a i) h
  pop_holds h a i order at =
      let t = at_of h a (λ k. k ≡ ListKind) at in
      let r = t.rec in
      let row : ℕ → Row S (Got Value) = λ k.
      bind (gap_row a k (drop (k + 1) r.values)) (λ _. Ret (Is (value_at r.values k))) in
      let popped : (k : ℕ) → place i (length r.values) ≡ Some k → Holds rules stands IsAnswer (row k) h = λ k f.
      let w = place_within i (length r.values) k f in
      then_holds IsAnswer (gap_row a k (drop (k + 1) r.values)) (Is (value_at r.values k)) h order
      (closed_holds a k r h order t.here t.kind w)
      (λ h1 y. item_stays h h1 y (value_at r.values k)
      (item_at h r.values k w (are_items rules h a r order t.here (as_sequence r.kind t.kind)))) in
      holds_read rules stands IsAnswer a (pop_at a i) h r t.here
      (cond_holds IsAnswer (length r.values == 0) (Ret (Raise empty_fault))
      (if_place (place i (length r.values)) row (Ret (Raise index_fault))) h
      (λ none. holds_ret rules stands IsAnswer (Raise empty_fault) h (lit< tt, lit< tt, tt))
      (λ some. placed_holds IsAnswer (place i (length r.values)) row (Raise index_fault) h popped
      (lit< tt, lit< tt, tt)))

  pub insert_holds : (h : Heap) (a : ℕ) (i : ℤ) (x : Value) → IsOrdered rules h → IsListAt h a → IsItem h x →
      Holds rules stands IsDone (insert_row a i x) h
  insert_holds h a i x order at ix =
      let t = at_of h a (λ k. k ≡ ListKind) at in
      let r = t.rec in
      let k = bound i (length r.values) in
      let row : Row S (Unit {0}) = shift_row a k x (drop k r.values) in
      let items = every_drop (IsItem h) r.values k (are_items rules h a r order t.here (as_sequence r.kind t.kind)) in
      holds_read rules stands IsDone a (insert_at a i x) h r t.here
      (cond_holds IsDone (ltb (length r.values) LENGTH_LIMIT) (bind row (λ _. Ret (Is tt))) (Ret (Raise memory_fault)) h
      (λ room. then_holds IsDone row (Is tt) h order
      (shift_holds a k x (drop k r.values) r h order t.here t.kind (ltb-true (length r.values) LENGTH_LIMIT room)
      (omega (arith, bound_within i (length r.values), length-drop (bound i (length r.values)) r.values)) ix items)
      (λ h1 y. tt))
      (λ full. holds_ret rules stands IsDone (Raise memory_fault) h (lit< tt, lit< tt, tt)))

  pub reverse_holds : (h : Heap) (a : ℕ) → IsOrdered rules h → IsListAt h a →
      Holds rules stands IsLeft (reverse_row a) h
  reverse_holds h a order at =
      let t = at_of h a (λ k. k ≡ ListKind) at in
      let r = t.rec in
      holds_read rules stands IsLeft a (λ r. put_row a 0 (reverse r.values)) h r t.here
      (put_holds a 0 (reverse r.values) r h order t.here t.kind (omega (arith, length-reverse r.values))
      (every_onto (IsItem h) r.values [] (are_items rules h a r order t.here (as_sequence r.kind t.kind)) tt))

  pub slice_holds : (h : Heap) (a : ℕ) (from to : Option ℤ) → IsOrdered rules h → IsSequenceAt h a →
      Holds rules stands IsAnswer (slice_row a from to) h
  slice_holds h a from to order at =
      let t = at_of h a IsSequenceKind at in
      let r = t.rec in
      let i = bound_or from 0 (length r.values) in
      let j = bound_or to (length r.values) (length r.values) in
      let items = every_take (IsItem h) (drop i r.values) (j - i)
      (every_drop (IsItem h) r.values i (are_items rules h a r order t.here t.kind)) in
      let short = (order.each a r t.here).short.0 in
      holds_read rules stands IsAnswer a (slice_at from to) h r t.here
      (holds_make rules stands IsAnswer (new_rec r.kind (part r.values i j) [])
      (λ b. Ret (Is (Ref (record { 0 = b })))) h
      (λ b. sequence_fits rules h b r.kind (part r.values i j) t.kind items (part_short r.values i j short))
      (λ b h1 order1 y e item. holds_ret rules stands IsAnswer (Is (Ref (record { 0 = b }))) h1 item))
