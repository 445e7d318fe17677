-- In the course of an operation on a list, a tuple or an iterator no record is longer than before it or at its end.
use Rattle.std.proofs.Common.{ℕ, zero, suc, ◌+◌, ◌==◌, Bool, true, false, cond, ltb, ◌||◌, ℤ, List, [], ◌∷◌, ◌++◌, length, reverse, slice_get, drop, Option, Some, None, Result, Ok, Err, refl}
use Rattle.py_base.specs.declared.kind.Kind.{Kind}
use Rattle.py_base.specs.declared.kind.Kind.TheVariants.{Str, Tuple, List as ListKind, Dict, Iter, Range}
use Rattle.py_data.specs.declared.value.Value.{Value}
use Rattle.py_data.specs.declared.value.Value.TheVariants.{Unset, None as NoneValue, Bool as BoolValue, Int, Ref, Builtin}
use Rattle.py_data.specs.declared.change.Change.TheVariants as change
use Rattle.py_data.specs.declared.record.Got.{Got}
use Rattle.py_data.specs.declared.record.Got.TheVariants.{Is, Raise}
use Rattle.py_data.specs.declared.record.TheConstants.{LENGTH_LIMIT}
use Rattle.py_data.specs.Fault.{index_fault, empty_fault, memory_fault, size_fault}
use Rattle.py_data.specs.Heap.{Rec, value_at}
use Rattle.py_data.specs.Row.{Row, Ret, Do, Read, Edit, Make, bind}
use Rattle.py_data.specs.Steady.{grows, Steady}
use Rattle.py_data.specs.Looking.{walk_row, walk_on}
use Rattle.py_data.proofs.CalmRows.{asks_bind}
use Rattle.py_data.specs.Range.{range_length}
use Rattle.obj_seq.specs.declared.advance.Parts.{Parts}
use Rattle.obj_seq.specs.declared.span.Span.{Span}
use Rattle.obj_seq.specs.Seq.{place, if_place, bound, put_row, gap_row, shift_row, item_at, set_item_at, del_item_at, pop_at, insert_at, slice_at}
use Rattle.obj_seq.specs.Iter.{iter_row, iter_of, count_of, is_iter, make_iter_row, go_or_end, byte_or_end, pick, has_changed, is_str, iter_parts, next_over, next_by, next_with, next_row, span_of}
use Rattle.obj_seq.specs.Gather.{letters_row, numbers, numbers_row, taken, take_row, left_row, gather_as, gather_of, gather_row}
use Rattle.obj_seq.specs.HoldsLaws.{SeqSteady}

module _ (S : Type 0) where
  placed_steady : {A : Type 0} (o : Option ℕ) (f : ℕ → Row S A) (z : A) → ((k : ℕ) → Steady false (f k)) →
      Steady false (if_place o f (Ret z))
  unfolding if_place Steady
  placed_steady (Some k) f z s = s k
  placed_steady None f z s = tt

  cond_steady : {A : Type 0} (grown b : Bool) (p q : Row S A) → Steady grown p → Steady grown q →
      Steady grown (cond b p q)
  cond_steady grown true p q s t = s
  cond_steady grown false p q s t = t

  ret_steady : {A : Type 0} (grown : Bool) (x : A) → Steady {S = S} grown (Ret x)
  unfolding Steady
  ret_steady grown x = tt

  read_steady : {A : Type 0} (a : ℕ) (k : Rec → Row S A) → ((r : Rec) → Steady false (k r)) →
      Steady false (Do (Read a) k)
  unfolding Steady
  read_steady a k s = ((refl, tt), s)

  then_steady : {A B : Type 0} (grown : Bool) (row : Row S A) (y : B) → Steady grown row →
      Steady grown (bind row (λ u. Ret y))
  unfolding Steady bind
  then_steady grown (Ret x) y s = tt
  then_steady grown (Do c k) y s = (
    (s.0.0, asks_bind c k (λ u. Ret y) s.0.1),
    λ r.
        then_steady (grown || grows c) (k r) y (s.1 r),
  )

  set_steady : (a k : ℕ) (x : Value) → Steady {S = S} {A = Got (Unit {0})} false
      (Do (Edit a (change.Set k x)) (λ u. Ret (Is tt)))
  unfolding Steady
  set_steady a k x = ((refl, tt), λ u. tt)

  make_steady : (r : Rec) → Steady {S = S} {A = Got Value} false (Do (Make r) (λ b. Ret (Is (Ref (record { 0 = b })))))
  unfolding Steady
  make_steady r = ((refl, tt), λ b. tt)

  -- ---- lists
  put_steady : (a k : ℕ) (xs : List Value) → Steady {S = S} false (put_row a k xs)
  unfolding put_row Steady
  put_steady a k [] = tt
  put_steady a k (x ∷ xs) = ((refl, tt), λ u. put_steady a (k + 1) xs)

  gap_steady : (a k : ℕ) (xs : List Value) → Steady {S = S} false (gap_row a k xs)
  unfolding gap_row Steady
  gap_steady a k [] = ((refl, tt), λ u. tt)
  gap_steady a k (x ∷ xs) = ((refl, tt), λ u. gap_steady a (k + 1) xs)

  shift_steady : (a k : ℕ) (x : Value) (ys : List Value) → Steady {S = S} false (shift_row a k x ys)
  unfolding shift_row Steady
  shift_steady a k x [] = ((refl, tt), λ u. tt)
  shift_steady a k x (y ∷ ys) = ((refl, tt), λ u. shift_steady a (k + 1) y ys)

  taken_steady : {A : Type 0} (a : ℕ) (i : ℤ) (r : Rec) (f : ℕ → Got A) →
      Steady {S = S} false (if_place (place i (length r.values))
      (λ k. bind (gap_row a k (drop (k + 1) r.values)) (λ u. Ret (f k))) (Ret (Raise index_fault)))
  taken_steady a i r f =
      placed_steady (place i (length r.values)) (λ k. bind (gap_row a k (drop (k + 1) r.values)) (λ u. Ret (f k)))
      (Raise index_fault)
      (λ k. then_steady false (gap_row a k (drop (k + 1) r.values)) (f k) (gap_steady a k (drop (k + 1) r.values)))

  -- ---- iterators
  made_steady : (a : ℕ) (o : Option ℕ) → Steady {S = S} false (make_iter_row a o)
  unfolding make_iter_row Steady
  made_steady a (Some n) = ((refl, tt), λ b. tt)
  made_steady a None = tt

  value_steady : (x : Value) → Steady {S = S} false (iter_row x)
  value_steady (Ref a) =
      read_steady a.0 (iter_of a.0) (λ r. cond_steady false (is_iter r.kind) (Ret (Is (Ref (record { 0 = a.0 }))))
      (make_iter_row a.0 (count_of r.kind r.values r.bytes)) (ret_steady false _)
      (made_steady a.0 (count_of r.kind r.values r.bytes)))
  value_steady Unset = ret_steady false _
  value_steady NoneValue = ret_steady false _
  value_steady (BoolValue b) = ret_steady false _
  value_steady (Int i) = ret_steady false _
  value_steady (Builtin b) = ret_steady false _

  -- ---- rows that make nothing shorter at all
  look_grown : {A : Type 0} (a : ℕ) (k : Rec → Row S A) → ((r : Rec) → Steady true (k r)) → Steady true (Do (Read a) k)
  unfolding Steady
  look_grown a k s = ((refl, tt), s)

  bind_grown : {A B : Type 0} (row : Row S A) (f : A → Row S B) → Steady true row → ((a : A) → Steady true (f a)) →
      Steady true (bind row f)
  unfolding Steady bind
  bind_grown (Ret a) f s t = t a
  bind_grown (Do c k) f s t = ((s.0.0, asks_bind c k f s.0.1), λ r. bind_grown (k r) f (s.1 r) t)

  -- they are steady whatever was before
  anyhow : {A : Type 0} (grown : Bool) (row : Row S A) → Steady true row → Steady grown row
  unfolding Steady
  anyhow grown (Ret a) s = tt
  anyhow true (Do c k) s = s
  anyhow false (Do c k) s = ((refl, s.0.1), λ r. anyhow (grows c) (k r) (s.1 r))

  go_grown : (it at : ℕ) (o : Option Value) → Steady {S = S} true (go_or_end it at o)
  unfolding go_or_end Steady
  go_grown it at (Some x) = ((refl, tt), λ u. tt)
  go_grown it at None = tt

  byte_grown : (it at : ℕ) (o : Option ℕ) → Steady {S = S} true (byte_or_end it at o)
  unfolding byte_or_end Steady
  byte_grown it at (Some x) = ((refl, tt), λ b. go_grown it at (Some (Ref (record { 0 = b }))))
  byte_grown it at None = tt

  over_grown : (it at count : ℕ) (r : Rec) → Steady {S = S} true (next_over it at count r)
  over_grown it at count r =
      cond_steady true (is_str r.kind) (byte_or_end it at (slice_get r.bytes at))
      (cond (has_changed r.kind r.values count) (Ret (Raise size_fault))
      (go_or_end it at (pick r.kind r.values at)))
      (byte_grown it at (slice_get r.bytes at))
      (cond_steady true (has_changed r.kind r.values count) (Ret (Raise size_fault))
      (go_or_end it at (pick r.kind r.values at)) (ret_steady true _) (go_grown it at (pick r.kind r.values at)))

  with_grown : (it : ℕ) (o : Option Parts) → Steady {S = S} true (next_with it o)
  unfolding next_with
  with_grown it (Some p) = look_grown p.over.0 (next_over it p.at p.count) (over_grown it p.at p.count)
  with_grown it None = ret_steady true _

  by_grown : (it : ℕ) (o : Option (Option Parts)) → Steady {S = S} true (next_by it o)
  unfolding next_by
  by_grown it (Some o) = with_grown it o
  by_grown it None = ret_steady true _

  next_grown : (it : ℕ) → Steady {S = S} true (next_row it)
  next_grown it = look_grown it (λ q. next_by it (iter_parts q.kind q.values))
      (λ q. by_grown it (iter_parts q.kind q.values))

  letters_grown : (made : List Value) (bs : List ℕ) → Steady {S = S} true (letters_row made bs)
  unfolding letters_row Steady
  letters_grown made [] = tt
  letters_grown made (x ∷ xs) = ((refl, tt), λ b. letters_grown (made ++ Ref (record { 0 = b }) ∷ []) xs)

  numbers_grown : (o : Option Span) → Steady {S = S} true (numbers_row o)
  unfolding numbers_row
  numbers_grown None = ret_steady true _
  numbers_grown (Some s) =
      cond_steady true (ltb LENGTH_LIMIT (range_length s.start s.stop s.step)) (Ret (Raise memory_fault))
      (Ret (Is (numbers s.start s.step (range_length s.start s.stop s.step)))) (ret_steady true _)
      (ret_steady true _)

  on_grown : (row : List Value → Row S (Got (List Value))) → ((xs : List Value) → Steady true (row xs)) →
      (r : Result (List Value) (Got (List Value))) → Steady {S = S} true (walk_on row r)
  on_grown row s (Ok xs) = s xs
  on_grown row s (Err got) = ret_steady true _

  left_from : (it m : ℕ) (xs : List Value) → Steady {S = S} true (walk_row (take_row it) (Raise memory_fault) m xs)
  unfolding walk_row
  left_from it zero xs = ret_steady true _
  left_from it (suc m) xs =
      bind_grown (take_row it xs) (walk_on (walk_row (take_row it) (Raise memory_fault) m))
      (bind_grown (next_row it) (λ g. Ret (taken xs g)) (next_grown it) (λ g. ret_steady true _))
      (on_grown (walk_row (take_row it) (Raise memory_fault) m) (left_from it m))

  left_grown : (it : ℕ) → Steady {S = S} true (left_row it)
  unfolding left_row
  left_grown it = left_from it (LENGTH_LIMIT + 1) []

  from_grown : (a : ℕ) (k : Kind) (vs : List Value) (bs : List ℕ) → Steady {S = S} true (gather_as a k vs bs)
  from_grown a ListKind vs bs = ret_steady true _
  from_grown a Tuple vs bs = ret_steady true _
  from_grown a Dict vs bs = ret_steady true _
  from_grown a Str vs bs = letters_grown [] bs
  from_grown a Range vs bs = numbers_grown (span_of vs)
  from_grown a Iter vs bs = left_grown a
  from_grown a _ vs bs = ret_steady true _

  gather_grown : (x : Value) → Steady {S = S} true (gather_row x)
  unfolding gather_row
  gather_grown (Ref a) = look_grown a.0 (gather_of a.0) (λ r. from_grown a.0 r.kind r.values r.bytes)
  gather_grown Unset = ret_steady true _
  gather_grown NoneValue = ret_steady true _
  gather_grown (BoolValue b) = ret_steady true _
  gather_grown (Int n) = ret_steady true _
  gather_grown (Builtin b) = ret_steady true _

  pub gather_steady : (x : Value) → Steady {S = S} false (gather_row x)
  gather_steady x = anyhow false (gather_row x) (gather_grown x)

  shifted_steady : (a k : ℕ) (x : Value) (ys : List Value) (b : Bool) →
      Steady {S = S} {A = Got (Unit {0})} false
      (cond b (bind (shift_row a k x ys) (λ u. Ret (Is tt))) (Ret (Raise memory_fault)))
  shifted_steady a k x ys b = cond_steady false b (bind (shift_row a k x ys) (λ u. Ret (Is tt)))
      (Ret (Raise memory_fault)) (then_steady false (shift_row a k x ys) (Is tt) (shift_steady a k x ys))
      (ret_steady false _)

  pub seq_steady : SeqSteady S
  seq_steady = record {
    item = λ a i. read_steady a (item_at i)
        (λ r. placed_steady (place i (length r.values)) (λ k. Ret (Is (value_at r.values k))) (Raise index_fault)
        (λ k. ret_steady false _));
    set_item = λ a i x. read_steady a (set_item_at a i x)
        (λ r. placed_steady (place i (length r.values)) (λ k. Do (Edit a (change.Set k x)) (λ u. Ret (Is tt)))
        (Raise index_fault) (λ k. set_steady a k x));
    del_item = λ a i. read_steady a (del_item_at a i) (λ r. taken_steady a i r (λ k. Is tt));
    pop = λ a i. read_steady a (pop_at a i)
        (λ r. cond_steady false (length r.values == 0) (Ret (Raise empty_fault)) _ (ret_steady false _)
        (taken_steady a i r (λ k. Is (value_at r.values k))));
    insert = λ a i x. read_steady a (insert_at a i x)
        (λ r. shifted_steady a (bound i (length r.values)) x (drop (bound i (length r.values)) r.values)
        (ltb (length r.values) LENGTH_LIMIT));
    reverse = λ a. read_steady a (λ r. put_row a 0 (reverse r.values)) (λ r. put_steady a 0 (reverse r.values));
    slice = λ a from to. read_steady a (slice_at from to) (λ r. make_steady _);
    make_iter = value_steady;
    next = λ it. anyhow false (next_row it) (next_grown it);
    gather = gather_steady;
  }
