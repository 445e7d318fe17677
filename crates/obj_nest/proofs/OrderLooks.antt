-- The row of order only looks, may be begun over a heap in order, and answers what the definition of order says.
use Rattle.std.proofs.Common.{arith, ◌≡◌, ℕ, zero, suc, ◌+◌, ◌<◌, Bool, true, false, cond, List, [], ◌∷◌, length, drop, min, Option, Some, None, refl, sym, ap, subst, ◌∙◌, ◌⊎◌, inl, inr}
use Rattle.std.specs.declared.cmp.Ordering.{Ordering}
use Rattle.std.specs.declared.cmp.Ordering.TheVariants.{Less, Equal, Greater}
use Rattle.std.specs.Ordering.{nat_cmp}
use Rattle.std.specs.Cmp.{nat_cmp_is}
use Rattle.std.proofs.lemmas.Bool.{cases_order}
use Rattle.py_data.specs.declared.value.Value.{Value}
use Rattle.py_data.specs.declared.value.Value.TheVariants.{Unset, None as NoneValue, Bool as BoolValue, Int, Ref, Builtin}
use Rattle.py_base.specs.declared.kind.Kind.{Kind}
use Rattle.py_base.specs.declared.kind.Kind.TheVariants.{Str, Tuple, List as ListKind, Dict, Method}
use Rattle.py_data.specs.declared.record.Got.{Got}
use Rattle.py_data.specs.declared.record.Got.TheVariants.{Is, Raise}
use Rattle.py_data.specs.Fault.{depth_fault, operand_fault}
use Rattle.py_data.specs.Every.{Every}
use Rattle.py_data.specs.Heap.{Rec, Heap, at, value_at}
use Rattle.py_data.specs.Closed.{Refers}
use Rattle.py_data.specs.Comparing.{number_of, order_numbers, order_bytes, order_then, order_items, order_records, order_by, order_within, equal_within}
use Rattle.py_data.specs.Row.{Ret}
use Rattle.py_data.specs.Order.{Rules, IsOrdered}
use Rattle.py_data.specs.Looking.{Looks, size_row, look_row, bytes_row, until_row, got_row}
use Rattle.py_data.proofs.Steps.{at_is}
use Rattle.py_data.proofs.Looking.{looks_ret, looks_then, looks_weaken, size_looks, look_looks, bytes_looks, some_of}
use Rattle.obj_nest.specs.Levels.{level_row, pairing_of, kinds_row}
use Rattle.obj_nest.specs.Ordering.{Parts, strings_row, bytes_with, deciding, unequal_row, decided_row, turn_with, turn_row, is_open, by_lengths, shared_row, listed_from, listed_row, ordered_by, ranked_row, order_under, parts_below, parts_at, order_levels}
use Rattle.obj_nest.proofs.Dropped.{drop_here}
use Rattle.obj_nest.proofs.KindLooks.{kinds_looks}
use Rattle.obj_nest.proofs.EqualLooks.{equal_at_looks}

-- what two items decide
abbrev decision : Got Bool → Got Ordering → Got (Option Ordering)
decision (Is true) o = Is None
decision (Is false) (Is o) = Is (Some o)
decision (Is false) (Raise e) = Raise e
decision (Raise e) o = Raise e

-- what a decision leaves of what follows
abbrev decide_then : Got (Option Ordering) → Got Ordering → Got Ordering
decide_then (Is None) next = next
decide_then (Is (Some o)) next = Is o
decide_then (Raise e) next = Raise e

decide_order : (s : Got Bool) (o next : Got Ordering) → decide_then (decision s o) next ≡ order_then s o next
decide_order (Is true) o next = refl
decide_order (Is false) (Is o) next = refl
decide_order (Is false) (Raise e) next = refl
decide_order (Raise e) o next = refl

-- counted up by one on both sides, lengths are in the same order
shifted : (n m : ℕ) → nat_cmp (suc n) (suc m) ≡ nat_cmp n m
shifted n m = by (cases_order n m)
  where
    by : (n ≡ m) ⊎ ((n < m) ⊎ (m < n)) → nat_cmp (suc n) (suc m) ≡ nat_cmp n m
    by (inl e) = sym (nat_cmp_is (suc n) (suc m) Equal (ap suc e)) ∙ nat_cmp_is n m Equal e
    by (inr (inl l)) = sym (nat_cmp_is (suc n) (suc m) Less (omega (arith, l))) ∙ nat_cmp_is n m Less l
    by (inr (inr g)) = sym (nat_cmp_is (suc n) (suc m) Greater (omega (arith, g))) ∙ nat_cmp_is n m Greater g

no_item : (k : ℕ) → nat_cmp 0 (suc k) ≡ Less
no_item k = sym (nat_cmp_is 0 (suc k) Less (omega arith))

some_item : (k : ℕ) → nat_cmp (suc k) 0 ≡ Greater
some_item k = sym (nat_cmp_is (suc k) 0 Greater (omega arith))

module _ (S : Type 0) (rules : Rules) (h : Heap) (order : IsOrdered rules h) where
  all_there : (a : ℕ) (r : Rec) → h a ≡ Some r → Every (Refers h) r.values
  all_there a r e = (order.each a r e).closed.refers

  -- the rows of the parts answer what pure comparisons do
  record Likes (u : Parts S) (same : Value → Value → Got Bool) (first : Value → Value → Got Ordering) : Type 0 where
    pub alike : (x y : Value) → Refers h x → Refers h y → Looks (λ z. z ≡ same x y) (u.same x y) h
    pub ranks : (x y : Value) → Refers h x → Refers h y → Looks (λ z. z ≡ first x y) (u.first x y) h

  module _ (u : Parts S) (w : Value → Value → Got Bool) (o : Value → Value → Got Ordering) (like : Likes u w o) where
    unequal_looks : (x y : Value) → Refers h x → Refers h y → (s : Got Bool) →
        Looks (λ z. z ≡ decision s (o x y)) (got_row (unequal_row u x y) s) h
    unfolding unequal_row
    unequal_looks x y tx ty (Is true) = looks_ret S (λ z. z ≡ Is None) (Is None) h refl
    unequal_looks x y tx ty (Raise e) = looks_ret S (λ z. z ≡ Raise e) (Raise e) h refl
    unequal_looks x y tx ty (Is false) =
        looks_then (λ g. g ≡ o x y) (λ z. z ≡ decision (Is false) (o x y)) (u.first x y) deciding h
        (like.ranks x y tx ty) (λ g e.
        subst (λ g. Looks {S = S} (λ z. z ≡ decision (Is false) (o x y)) (deciding g) h) (sym e)
        (deciding_looks (o x y)))
      where
        deciding_looks : (g : Got Ordering) → Looks {S = S} (λ z. z ≡ decision (Is false) g) (deciding g) h
        deciding_looks (Is o) = looks_ret S (λ z. z ≡ Is (Some o)) (Is (Some o)) h refl
        deciding_looks (Raise e) = looks_ret S (λ z. z ≡ Raise e) (Raise e) h refl

    decided_looks : (x y : Value) → Refers h x → Refers h y →
        Looks (λ z. z ≡ decision (w x y) (o x y)) (decided_row u x y) h
    unfolding decided_row
    decided_looks x y tx ty =
        let p = λ (z : Got (Option Ordering)). z ≡ decision (w x y) (o x y) in
        looks_then (λ s. s ≡ w x y) p (u.same x y) (got_row (unequal_row u x y)) h (like.alike x y tx ty)
        (λ s e. subst (λ s. Looks p (got_row (unequal_row u x y) s) h) (sym e) (unequal_looks x y tx ty (w x y)))

    module _ (a b : ℕ) (r s : Rec) (ea : h a ≡ Some r) (eb : h b ≡ Some s) where
      turn_looks : (i : ℕ) (x y : Value) → value_at r.values i ≡ x → value_at s.values i ≡ y → Refers h x →
          Refers h y → Looks (λ z. z ≡ decision (w x y) (o x y)) (turn_row u a b i) h
      unfolding turn_row turn_with
      turn_looks i x y ex ey tx ty =
          let p = λ (z : Got (Option Ordering)). z ≡ decision (w x y) (o x y) in
          looks_then (λ k. k ≡ value_at r.values i) p (look_row a i) (λ k. turn_with u b i k) h
          (look_looks S h a r ea i)
          (λ k ek. looks_then (λ l. l ≡ value_at s.values i) p (look_row b i) (λ l. decided_row u k l) h
          (look_looks S h b s eb i)
          (λ l el. subst (λ k. Looks p (decided_row u k l) h) (sym (ek ∙ ex))
          (subst (λ l. Looks p (decided_row u x l) h) (sym (el ∙ ey)) (decided_looks x y tx ty))))

      -- the rest of a loop, once a turn's answer is known; the lengths are those of what is left
      abbrev Settles : ℕ → ℕ → ℕ → ℕ → Got Ordering → Type 0
      Settles i k n m g = Looks (λ z. by_lengths n m z ≡ g) (until_row (turn_row u a b) is_open (Is None) i k) h

      goes : (i k n m : ℕ) (first : Got (Option Ordering)) (next : Got Ordering) → Settles (i + 1) k n m next
          → Looks (λ z. by_lengths n m z ≡ decide_then first next)
          (cond (is_open first) (until_row (turn_row u a b) is_open (Is None) (i + 1) k) (Ret first)) h
      goes i k n m (Is None) next l = l
      goes i k n m (Is (Some o)) next l = looks_ret S (λ z. by_lengths n m z ≡ Is o) (Is (Some o)) h refl
      goes i k n m (Raise e) next l = looks_ret S (λ z. by_lengths n m z ≡ Raise e) (Raise e) h refl

      turned : (i k n m : ℕ) (first : Got (Option Ordering)) (next : Got Ordering) →
          Looks (λ z. z ≡ first) (turn_row u a b i) h → Settles (i + 1) k n m next →
          Settles i (suc k) n m (decide_then first next)
      unfolding until_row
      turned i k n m first next t l =
          let p = λ (z : Got (Option Ordering)). by_lengths n m z ≡ decide_then first next in
          looks_then (λ z. z ≡ first) p (turn_row u a b i)
          (λ c. cond (is_open c) (until_row (turn_row u a b) is_open (Is None) (i + 1) k) (Ret c)) h t
          (λ c e. subst (λ c. Looks p (cond (is_open c) (until_row (turn_row u a b) is_open (Is None) (i + 1) k)
          (Ret c)) h) (sym e) (goes i k n m first next l))

      -- nothing is left of one of the two
      ended : (i k n m : ℕ) (o : Ordering) → k ≡ 0 → nat_cmp n m ≡ o → Settles i k n m (Is o)
      unfolding until_row
      ended i k n m o e c = subst (λ k. Settles i k n m (Is o)) (sym e)
          (looks_ret S (λ z. by_lengths n m z ≡ Is o) (Is None) h (ap Is c))

      loop : (i : ℕ) (xs ys : List Value) (n m : ℕ) → nat_cmp n m ≡ nat_cmp (length xs) (length ys) →
          drop i r.values ≡ xs → drop i s.values ≡ ys → Every (Refers h) xs → Every (Refers h) ys
          → Settles i (min (length xs) (length ys)) n m (order_items w o xs ys)
      loop i [] [] n m c dx dy tx ty = ended i 0 n m Equal refl (c ∙ sym (nat_cmp_is 0 0 Equal refl))
      loop i [] (y ∷ ys) n m c dx dy tx ty = ended i (min 0 (suc (length ys))) n m Less (omega arith)
          (c ∙ no_item (length ys))
      loop i (x ∷ xs) [] n m c dx dy tx ty = ended i (min (suc (length xs)) 0) n m Greater (omega arith)
          (c ∙ some_item (length xs))
      loop i (x ∷ xs) (y ∷ ys) n m c dx dy tx ty =
          let p = drop_here r.values i x xs dx in
          let q = drop_here s.values i y ys dy in
          let k : min (suc (length xs)) (suc (length ys)) ≡ suc (min (length xs) (length ys)) = omega arith in
          let more = loop (i + 1) xs ys n m (c ∙ shifted (length xs) (length ys)) p.1 q.1 tx.1 ty.1 in
          let all = turned i (min (length xs) (length ys)) n m (decision (w x y) (o x y)) (order_items w o xs ys)
          (turn_looks i x y p.0 q.0 tx.0 ty.0) more in
          subst (λ j. Settles i j n m (order_then (w x y) (o x y) (order_items w o xs ys))) (sym k)
          (subst (λ g. Settles i (suc (min (length xs) (length ys))) n m g)
          (decide_order (w x y) (o x y) (order_items w o xs ys)) all)

      listed_looks : Looks (λ z. z ≡ order_items w o r.values s.values) (listed_row u a b) h
      unfolding listed_row listed_from shared_row
      listed_looks =
          let p = λ (z : Got Ordering). z ≡ order_items w o r.values s.values in
          let n = length r.values in
          let m = length s.values in
          looks_then (λ n. n ≡ length r.values) p (size_row a) (λ n. listed_from u a b n) h (size_looks S h a r ea)
          (λ n1 en. looks_then (λ m. m ≡ length s.values) p (size_row b) (λ m. shared_row u a b n1 m) h
          (size_looks S h b s eb)
          (λ m1 em. subst (λ n. Looks p (shared_row u a b n m1) h) (sym en)
          (subst (λ m. Looks p (shared_row u a b n m) h) (sym em)
          (looks_then (λ z. by_lengths n m z ≡ order_items w o r.values s.values) p
          (until_row (turn_row u a b) is_open (Is None) 0 (min n m)) (λ g. Ret (by_lengths n m g)) h
          (loop 0 r.values s.values n m refl refl refl (all_there a r ea) (all_there b s eb))
          (λ g e. looks_ret S p (by_lengths n m g) h e)))))

  -- ---- any two records, any two values

  -- how two lists of items are ordered, with what is left of levels
  Linked : Option (Parts S) → (List Value → List Value → Got Ordering) → Type 0
  Linked None items = (xs ys : List Value) → items xs ys ≡ Raise depth_fault
  Linked (Some u) items = (w : Value → Value → Got Bool) × (o : Value → Value → Got Ordering) × Likes u w o ×
      ((xs ys : List Value) → items xs ys ≡ order_items w o xs ys)

  module _ (a b : ℕ) (r s : Rec) (ea : h a ≡ Some r) (eb : h b ≡ Some s) where
    strings_looks : Looks {S = S} (λ z. z ≡ Is (order_bytes r.bytes s.bytes)) (strings_row a b) h
    unfolding strings_row bytes_with
    strings_looks =
        let p = λ (z : Got Ordering). z ≡ Is (order_bytes r.bytes s.bytes) in
        looks_then (λ x. x ≡ r.bytes) p (bytes_row a) (λ x. bytes_with x b) h (bytes_looks S h a r ea)
        (λ x ex. looks_then (λ y. y ≡ s.bytes) p (bytes_row b) (λ y. Ret (Is (order_bytes x y))) h
        (bytes_looks S h b s eb)
        (λ y ey. looks_ret S p (Is (order_bytes x y)) h (ap (λ x. Is (order_bytes x y)) ex ∙
        ap (λ y. Is (order_bytes r.bytes y)) ey)))

    module _ (items : List Value → List Value → Got Ordering) where
      level_looks : (under : Option (Parts S)) → Linked under items →
          Looks (λ z. z ≡ items r.values s.values) (level_row under (λ u. listed_row u a b)) h
      unfolding level_row Linked
      level_looks None l = looks_ret S (λ z. z ≡ items r.values s.values) (Raise depth_fault) h
          (sym (l r.values s.values))
      level_looks (Some u) l =
          looks_weaken (λ z. z ≡ order_items l.0 l.1 r.values s.values) (λ z. z ≡ items r.values s.values)
          (λ z e. e ∙ sym (l.3 r.values s.values)) (listed_row u a b) h (listed_looks u l.0 l.1 l.2 a b r s ea eb)

      module _ (under : Option (Parts S)) (link : Linked under items) where
        abbrev Says : Kind → Kind → Type 0
        Says k l = Looks (λ z. z ≡ order_records items k l r s) (ordered_by under a b (pairing_of k l)) h

        by_kinds : (k l : Kind) → Says k l
        unfolding ordered_by
        by_kinds Str Str = strings_looks
        by_kinds Tuple Tuple = level_looks under link
        by_kinds ListKind ListKind = level_looks under link
        by_kinds Dict Dict = looks_ret S (λ z. z ≡ Raise operand_fault) (Raise operand_fault) h refl
        by_kinds Method Method = looks_ret S (λ z. z ≡ Raise operand_fault) (Raise operand_fault) h refl
        by_kinds k l = looks_ret S (λ z. z ≡ Raise operand_fault) (Raise operand_fault) h refl

        ranked_looks : Looks (λ z. z ≡ order_by h items (Ref (record { 0 = a })) (Ref (record { 0 = b })))
            (ranked_row under a b) h
        unfolding ranked_row
        ranked_looks =
            let p = λ (z : Got Ordering). z ≡ order_by h items (Ref (record { 0 = a })) (Ref (record { 0 = b })) in
            let q : order_records items r.kind s.kind r s ≡ order_by h items (Ref (record { 0 = a }))
            (Ref (record { 0 = b })) =
            sym (ap (λ z. order_records items z.kind (at h b).kind z (at h b)) (at_is h a r ea) ∙
            ap (λ z. order_records items r.kind z.kind r z) (at_is h b s eb)) in
            looks_then (λ k. k ≡ pairing_of r.kind s.kind) p (kinds_row a b) (ordered_by under a b) h
            (kinds_looks S h a b r s ea eb)
            (λ k ek. subst (λ k. Looks p (ordered_by under a b k) h) (sym ek)
            (looks_weaken (λ z. z ≡ order_records items r.kind s.kind r s) p (λ z e. e ∙ q)
            (ordered_by under a b (pairing_of r.kind s.kind)) h (by_kinds r.kind s.kind)))

  module _ (under : Option (Parts S)) (items : List Value → List Value → Got Ordering) (link : Linked under items) where
    by_looks : (x y : Value) → Refers h x → Refers h y → Looks (λ z. z ≡ order_by h items x y) (order_under under x y) h
    unfolding order_under
    by_looks (Ref a) (Ref b) i j =
        let r = some_of (h a.0) i in
        let s = some_of (h b.0) j in
        ranked_looks a.0 b.0 r.0 s.0 r.1 s.1 items under link
    by_looks Unset y i j = looks_ret S (λ z. z ≡ order_numbers (number_of Unset) (number_of y))
        (order_numbers (number_of Unset) (number_of y)) h refl
    by_looks NoneValue y i j = looks_ret S (λ z. z ≡ order_numbers (number_of NoneValue) (number_of y))
        (order_numbers (number_of NoneValue) (number_of y)) h refl
    by_looks (BoolValue c) y i j = looks_ret S (λ z. z ≡ order_numbers (number_of (BoolValue c)) (number_of y))
        (order_numbers (number_of (BoolValue c)) (number_of y)) h refl
    by_looks (Int k) y i j = looks_ret S (λ z. z ≡ order_numbers (number_of (Int k)) (number_of y))
        (order_numbers (number_of (Int k)) (number_of y)) h refl
    by_looks (Builtin n) y i j = looks_ret S (λ z. z ≡ order_numbers (number_of (Builtin n)) (number_of y))
        (order_numbers (number_of (Builtin n)) (number_of y)) h refl
    by_looks (Ref a) Unset i j = looks_ret S (λ z. z ≡ order_numbers None (number_of Unset))
        (order_numbers None (number_of Unset)) h refl
    by_looks (Ref a) NoneValue i j = looks_ret S (λ z. z ≡ order_numbers None (number_of NoneValue))
        (order_numbers None (number_of NoneValue)) h refl
    by_looks (Ref a) (BoolValue c) i j = looks_ret S (λ z. z ≡ order_numbers None (number_of (BoolValue c)))
        (order_numbers None (number_of (BoolValue c))) h refl
    by_looks (Ref a) (Int k) i j = looks_ret S (λ z. z ≡ order_numbers None (number_of (Int k)))
        (order_numbers None (number_of (Int k))) h refl
    by_looks (Ref a) (Builtin n) i j = looks_ret S (λ z. z ≡ order_numbers None (number_of (Builtin n)))
        (order_numbers None (number_of (Builtin n))) h refl

  -- for each number of levels
  pub order_at_looks : (d : ℕ) (x y : Value) → Refers h x → Refers h y →
      Looks (λ z. z ≡ order_within h d x y) (order_levels {S = S} d x y) h
  unfolding order_within parts_below Linked
  order_at_looks zero x y i j = by_looks None (λ xs ys. Raise depth_fault) (λ xs ys. refl) x y i j
  order_at_looks (suc d) x y i j =
      let likes : Likes (parts_at d) (equal_within h d) (order_within h d) =
      record {
        alike = λ x y i j. equal_at_looks S rules h order d x y i j;
        ranks = λ x y i j.
            order_at_looks d x y i j;
      } in
      by_looks (Some (parts_at d)) (order_items (equal_within h d) (order_within h d))
      (equal_within h d, order_within h d, likes, λ xs ys. refl) x y i j
