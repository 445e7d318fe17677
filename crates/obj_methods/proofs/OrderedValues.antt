-- Values that are put in order by what they stand for are sorted by the order of values: numbers, and strings.
use Rattle.std.proofs.Common.{arith, ◌≡◌, ◌≢◌, ℕ, zero, suc, ℤ, Bool, true, false, cond, not, ◌&&◌, List, [], ◌∷◌, Option, Some, None, refl, sym, ap, ◌∙◌}
use Rattle.std.specs.Prelude.{unwrap_or}
use Rattle.std.specs.List.{filter}
use Rattle.std.specs.List.Sorted.{ties}
use Rattle.std.specs.declared.cmp.Ordering.{Ordering}
use Rattle.std.specs.declared.cmp.Ordering.TheVariants.{Less, Equal, Greater}
use Rattle.std.specs.Cmp.{IsStrictWeakOrder, IsTotalOrder}
use Rattle.std.specs.Ordering.{is_lt, int_cmp, ordering_reverse}
use Rattle.std.proofs.lemmas.Cmp.{int_cmp_total}
use Rattle.std.proofs.lemmas.List.Sorted.{ranks_by}
use Rattle.py_base.specs.declared.kind.Kind.TheVariants.{Str}
use Rattle.py_data.specs.declared.value.Addr.{Addr}
use Rattle.py_data.specs.declared.value.Value.{Value}
use Rattle.py_data.specs.declared.value.Value.TheVariants.{Unset, None as NoneValue, Bool as BoolValue, Int, Ref, Builtin}
use Rattle.py_data.specs.declared.record.Got.{Got}
use Rattle.py_data.specs.declared.record.Got.TheVariants.{Is, Raise}
use Rattle.py_data.specs.Comparing.{number_of, order, order_by, order_bytes, order_records, order_within}
use Rattle.py_data.specs.Every.{Every}
use Rattle.py_data.specs.Heap.{Heap, Rec, at, value_at}
use Rattle.py_data.specs.Shape.{KindIn}
use Rattle.py_data.proofs.EveryLemmas.{every_weaken}
use Rattle.py_data.proofs.Steps.{at_is}
use Rattle.obj_nest.specs.Laws.{IsNumber, IsString}
use Rattle.obj_nest.proofs.NumberOrder.{number_order}
use Rattle.obj_methods.specs.Laws.{IsSorted, is_tie, tying}
use Rattle.obj_methods.specs.Sorting.{in_order, number_in, number_less}
use Rattle.obj_methods.proofs.InOrder.{every_at, in_order_all, in_order_rising, in_order_same, in_order_stable, rising_at}
use Rattle.obj_methods.proofs.SortedBy.{bytes_total}

-- ---- lists
filter_as : {A : Type 0} (p q : A → Bool) (xs : List A) → Every (λ x. p x ≡ q x) xs → filter p xs ≡ filter q xs
filter_as p q [] e = refl
filter_as p q (x ∷ xs) e = ap (λ b. cond b (x ∷ filter p xs) (filter p xs)) e.0 ∙
    ap (λ l. cond (q x) (x ∷ l) l) (filter_as p q xs e.1)

-- ---- orders
tie_as : (o : Ordering) → is_tie (Is o) ≡ (not (is_lt o) && not (is_lt (ordering_reverse o)))
tie_as Less = refl
tie_as Equal = refl
tie_as Greater = refl

is_before : Got Ordering → Bool
is_before (Is o) = is_lt o
is_before (Raise e) = false

module _ (h : Heap) {K : Type 0} (R : K → K → Ordering) (total : IsTotalOrder R) (key : Value → K)
    (has : Value → Type 0) (ordered : (x y : Value) → has x → has y → order h x y ≡ Is (R (key x) (key y))) where
  abbrev less : Value → Value → Bool
  less x y = is_lt (R (key x) (key y))

  rank : IsStrictWeakOrder less
  rank = ranks_by total key

  tied : (x y : Value) → has x → has y → is_tie (order h x y) ≡ ties less x y
  tied x y i j = ap is_tie (ordered x y i j) ∙
      (tie_as (R (key x) (key y)) ∙ ap (λ o. not (is_lt (R (key x) (key y))) && not (is_lt o))
      (sym (total.antisymm (key y) (key x))))

  all_tied : (x : Value) (ys : List Value) → has x → Every has ys → tying h x ys ≡ filter (ties less x) ys
  all_tied x ys i j = filter_as (λ y. is_tie (order h x y)) (ties less x) ys
      (every_weaken has (λ y. is_tie (order h x y) ≡ ties less x y) (λ y k. tied x y i k) ys j)

  unbefore : (x y : Value) → has x → has y → less x y ≡ false → order h x y ≢ Is Less
  unfolding is_before
  unbefore x y i j l e = let q : false ≡ true = sym l ∙ (sym (ap is_before (ordered x y i j)) ∙ ap is_before e) in
      absurd cc

  pub sorted_by : (xs : List Value) → Every has xs → IsSorted h xs (in_order less xs)
  sorted_by xs e =
      let ys = in_order less xs in
      let all = in_order_all less rank has xs e in
      record {
        same = in_order_same less rank xs;
        rises = λ i j l m. unbefore (value_at ys j) (value_at ys i) (every_at has ys j Unset m all)
            (every_at has ys i Unset (omega (arith, l, m)) all)
            (rising_at less rank ys i j Unset (in_order_rising less rank xs) l m);
        stable = λ i l.
            let x = value_at xs i in
            let k = every_at has xs i Unset l e in
            all_tied x ys k all ∙ (in_order_stable less rank xs x ∙ sym (all_tied x xs k e));
      }

-- ---- numbers
as_number : (o : Option ℤ) (i d : ℤ) → o ≡ Some i → i ≡ unwrap_or o d
as_number None i d e = absurd (let q : ◌≡◌ {A = Option ℤ} None (Some i) = e in cc)
as_number (Some j) i d e = let q : i ≡ j = cc in q

numbers_ordered : (h : Heap) (x y : Value) → IsNumber h x → IsNumber h y →
    order h x y ≡ Is (int_cmp (number_in x) (number_in y))
numbers_ordered h x y i j =
    number_order h x y i.0 j.0 i.1 j.1 ∙
    (ap (λ n. Is (int_cmp n j.0)) (as_number (number_of x) i.0 _ i.1) ∙
    ap (λ n. Is (int_cmp (number_in x) n)) (as_number (number_of y) j.0 _ j.1))

pub sorted_numbers : (h : Heap) (xs : List Value) → Every (IsNumber h) xs → IsSorted h xs (in_order number_less xs)
sorted_numbers h xs e = sorted_by h int_cmp int_cmp_total number_in (IsNumber h) (numbers_ordered h) xs e

-- ---- strings
-- the bytes of the record that a value refers to
unfoldable pub bytes_in : Heap → Value → List ℕ
bytes_in h (Ref a) = (at h a.0).bytes
bytes_in h x = []

-- the lesser text
abbrev pub text_less : Heap → Value → Value → Bool
text_less h x y = is_lt (order_bytes (bytes_in h x) (bytes_in h y))

kind_at : (h : Heap) (a : ℕ) → KindIn (h a) (λ k. k ≡ Str) → (at h a).kind ≡ Str
kind_at h a i = by (h a) refl i
  where
    by : (o : Option Rec) → h a ≡ o → KindIn o (λ k. k ≡ Str) → (at h a).kind ≡ Str
    by None e i = absurd i
    by (Some r) e i = ap (λ q. q.kind) (at_is h a r e) ∙ i

two_texts : (h : Heap) (items : List Value → List Value → Got Ordering) (a b : Addr) → (at h a.0).kind ≡ Str →
    (at h b.0).kind ≡ Str → order_by h items (Ref a) (Ref b) ≡ Is (order_bytes (at h a.0).bytes (at h b.0).bytes)
two_texts h items a b i j =
    ap (λ k. order_records items k (at h b.0).kind (at h a.0) (at h b.0)) i ∙
    ap (λ k. order_records items Str k (at h a.0) (at h b.0)) j

texts_within : (h : Heap) (d : ℕ) (a b : Addr) → (at h a.0).kind ≡ Str → (at h b.0).kind ≡ Str →
    order_within h d (Ref a) (Ref b) ≡ Is (order_bytes (at h a.0).bytes (at h b.0).bytes)
unfolding order_within
texts_within h zero a b i j = two_texts h _ a b i j
texts_within h (suc d) a b i j = two_texts h _ a b i j

texts_ordered : (h : Heap) (x y : Value) → IsString h x → IsString h y →
    order h x y ≡ Is (order_bytes (bytes_in h x) (bytes_in h y))
unfolding bytes_in
texts_ordered h (Ref a) (Ref b) i j = texts_within h 100 a b (kind_at h a.0 i) (kind_at h b.0 j)
texts_ordered h (Ref a) Unset i j = absurd j
texts_ordered h (Ref a) NoneValue i j = absurd j
texts_ordered h (Ref a) (BoolValue b) i j = absurd j
texts_ordered h (Ref a) (Int n) i j = absurd j
texts_ordered h (Ref a) (Builtin b) i j = absurd j
texts_ordered h Unset y i j = absurd i
texts_ordered h NoneValue y i j = absurd i
texts_ordered h (BoolValue b) y i j = absurd i
texts_ordered h (Int n) y i j = absurd i
texts_ordered h (Builtin b) y i j = absurd i

pub sorted_strings : (h : Heap) (xs : List Value) → Every (IsString h) xs → IsSorted h xs (in_order (text_less h) xs)
sorted_strings h xs e = sorted_by h order_bytes bytes_total (bytes_in h) (IsString h) (texts_ordered h) xs e
