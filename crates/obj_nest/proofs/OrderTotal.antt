-- Order is total on numbers and on strings, and agrees there with equality.
use Rattle.std.proofs.Common.{◌≡◌, ℕ, ℤ, zero, suc, Bool, true, List, [], ◌∷◌, Option, Some, None, refl, sym, ap, ◌∙◌}
use Rattle.std.specs.Prelude.{eqb}
use Rattle.std.specs.declared.cmp.Ordering.{Ordering}
use Rattle.std.specs.declared.cmp.Ordering.TheVariants.{Less, Equal, Greater}
use Rattle.std.specs.Cmp.{IsTotalOrder}
use Rattle.std.specs.Cmp.Lexicographic.{slice_cmp}
use Rattle.std.specs.Ordering.{int_cmp, nat_cmp, int_eq, is_eq, ordering_then, ordering_reverse}
use Rattle.std.proofs.lemmas.Cmp.{int_cmp_total, nat_list_cmp_total}
use Rattle.std.proofs.lemmas.Map.Text.{is_eq-slice_cmp}
use Rattle.py_base.specs.declared.kind.Kind.TheVariants.{Str}
use Rattle.py_data.specs.declared.value.Addr.{Addr}
use Rattle.py_data.specs.declared.value.Value.{Value}
use Rattle.py_data.specs.declared.value.Value.TheVariants.{Unset, None as NoneValue, Bool as BoolValue, Int, Ref, Builtin}
use Rattle.py_data.specs.declared.record.Got.{Got}
use Rattle.py_data.specs.declared.record.Got.TheVariants.{Is}
use Rattle.py_data.specs.Heap.{Rec, Heap, at}
use Rattle.py_data.specs.Shape.{bit, same_key, same_text, same_bytes, text_by, text_in, KindIn}
use Rattle.py_data.specs.Comparing.{Under, equal, equal_by, equal_kinds, equal_within, order, order_by, order_bytes, order_records, order_within, number_of}
use Rattle.py_data.proofs.Steps.{at_is}
use Rattle.obj_nest.specs.Laws.{IsNumber, IsString, TotalLaw}
use Rattle.obj_nest.proofs.NumberOrder.{number_order}

is_same : {A : Type 0} (a b : A) → Is a ≡ Is b → a ≡ b
is_same a b e = cc

-- ---- values that are ordered as what they stand for
module _ {K : Type 0} (R : K → K → Ordering) (total : IsTotalOrder R) (stands : Heap → Value → K → Type 0)
    (ordered : (h : Heap) (x y : Value) (i j : K) → stands h x i → stands h y j → order h x y ≡ Is (R i j))
    (same : (h : Heap) (x y : Value) (i j : K) → stands h x i → stands h y j → equal h x y ≡ Is (is_eq (R i j))) where
  equal_is : (o : Ordering) → is_eq o ≡ true → o ≡ Equal
  equal_is Equal e = refl
  equal_is Less e = absurd cc
  equal_is Greater e = absurd cc

  total_law : TotalLaw (λ h x. (k : K) × stands h x k)
  total_law = record {
    one = λ h x y i j. (R i.0 j.0, ordered h x y i.0 j.0 i.1 j.1);
    equal = λ h x y i j. (
      λ e. same h x y i.0 j.0 i.1 j.1 ∙ ap (λ o. Is (is_eq o))
          (is_same (R i.0 j.0) Equal (sym (ordered h x y i.0 j.0 i.1 j.1) ∙ e)),
      λ e. ordered h x y i.0 j.0 i.1 j.1 ∙
          ap Is (equal_is (R i.0 j.0) (is_same (is_eq (R i.0 j.0)) true (sym (same h x y i.0 j.0 i.1 j.1) ∙ e))),
    );
    turned = λ h x y o i j e. ordered h y x j.0 i.0 j.1 i.1 ∙
        ap Is (total.antisymm j.0 i.0 ∙ ap ordering_reverse
        (is_same (R i.0 j.0) o (sym (ordered h x y i.0 j.0 i.1 j.1) ∙ e)));
    joined = λ h x y z i j k e f. ordered h x z i.0 k.0 i.1 k.1 ∙
        ap Is (total.trans i.0 j.0 k.0 (is_same (R i.0 j.0) Less (sym (ordered h x y i.0 j.0 i.1 j.1) ∙ e))
        (is_same (R j.0 k.0) Less (sym (ordered h y z j.0 k.0 j.1 k.1) ∙ f)));
  }

-- ---- numbers
-- the number of a value that is one
number_at : (n i : ℤ) → ◌≡◌ {A = Option ℤ} (Some n) (Some i) → n ≡ i
number_at n i e = cc

keys_against : (h : Heap) (under : Under Bool) (n : ℤ) (y : Value) (j : ℤ) → number_of y ≡ Some j →
    same_key h (Int n) y ≡ int_eq n j
keys_against h under n (Int m) j e = ap (int_eq n) (number_at m j e)
keys_against h under n (BoolValue b) j e = ap (int_eq n) (number_at (bit b) j e)
keys_against h under n Unset j e = absurd (let q : ◌≡◌ {A = Option ℤ} None (Some j) = e in cc)
keys_against h under n NoneValue j e = absurd (let q : ◌≡◌ {A = Option ℤ} None (Some j) = e in cc)
keys_against h under n (Ref a) j e = absurd (let q : ◌≡◌ {A = Option ℤ} None (Some j) = e in cc)
keys_against h under n (Builtin b) j e = absurd (let q : ◌≡◌ {A = Option ℤ} None (Some j) = e in cc)

-- a truth value is equal to what its number is equal to
bit_key : (h : Heap) (b : Bool) (y : Value) (j : ℤ) → number_of y ≡ Some j →
    same_key h (BoolValue b) y ≡ same_key h (Int (bit b)) y
bit_key h b (Int m) j e = refl
bit_key h b (BoolValue c) j e = refl
bit_key h b Unset j e = refl
bit_key h b NoneValue j e = refl
bit_key h b (Ref a) j e = refl
bit_key h b (Builtin n) j e = refl

equal_numbers : (h : Heap) (under : Under Bool) (x y : Value) (i j : ℤ) → number_of x ≡ Some i → number_of y ≡ Some j →
    equal_by h under x y ≡ Is (int_eq i j)
equal_numbers h under (Int n) y i j ex ey =
    ap Is (keys_against h under n y j ey ∙ ap (λ n. int_eq n j) (number_at n i ex))
equal_numbers h under (BoolValue b) y i j ex ey =
    ap Is (bit_key h b y j ey ∙ (keys_against h under (bit b) y j ey ∙ ap (λ n. int_eq n j) (number_at (bit b) i ex)))
equal_numbers h under Unset y i j ex ey = absurd (let q : ◌≡◌ {A = Option ℤ} None (Some i) = ex in cc)
equal_numbers h under NoneValue y i j ex ey = absurd (let q : ◌≡◌ {A = Option ℤ} None (Some i) = ex in cc)
equal_numbers h under (Ref a) y i j ex ey = absurd (let q : ◌≡◌ {A = Option ℤ} None (Some i) = ex in cc)
equal_numbers h under (Builtin b) y i j ex ey = absurd (let q : ◌≡◌ {A = Option ℤ} None (Some i) = ex in cc)

numbers_same : (h : Heap) (d : ℕ) (x y : Value) (i j : ℤ) → number_of x ≡ Some i → number_of y ≡ Some j →
    equal_within h d x y ≡ Is (int_eq i j)
unfolding equal_within
numbers_same h zero x y i j ex ey = equal_numbers h None x y i j ex ey
numbers_same h (suc d) x y i j ex ey = equal_numbers h (Some (equal_within h d)) x y i j ex ey

pub numbers_total : TotalLaw IsNumber
numbers_total = total_law int_cmp int_cmp_total (λ h x i. number_of x ≡ Some i)
    number_order (λ h x y i j ex ey. numbers_same h 100 x y i j ex ey)

-- ---- strings
bytes_cmp : (xs ys : List ℕ) → order_bytes xs ys ≡ slice_cmp nat_cmp xs ys
bytes_cmp [] [] = refl
bytes_cmp [] (y ∷ ys) = refl
bytes_cmp (x ∷ xs) [] = refl
bytes_cmp (x ∷ xs) (y ∷ ys) = ap (ordering_then (nat_cmp x y)) (bytes_cmp xs ys)

-- a value is the address of a string of these bytes
record IsText (h : Heap) (x : Value) (bs : List ℕ) : Type 0 where
  pub addr : Addr
  pub text : Rec
  pub is : x ≡ Ref addr
  pub here : h addr.0 ≡ Some text
  pub kind : text.kind ≡ Str
  pub bytes : text.bytes ≡ bs

some_text : (h : Heap) (x : Value) → IsString h x → (bs : List ℕ) × IsText h x bs
some_text h (Ref a) i = by (h a.0) refl i
  where
    by : (o : Option Rec) → h a.0 ≡ o → KindIn o (λ q. q ≡ Str) → (bs : List ℕ) × IsText h (Ref a) bs
    by None e i = absurd i
    by (Some r) e i = (r.bytes, record { addr = a; text = r; is = refl; here = e; kind = i; bytes = refl })
some_text h Unset i = absurd i
some_text h NoneValue i = absurd i
some_text h (BoolValue b) i = absurd i
some_text h (Int n) i = absurd i
some_text h (Builtin b) i = absurd i

module _ (h : Heap) (a b : Addr) (r s : Rec) (ea : h a.0 ≡ Some r) (eb : h b.0 ≡ Some s) (kr : r.kind ≡ Str)
    (ks : s.kind ≡ Str) where
  two_texts : (items : List Value → List Value → Got Ordering) →
      order_by h items (Ref a) (Ref b) ≡ Is (order_bytes r.bytes s.bytes)
  two_texts items =
      ap (λ q. order_records items q.kind (at h b.0).kind q (at h b.0)) (at_is h a.0 r ea) ∙
      (ap (λ q. order_records items r.kind q.kind r q) (at_is h b.0 s eb)
      ∙ (ap (λ k. order_records items k s.kind r s) kr ∙ ap (λ k. order_records items Str k r s) ks))

  texts_ordered : (d : ℕ) → order_within h d (Ref a) (Ref b) ≡ Is (order_bytes r.bytes s.bytes)
  unfolding order_within
  texts_ordered zero = two_texts _
  texts_ordered (suc d) = two_texts _

  equal_texts : (under : Under Bool) → equal_by h under (Ref a) (Ref b) ≡ Is (same_bytes r.bytes s.bytes)
  equal_texts under =
      let vs = (at h a.0).values in
      let ws = (at h b.0).values in
      let key = same_key h (Ref a) (Ref b) in
      ap (λ q. equal_kinds h under key q.kind (at h b.0).kind vs ws) (at_is h a.0 r ea) ∙
      (ap (λ q. equal_kinds h under key r.kind q.kind vs ws) (at_is h b.0 s eb)
      ∙ (ap (λ k. equal_kinds h under key k s.kind vs ws) kr ∙
      (ap (λ k. equal_kinds h under key Str k vs ws) ks ∙ ap Is key_text)))
    where
      key_text : same_key h (Ref a) (Ref b) ≡ same_bytes r.bytes s.bytes
      key_text =
          ap (λ o. same_text (eqb a.0 b.0) (text_in o) (text_in (h b.0))) ea ∙
          (ap (λ o. same_text (eqb a.0 b.0) (text_by r.kind r.bytes) (text_in o)) eb
          ∙ (ap (λ k. same_text (eqb a.0 b.0) (text_by k r.bytes) (text_by s.kind s.bytes)) kr ∙
          ap (λ k. same_text (eqb a.0 b.0) (Some r.bytes) (text_by k s.bytes)) ks))

  texts_same : (d : ℕ) → equal_within h d (Ref a) (Ref b) ≡ Is (same_bytes r.bytes s.bytes)
  unfolding equal_within
  texts_same zero = equal_texts None
  texts_same (suc d) = equal_texts (Some (equal_within h d))

strings_ordered : (h : Heap) (x y : Value) (bs cs : List ℕ) → IsText h x bs → IsText h y cs →
    order h x y ≡ Is (slice_cmp nat_cmp bs cs)
strings_ordered h x y bs cs i j =
    ap (λ x. order h x y) i.is ∙ (ap (order h (Ref i.addr)) j.is ∙
    (texts_ordered h i.addr j.addr i.text j.text i.here j.here i.kind j.kind 100
    ∙ (ap (λ b. Is (order_bytes b j.text.bytes)) i.bytes ∙
    (ap (λ c. Is (order_bytes bs c)) j.bytes ∙ ap Is (bytes_cmp bs cs)))))

strings_same : (h : Heap) (x y : Value) (bs cs : List ℕ) → IsText h x bs → IsText h y cs →
    equal h x y ≡ Is (is_eq (slice_cmp nat_cmp bs cs))
strings_same h x y bs cs i j =
    ap (λ x. equal h x y) i.is ∙ (ap (equal h (Ref i.addr)) j.is ∙
    (texts_same h i.addr j.addr i.text j.text i.here j.here i.kind j.kind 100
    ∙ (ap (λ b. Is (same_bytes b j.text.bytes)) i.bytes ∙
    (ap (λ c. Is (same_bytes bs c)) j.bytes ∙ ap Is (sym (is_eq-slice_cmp bs cs))))))

pub strings_total : TotalLaw IsString
strings_total =
    let t = total_law (slice_cmp nat_cmp) nat_list_cmp_total IsText strings_ordered strings_same in
    record {
      one = λ h x y i j. t.one h x y (some_text h x i) (some_text h y j);
      equal = λ h x y i j. t.equal h x y (some_text h x i) (some_text h y j);
      turned = λ h x y o i j e. t.turned h x y o (some_text h x i) (some_text h y j) e;
      joined = λ h x y z i j k e f. t.joined h x y z (some_text h x i) (some_text h y j) (some_text h z k) e f;
    }
