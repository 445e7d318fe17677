-- Equality of the items of a heap in order is an equivalence.
use Rattle.std.proofs.Common.{arith, ◌≡◌, ◌≢◌, ℕ, zero, suc, ◌<◌, Bool, true, false, List, [], ◌∷◌, length, Option, Some, None, refl, sym, ap, subst, ◌∙◌, ◌⊎◌, inl, inr}
use Rattle.std.specs.Prelude.{eqb, ◌&&◌, unwrap_or}
use Rattle.std.specs.Ordering.{int_eq}
use Rattle.std.proofs.lemmas.Bool.{eqb-true}
use Rattle.std.proofs.lemmas.Bool.Decides.{Decides-int_eq, Decides-eqb}
use Rattle.py_base.specs.declared.kind.Kind.{Kind}
use Rattle.py_base.specs.declared.kind.Kind.TheVariants.{Str, Tuple, List as ListKind, Dict, Method, Cell}
use Rattle.py_data.specs.declared.value.Addr.{Addr}
use Rattle.py_data.specs.declared.value.Value.{Value}
use Rattle.py_data.specs.declared.value.Value.TheVariants.{Unset, None as NoneValue, Bool as BoolValue, Int, Ref, Builtin}
use Rattle.py_data.specs.declared.record.Got.{Got}
use Rattle.py_data.specs.declared.record.Got.TheVariants.{Is, Raise}
use Rattle.py_data.specs.Fault.{depth_fault}
use Rattle.py_data.specs.Every.{Every}
use Rattle.py_data.specs.Heap.{Rec, Heap, at, value_at, blank}
use Rattle.py_data.specs.Shape.{bit, same_key, same_text, text_by, text_in, HasShape, ArePairs}
use Rattle.py_data.specs.Closed.{IsItem}
use Rattle.py_data.specs.Comparing.{Under, is_same, equal_by, equal_items, equal_kinds, equal_pairs, equal_within, of_one_length, one_level}
use Rattle.py_data.specs.Order.{Rules, IsOrdered}
use Rattle.py_data.proofs.EveryLemmas.{every_weaken}
use Rattle.py_data.proofs.ItemLemmas.{fit_items, item_at}
use Rattle.py_data.proofs.Steps.{at_is}
use Rattle.py_data.proofs.Looking.{some_of}
use Rattle.obj_nest.specs.Laws.{EqualLaw}
use Rattle.obj_nest.proofs.KeyLemmas.{key_same, key_trans, key_turned}
use Rattle.obj_nest.proofs.PairMatches.{Fine, same_lengths, one_length, pairs_matched, matched_pairs, matched_turned, matched_joined, pairs_fine, items_fine, items_turned, items_joined}
use Rattle.obj_nest.proofs.PairSearch.{Apart, are_apart}

not_true : (b : Bool) → Is b ≡ Is true → b ≡ true
not_true b e = cc

raised : {A : Type 0} → Raise depth_fault ≡ Is true → A
raised {A} e = absurd (let q : ◌≡◌ {A = Got Bool} (Raise depth_fault) (Is true) = e in cc)

-- ---- values that are the same one
same_bit : (b c : Bool) → int_eq (bit b) (bit c) ≡ true → b ≡ c
same_bit true true e = refl
same_bit false false e = refl
same_bit true false e = absurd (let q : false ≡ true = e in cc)
same_bit false true e = absurd (let q : false ≡ true = e in cc)

same_is : (x y : Value) → is_same x y ≡ true → x ≡ y
same_is NoneValue NoneValue e = refl
same_is (BoolValue b) (BoolValue c) e = ap BoolValue (same_bit b c e)
same_is (Int i) (Int j) e = ap Int ((Decides-int_eq i j).0 e)
same_is (Builtin n) (Builtin m) e = ap Builtin (eqb-true n m e)
same_is (Ref a) (Ref d) e = ap (λ k. Ref (record { 0 = k })) (eqb-true a.0 d.0 e)
same_is Unset Unset e = absurd (let q : false ≡ true = e in cc)
same_is Unset NoneValue e = absurd (let q : false ≡ true = e in cc)
same_is Unset (BoolValue c) e = absurd (let q : false ≡ true = e in cc)
same_is Unset (Int j) e = absurd (let q : false ≡ true = e in cc)
same_is Unset (Ref d) e = absurd (let q : false ≡ true = e in cc)
same_is Unset (Builtin m) e = absurd (let q : false ≡ true = e in cc)
same_is NoneValue Unset e = absurd (let q : false ≡ true = e in cc)
same_is NoneValue (BoolValue c) e = absurd (let q : false ≡ true = e in cc)
same_is NoneValue (Int j) e = absurd (let q : false ≡ true = e in cc)
same_is NoneValue (Ref d) e = absurd (let q : false ≡ true = e in cc)
same_is NoneValue (Builtin m) e = absurd (let q : false ≡ true = e in cc)
same_is (BoolValue b) Unset e = absurd (let q : false ≡ true = e in cc)
same_is (BoolValue b) NoneValue e = absurd (let q : false ≡ true = e in cc)
same_is (BoolValue b) (Int j) e = absurd (let q : false ≡ true = e in cc)
same_is (BoolValue b) (Ref d) e = absurd (let q : false ≡ true = e in cc)
same_is (BoolValue b) (Builtin m) e = absurd (let q : false ≡ true = e in cc)
same_is (Int i) Unset e = absurd (let q : false ≡ true = e in cc)
same_is (Int i) NoneValue e = absurd (let q : false ≡ true = e in cc)
same_is (Int i) (BoolValue c) e = absurd (let q : false ≡ true = e in cc)
same_is (Int i) (Ref d) e = absurd (let q : false ≡ true = e in cc)
same_is (Int i) (Builtin m) e = absurd (let q : false ≡ true = e in cc)
same_is (Ref a) Unset e = absurd (let q : false ≡ true = e in cc)
same_is (Ref a) NoneValue e = absurd (let q : false ≡ true = e in cc)
same_is (Ref a) (BoolValue c) e = absurd (let q : false ≡ true = e in cc)
same_is (Ref a) (Int j) e = absurd (let q : false ≡ true = e in cc)
same_is (Ref a) (Builtin m) e = absurd (let q : false ≡ true = e in cc)
same_is (Builtin n) Unset e = absurd (let q : false ≡ true = e in cc)
same_is (Builtin n) NoneValue e = absurd (let q : false ≡ true = e in cc)
same_is (Builtin n) (BoolValue c) e = absurd (let q : false ≡ true = e in cc)
same_is (Builtin n) (Int j) e = absurd (let q : false ≡ true = e in cc)
same_is (Builtin n) (Ref d) e = absurd (let q : false ≡ true = e in cc)

is_itself : (x : Value) → x ≢ Unset → is_same x x ≡ true
is_itself NoneValue s = refl
is_itself (BoolValue b) s = (Decides-int_eq (bit b) (bit b)).1 refl
is_itself (Int i) s = (Decides-int_eq i i).1 refl
is_itself (Builtin n) s = (Decides-eqb n n).1 refl
is_itself (Ref a) s = (Decides-eqb a.0 a.0).1 refl
is_itself Unset s = absurd (s refl)

both : (b c : Bool) → b && c ≡ true → (b ≡ true) × (c ≡ true)
both true c e = (refl, e)
both false c e = absurd (let q : false ≡ true = e in cc)

-- ---- values that aren't references
NotRef : Value → Type 0
NotRef (Ref a) = ⊥
NotRef x = Unit {0}

which : (x : Value) → ((a : Addr) × (x ≡ Ref a)) ⊎ NotRef x
unfolding NotRef
which (Ref a) = inl (a, refl)
which Unset = inr tt
which NoneValue = inr tt
which (BoolValue b) = inr tt
which (Int i) = inr tt
which (Builtin n) = inr tt

module _ (h : Heap) (under : Under Bool) where
  plain_left : (x y : Value) → NotRef x → equal_by h under x y ≡ Is (same_key h x y)
  unfolding NotRef
  plain_left (Ref a) y n = absurd n
  plain_left Unset y n = refl
  plain_left NoneValue y n = refl
  plain_left (BoolValue b) y n = refl
  plain_left (Int i) y n = refl
  plain_left (Builtin m) y n = refl

  ref_left : (a : Addr) (y : Value) → NotRef y → equal_by h under (Ref a) y ≡ Is (same_key h (Ref a) y)
  unfolding NotRef
  ref_left a (Ref b) n = absurd n
  ref_left a Unset n = refl
  ref_left a NoneValue n = refl
  ref_left a (BoolValue b) n = refl
  ref_left a (Int i) n = refl
  ref_left a (Builtin m) n = refl

  plain_right : (x y : Value) → NotRef y → equal_by h under x y ≡ Is (same_key h x y)
  plain_right x y n = by (which x)
    where
      by : (((a : Addr) × (x ≡ Ref a)) ⊎ NotRef x) → equal_by h under x y ≡ Is (same_key h x y)
      by (inl p) = subst (λ x. equal_by h under x y ≡ Is (same_key h x y)) (sym p.1) (ref_left p.0 y n)
      by (inr m) = plain_left x y m

-- a reference is equal to no other value
ref_apart : (h : Heap) (x : Value) (b : Addr) → NotRef x → same_key h x (Ref b) ≡ true → ⊥
unfolding NotRef
ref_apart h (Ref a) b n e = n
ref_apart h Unset b1 n e = absurd (let q : false ≡ true = e in cc)
ref_apart h NoneValue b1 n e = absurd (let q : false ≡ true = e in cc)
ref_apart h (BoolValue b) b1 n e = absurd (let q : false ≡ true = e in cc)
ref_apart h (Int i) b1 n e = absurd (let q : false ≡ true = e in cc)
ref_apart h (Builtin m) b1 n e = absurd (let q : false ≡ true = e in cc)

-- ---- records
str_kind : (k : Kind) (bs cs : List ℕ) → text_by k bs ≡ Some cs → k ≡ Str
str_kind Str bs cs e = refl
str_kind k bs cs e = absurd (let q : ◌≡◌ {A = Option (List ℕ)} None (Some cs) = e in cc)

str_at : (h : Heap) (a : ℕ) (cs : List ℕ) → text_in (h a) ≡ Some cs → (at h a).kind ≡ Str
str_at h a cs e = by (h a) refl e
  where
    by : (o : Option Rec) → h a ≡ o → text_in o ≡ Some cs → (at h a).kind ≡ Str
    by None q e = absurd (let q : ◌≡◌ {A = Option (List ℕ)} None (Some cs) = e in cc)
    by (Some r) q e = ap (λ z. z.kind) (at_is h a r q) ∙ str_kind r.kind r.bytes cs e

kind_congr : (h : Heap) (a b : ℕ) (x y : Option (List ℕ)) → text_in (h a) ≡ x → text_in (h b) ≡ y →
    same_text (eqb a b) x y ≡ true → (at h a).kind ≡ (at h b).kind
kind_congr h a b (Some xs) (Some ys) ex ey e = str_at h a xs ex ∙ sym (str_at h b ys ey)
kind_congr h a b None y ex ey e = ap (λ k. (at h k).kind) (eqb-true a b e)
kind_congr h a b (Some xs) None ex ey e = ap (λ k. (at h k).kind) (eqb-true a b e)

-- records that are equal are of one kind
one_kind : (h : Heap) (under : Under Bool) (key : Bool) (k l : Kind) (xs ys : List Value) → (key ≡ true → k ≡ l) →
    equal_kinds h under key k l xs ys ≡ Is true → k ≡ l
one_kind h under key Tuple Tuple xs ys f e = refl
one_kind h under key ListKind ListKind xs ys f e = refl
one_kind h under key Dict Dict xs ys f e = refl
one_kind h under key Method Method xs ys f e = refl
one_kind h under key k l xs ys f e = f (not_true key e)

module _ (rules : Rules) (h : Heap) (order : IsOrdered rules h) where
  dict_at : (a : ℕ) → (at h a).kind ≡ Dict → ArePairs h (at h a).values × Apart h (at h a).values
  unfolding at
  dict_at a e = by (h a) refl
    where
      by : (o : Option Rec) → h a ≡ o → ArePairs h (at h a).values × Apart h (at h a).values
      by None q = absurd (let w : Str ≡ Dict = sym (ap (λ o. (unwrap_or o blank).kind) q) ∙ e in cc)
      by (Some r) q =
          let k : r.kind ≡ Dict = sym (ap (λ z. z.kind) (at_is h a r q)) ∙ e in
          let shape = subst (λ k. HasShape h k r.values) k (order.each a r q).closed.shaped.0 in
          subst (λ z. ArePairs h z.values × Apart h z.values) (sym (at_is h a r q))
          (shape.0, are_apart h r.values shape.0 shape.1)

  -- ---- symmetric
  Turns : Under Bool → Type 0
  Turns None = Unit {0}
  Turns (Some u) = (x y : Value) → u x y ≡ Is true → u y x ≡ Is true

  items_level : (under : Under Bool) → Turns under → (xs ys : List Value) →
      one_level under (λ u. of_one_length xs ys (equal_items u xs ys)) ≡ Is true →
      one_level under (λ u. of_one_length ys xs (equal_items u ys xs)) ≡ Is true
  unfolding Turns
  items_level None t xs ys e = raised e
  items_level (Some u) t xs ys e = let s = same_lengths xs ys (equal_items u xs ys) e in
      one_length ys xs (equal_items u ys xs) (sym s.0) ∙ items_turned u t xs ys s.1

  pairs_level : (under : Under Bool) → Turns under → (xs ys : List Value) → Apart h xs → Apart h ys →
      one_level under (λ u. of_one_length xs ys (equal_pairs h u xs ys)) ≡ Is true
      → one_level under (λ u. of_one_length ys xs (equal_pairs h u ys xs)) ≡ Is true
  unfolding Turns
  pairs_level None t xs ys p q e = raised e
  pairs_level (Some u) t xs ys p q e =
      let s = same_lengths xs ys (equal_pairs h u xs ys) e in
      one_length ys xs (equal_pairs h u ys xs) (sym s.0) ∙
      matched_pairs h u ys xs (matched_turned h u t xs ys p q s.0 (pairs_matched h u xs ys s.1))

  methods_turned : (xs ys : List Value) →
      Is (is_same (value_at xs 0) (value_at ys 0) && is_same (value_at xs 1) (value_at ys 1)) ≡ Is true →
      Is (is_same (value_at ys 0) (value_at xs 0) && is_same (value_at ys 1) (value_at xs 1)) ≡ Is true
  methods_turned xs ys e =
      let t = not_true (is_same (value_at xs 0) (value_at ys 0) && is_same (value_at xs 1) (value_at ys 1)) e in
      let s = both (is_same (value_at xs 0) (value_at ys 0)) (is_same (value_at xs 1) (value_at ys 1)) t in
      let f = same_is (value_at xs 0) (value_at ys 0) s.0 in
      let o = same_is (value_at xs 1) (value_at ys 1) s.1 in
      let one : is_same (value_at ys 0) (value_at xs 0) ≡ true = ap (λ z. is_same z (value_at xs 0)) (sym f) ∙
      (ap (is_same (value_at xs 0)) f ∙ s.0) in
      let two : is_same (value_at ys 1) (value_at xs 1) ≡ true = ap (λ z. is_same z (value_at xs 1)) (sym o) ∙
      (ap (is_same (value_at xs 1)) o ∙ s.1) in
      ap Is (ap (λ b. b && is_same (value_at ys 1) (value_at xs 1)) one ∙ two)

  module _ (under : Under Bool) (turns : Turns under) where
    kind_turned : (a b : ℕ) (p q : Bool) → (p ≡ true → q ≡ true) → (k : Kind) → (at h a).kind ≡ k → (at h b).kind ≡ k →
        equal_kinds h under p k k (at h a).values (at h b).values ≡ Is true →
        equal_kinds h under q k k (at h b).values (at h a).values ≡ Is true
    kind_turned a b p q f Tuple ea eb e = items_level under turns (at h a).values (at h b).values e
    kind_turned a b p q f ListKind ea eb e = items_level under turns (at h a).values (at h b).values e
    kind_turned a b p q f Dict ea eb e = pairs_level under turns (at h a).values (at h b).values (dict_at a ea).1
        (dict_at b eb).1 e
    kind_turned a b p q f Method ea eb e = methods_turned (at h a).values (at h b).values e
    kind_turned a b p q f k ea eb e = ap Is (f (not_true p e))

    records_turned : (a b : Addr) → equal_by h under (Ref a) (Ref b) ≡ Is true →
        equal_by h under (Ref b) (Ref a) ≡ Is true
    records_turned a b e =
        let p = same_key h (Ref a) (Ref b) in
        let q = same_key h (Ref b) (Ref a) in
        let xs = (at h a.0).values in
        let ys = (at h b.0).values in
        let k = one_kind h under p (at h a.0).kind (at h b.0).kind xs ys
        (kind_congr h a.0 b.0 (text_in (h a.0)) (text_in (h b.0)) refl refl) e in
        let one = subst (λ z. equal_kinds h under p (at h a.0).kind z xs ys ≡ Is true) (sym k) e in
        subst (λ z. equal_kinds h under q z (at h a.0).kind ys xs ≡ Is true) k
        (kind_turned a.0 b.0 p q (key_turned h (Ref a) (Ref b)) (at h a.0).kind refl (sym k) one)

    turned_by : (x y : Value) → equal_by h under x y ≡ Is true → equal_by h under y x ≡ Is true
    turned_by x y e = by (which x) (which y)
      where
        plain : equal_by h under x y ≡ Is (same_key h x y) → equal_by h under y x ≡ Is (same_key h y x) →
            equal_by h under y x ≡ Is true
        plain s t = t ∙ ap Is (key_turned h x y (not_true (same_key h x y) (sym s ∙ e)))

        by : (((a : Addr) × (x ≡ Ref a)) ⊎ NotRef x) → (((b : Addr) × (y ≡ Ref b)) ⊎ NotRef y) →
            equal_by h under y x ≡ Is true
        by (inr n) j = plain (plain_left h under x y n) (plain_right h under y x n)
        by i (inr n) = plain (plain_right h under x y n) (plain_left h under y x n)
        by (inl i) (inl j) =
            let s = ap (λ x. equal_by h under x y) i.1 ∙ ap (equal_by h under (Ref i.0)) j.1 in
            let t = ap (λ y. equal_by h under y x) j.1 ∙ ap (equal_by h under (Ref j.0)) i.1 in
            t ∙ records_turned i.0 j.0 (sym s ∙ e)

  turned_within : (d : ℕ) (x y : Value) → equal_within h d x y ≡ Is true → equal_within h d y x ≡ Is true
  unfolding equal_within Turns
  turned_within zero x y e = turned_by None tt x y e
  turned_within (suc d) x y e = turned_by (Some (equal_within h d)) (turned_within d) x y e

  -- ---- transitive
  Joins : Under Bool → Type 0
  Joins None = Unit {0}
  Joins (Some u) = (x y z : Value) → u x y ≡ Is true → u y z ≡ Is true → u x z ≡ Is true

  items_join : (under : Under Bool) → Joins under → (xs ys zs : List Value) →
      one_level under (λ u. of_one_length xs ys (equal_items u xs ys)) ≡ Is true →
      one_level under (λ u. of_one_length ys zs (equal_items u ys zs)) ≡ Is true
      → one_level under (λ u. of_one_length xs zs (equal_items u xs zs)) ≡ Is true
  unfolding Joins
  items_join None t xs ys zs e f = raised e
  items_join (Some u) t xs ys zs e f =
      let s = same_lengths xs ys (equal_items u xs ys) e in
      let r = same_lengths ys zs (equal_items u ys zs) f in
      one_length xs zs (equal_items u xs zs) (s.0 ∙ r.0) ∙ items_joined u t xs ys zs s.0 s.1 r.1

  pairs_join : (under : Under Bool) → Joins under → (xs ys zs : List Value) →
      one_level under (λ u. of_one_length xs ys (equal_pairs h u xs ys)) ≡ Is true →
      one_level under (λ u. of_one_length ys zs (equal_pairs h u ys zs)) ≡ Is true
      → one_level under (λ u. of_one_length xs zs (equal_pairs h u xs zs)) ≡ Is true
  unfolding Joins
  pairs_join None t xs ys zs e f = raised e
  pairs_join (Some u) t xs ys zs e f =
      let s = same_lengths xs ys (equal_pairs h u xs ys) e in
      let r = same_lengths ys zs (equal_pairs h u ys zs) f in
      one_length xs zs (equal_pairs h u xs zs) (s.0 ∙ r.0) ∙
      matched_pairs h u xs zs (matched_joined h u t xs ys zs (pairs_matched h u xs ys s.1)
      (pairs_matched h u ys zs r.1))

  methods_joined : (xs ys zs : List Value) →
      Is (is_same (value_at xs 0) (value_at ys 0) && is_same (value_at xs 1) (value_at ys 1)) ≡ Is true →
      Is (is_same (value_at ys 0) (value_at zs 0) && is_same (value_at ys 1) (value_at zs 1)) ≡ Is true
      → Is (is_same (value_at xs 0) (value_at zs 0) && is_same (value_at xs 1) (value_at zs 1)) ≡ Is true
  methods_joined xs ys zs e f =
      let t = not_true (is_same (value_at xs 0) (value_at ys 0) && is_same (value_at xs 1) (value_at ys 1)) e in
      let s = both (is_same (value_at xs 0) (value_at ys 0)) (is_same (value_at xs 1) (value_at ys 1)) t in
      ap (λ v. Is (is_same v (value_at zs 0) && is_same (value_at xs 1) (value_at zs 1)))
      (same_is (value_at xs 0) (value_at ys 0) s.0)
      ∙ (ap (λ v. Is (is_same (value_at ys 0) (value_at zs 0) && is_same v (value_at zs 1)))
      (same_is (value_at xs 1) (value_at ys 1) s.1) ∙ f)

  module _ (under : Under Bool) (joins : Joins under) where
    kind_joined : (p q r : Bool) → (p ≡ true → q ≡ true → r ≡ true) → (k : Kind) (xs ys zs : List Value) →
        equal_kinds h under p k k xs ys ≡ Is true → equal_kinds h under q k k ys zs ≡ Is true →
        equal_kinds h under r k k xs zs ≡ Is true
    kind_joined p q r f Tuple xs ys zs d e = items_join under joins xs ys zs d e
    kind_joined p q r f ListKind xs ys zs d e = items_join under joins xs ys zs d e
    kind_joined p q r f Dict xs ys zs d e = pairs_join under joins xs ys zs d e
    kind_joined p q r f Method xs ys zs d e = methods_joined xs ys zs d e
    kind_joined p q r f k xs ys zs d e = ap Is (f (not_true p d) (not_true q e))

    records_joined : (a b c : Addr) → equal_by h under (Ref a) (Ref b) ≡ Is true →
        equal_by h under (Ref b) (Ref c) ≡ Is true → equal_by h under (Ref a) (Ref c) ≡ Is true
    records_joined a b c e f =
        let p = same_key h (Ref a) (Ref b) in
        let q = same_key h (Ref b) (Ref c) in
        let r = same_key h (Ref a) (Ref c) in
        let xs = (at h a.0).values in
        let ys = (at h b.0).values in
        let zs = (at h c.0).values in
        let k = one_kind h under p (at h a.0).kind (at h b.0).kind xs ys
        (kind_congr h a.0 b.0 (text_in (h a.0)) (text_in (h b.0)) refl refl) e in
        let l = one_kind h under q (at h b.0).kind (at h c.0).kind ys zs
        (kind_congr h b.0 c.0 (text_in (h b.0)) (text_in (h c.0)) refl refl) f in
        let one = subst (λ z. equal_kinds h under p (at h a.0).kind z xs ys ≡ Is true) (sym k) e in
        let two = subst (λ z. equal_kinds h under q z z ys zs ≡ Is true) (sym k)
        (subst (λ z. equal_kinds h under q (at h b.0).kind z ys zs ≡ Is true) (sym l) f) in
        subst (λ z. equal_kinds h under r (at h a.0).kind z xs zs ≡ Is true) (k ∙ l)
        (kind_joined p q r (key_trans h (Ref a) (Ref b) (Ref c)) (at h a.0).kind xs ys zs one two)

    joined_by : (x y z : Value) → equal_by h under x y ≡ Is true → equal_by h under y z ≡ Is true →
        equal_by h under x z ≡ Is true
    joined_by x y z e f = by (which x) (which y) (which z)
      where
        by : (((a : Addr) × (x ≡ Ref a)) ⊎ NotRef x) → (((b : Addr) × (y ≡ Ref b)) ⊎ NotRef y) →
            (((c : Addr) × (z ≡ Ref c)) ⊎ NotRef z) → equal_by h under x z ≡ Is true
        by (inl i) (inl j) (inl k) =
            let s = ap (λ x. equal_by h under x y) i.1 ∙ ap (equal_by h under (Ref i.0)) j.1 in
            let t = ap (λ y. equal_by h under y z) j.1 ∙ ap (equal_by h under (Ref j.0)) k.1 in
            let r = ap (λ x. equal_by h under x z) i.1 ∙ ap (equal_by h under (Ref i.0)) k.1 in
            r ∙ records_joined i.0 j.0 k.0 (sym s ∙ e) (sym t ∙ f)
        by (inr n) (inr m) k =
            let p = not_true (same_key h x y) (sym (plain_left h under x y n) ∙ e) in
            let q = not_true (same_key h y z) (sym (plain_left h under y z m) ∙ f) in
            plain_left h under x z n ∙ ap Is (key_trans h x y z p q)
        by (inr n) (inl j) k = absurd (ref_apart h x j.0 n
            (ap (same_key h x) (sym j.1) ∙ not_true (same_key h x y) (sym (plain_left h under x y n) ∙ e)))
        by (inl i) (inr m) k = absurd (ref_apart h y i.0 m
            (ap (same_key h y) (sym i.1) ∙
            key_turned h x y (not_true (same_key h x y) (sym (plain_right h under x y m) ∙ e))))
        by (inl i) (inl j) (inr o) = absurd
            (ref_apart h z j.0 o (ap (same_key h z) (sym j.1) ∙
            key_turned h y z (not_true (same_key h y z) (sym (plain_right h under y z o) ∙ f))))

  joined_within : (d : ℕ) (x y z : Value) → equal_within h d x y ≡ Is true → equal_within h d y z ≡ Is true →
      equal_within h d x z ≡ Is true
  unfolding equal_within Joins
  joined_within zero x y z e f = joined_by None tt x y z e f
  joined_within (suc d) x y z e f = joined_by (Some (equal_within h d)) (joined_within d) x y z e f

  -- ---- equal to itself
  Same : Under Bool → Type 0
  Same None = Unit {0}
  Same (Some u) = (x : Value) → IsItem h x → Fine (u x x)

  level_fine : (under : Under Bool) → Same under → (xs : List Value) (f : (Value → Value → Got Bool) → Got Bool) →
      Every (IsItem h) xs → ((u : Value → Value → Got Bool) → Every (λ x. Fine (u x x)) xs → Fine (f u)) →
      Fine (one_level under (λ u. of_one_length xs xs (f u)))
  unfolding Same
  level_fine None s xs f i g = inr refl
  level_fine (Some u) s xs f i g = subst Fine (sym (one_length xs xs (f u) refl))
      (g u (every_weaken (IsItem h) (λ x. Fine (u x x)) s xs i))

  two_values : (vs : List Value) → HasShape h Method vs → 1 < length vs
  two_values (f ∷ o ∷ []) i = omega arith
  two_values [] i = absurd i
  two_values (f ∷ []) i = absurd i
  two_values (f ∷ o ∷ x ∷ more) i = absurd i

  module _ (under : Under Bool) (same : Same under) where
    kind_fine : (a : Addr) (r : Rec) → h a.0 ≡ Some r → Ref a ≢ Unset → (k : Kind) → r.kind ≡ k →
        Fine (equal_kinds h under (same_key h (Ref a) (Ref a)) k k r.values r.values)
    kind_fine a r e n Tuple q = level_fine under same r.values (λ u. equal_items u r.values r.values)
        (fit_items rules h a.0 r (order.each a.0 r e) (λ c. let w : Tuple ≡ Cell = sym q ∙ c in cc))
        (λ u f. items_fine u r.values f)
    kind_fine a r e n ListKind q = level_fine under same r.values (λ u. equal_items u r.values r.values)
        (fit_items rules h a.0 r (order.each a.0 r e) (λ c. let w : ListKind ≡ Cell = sym q ∙ c in cc))
        (λ u f. items_fine u r.values f)
    kind_fine a r e n Dict q =
        let shape = subst (λ k. HasShape h k r.values) q (order.each a.0 r e).closed.shaped.0 in
        level_fine under same r.values (λ u. equal_pairs h u r.values r.values)
        (fit_items rules h a.0 r (order.each a.0 r e) (λ c. let w : Dict ≡ Cell = sym q ∙ c in cc))
        (λ u f. pairs_fine h u r.values (are_apart h r.values shape.0 shape.1) shape.0 f)
    kind_fine a r e n Method q =
        let shape = subst (λ k. HasShape h k r.values) q (order.each a.0 r e).closed.shaped.0 in
        let two = two_values r.values shape in
        let all = fit_items rules h a.0 r (order.each a.0 r e) (λ c. let w : Method ≡ Cell = sym q ∙ c in cc) in
        let f = is_itself (value_at r.values 0) (item_at h r.values 0 (omega (arith, two)) all).1 in
        let o = is_itself (value_at r.values 1) (item_at h r.values 1 two all).1 in
        inl (ap Is (ap (λ b. b && is_same (value_at r.values 1) (value_at r.values 1)) f ∙ o))
    kind_fine a r e n k q = inl (ap Is (key_same h (Ref a) n))

    fine_by : (x : Value) → IsItem h x → Fine (equal_by h under x x)
    fine_by (Ref a) i =
        let r = some_of (h a.0) i.0 in
        subst (λ q. Fine (equal_kinds h under (same_key h (Ref a) (Ref a)) q.kind q.kind q.values q.values))
        (sym (at_is h a.0 r.0 r.1)) (kind_fine a r.0 r.1 i.1 r.0.kind refl)
    fine_by Unset i = inl (ap Is (key_same h Unset i.1))
    fine_by NoneValue i = inl (ap Is (key_same h NoneValue i.1))
    fine_by (BoolValue b) i = inl (ap Is (key_same h (BoolValue b) i.1))
    fine_by (Int k) i = inl (ap Is (key_same h (Int k) i.1))
    fine_by (Builtin n) i = inl (ap Is (key_same h (Builtin n) i.1))

  fine_within : (d : ℕ) (x : Value) → IsItem h x → Fine (equal_within h d x x)
  unfolding equal_within Same
  fine_within zero x i = fine_by None tt x i
  fine_within (suc d) x i = fine_by (Some (equal_within h d)) (fine_within d) x i

pub equal_law : (rules : Rules) → EqualLaw rules
equal_law rules = record {
  same = λ h x ordered i. fine_within rules h ordered 100 x i;
  turned = λ h x y ordered i j e. turned_within rules h ordered 100 x y e;
  joined = λ h x y z ordered i j k e f. joined_within rules h ordered 100 x y z e f;
}
