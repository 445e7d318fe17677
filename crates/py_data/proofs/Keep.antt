-- What holds of a record over a heap holds over a heap that extends it.
use Rattle.std.proofs.Common.{◌≡◌, ℕ, zero, suc, ◌+◌, true, false, cond, eqb, List, [], ◌∷◌, Option, Some, None, refl, sym, ap, subst, ◌∙◌, inl, inr}
use Rattle.std.specs.Prelude.{is_some}
use Rattle.std.proofs.lemmas.Bool.{cases_Bool}
use Rattle.py_data.specs.declared.value.Value.{Value}
use Rattle.py_data.specs.declared.value.Value.TheVariants.{Unset, None as NoneValue, Bool as BoolValue, Int, Ref, Builtin}
use Rattle.py_base.specs.declared.kind.Kind.{Kind}
use Rattle.py_base.specs.declared.kind.Kind.TheVariants.{Str, Tuple, List as ListKind, Dict, Cell, Function, Class, Instance, Method, Iter, Range, Lock, Thread}
use Rattle.py_data.specs.Every.{Every}
use Rattle.py_data.specs.Heap.{Rec, Heap, Has, is_tracked, value_at}
use Rattle.py_data.specs.Shape.{KindIn, RefTo, IsKey, NoneOr, IsCallable, IsIterable, ArePairs, KeysDiffer, HasShape, text_by, text_in, same_text, same_key, find_from, is_key_kind, is_iterable}
use Rattle.py_data.specs.Closed.{Refers, base_of, BasesEnd, IsClosedAt}
use Rattle.py_data.specs.Order.{Rules, FitsAt, IsOrdered, IsKept, Extends, AreLasting}

pub kept_same : (h : Heap) (a : ℕ) (r : Rec) → h a ≡ Some r → IsKept h a r
kept_same h a r e = record { now = r; here = e; kind = refl; fixed = λ f. refl }

pub extends_same : (h : Heap) → Extends h h
extends_same h = record { kept = kept_same h }

pub extends_then : (h h1 h2 : Heap) → Extends h h1 → Extends h1 h2 → Extends h h2
extends_then h h1 h2 e f = record {
  kept = λ a r i.
      let k = e.kept a r i in
      let m = f.kept a k.now k.here in
      record {
        now = m.now;
        here = m.here;
        kind = m.kind ∙ k.kind;
        fixed = λ t. m.fixed (ap is_tracked k.kind ∙ t) ∙
            k.fixed t;
      };
}

module _ (h h1 : Heap) (x : Extends h h1) where
  in_some : (a : ℕ) (p : Kind → Type 0) (o : Option Rec) → h a ≡ o → KindIn o p → KindIn (h1 a) p
  in_some a p None e i = absurd i
  in_some a p (Some r) e i =
      let k = x.kept a r e in
      subst (λ o. KindIn o p) (sym k.here) (subst p (sym k.kind) i)

  pub kind_stays : (a : ℕ) (p : Kind → Type 0) → KindIn (h a) p → KindIn (h1 a) p
  kind_stays a p i = in_some a p (h a) refl i

  has_by : (a : ℕ) (o : Option Rec) → h a ≡ o → is_some o ≡ true → Has h1 a
  has_by a None e i = absurd (false_true i)
    where
      false_true : false ≡ true → ⊥
      false_true e = cc
  has_by a (Some r) e i = let k = x.kept a r e in ap is_some k.here

  pub has_stays : (a : ℕ) → Has h a → Has h1 a
  has_stays a i = has_by a (h a) refl i

  pub ref_stays : (k : Kind) (v : Value) → RefTo h k v → RefTo h1 k v
  ref_stays k (Ref a) i = kind_stays a.0 (λ q. q ≡ k) i
  ref_stays k Unset i = absurd i
  ref_stays k NoneValue i = absurd i
  ref_stays k (BoolValue b) i = absurd i
  ref_stays k (Int n) i = absurd i
  ref_stays k (Builtin b) i = absurd i

  pub refers_stays : (v : Value) → Refers h v → Refers h1 v
  refers_stays (Ref a) i = has_stays a.0 i
  refers_stays Unset i = tt
  refers_stays NoneValue i = tt
  refers_stays (BoolValue b) i = tt
  refers_stays (Int n) i = tt
  refers_stays (Builtin b) i = i

  pub all_refer : (vs : List Value) → Every (Refers h) vs → Every (Refers h1) vs
  all_refer [] i = i
  all_refer (v ∷ vs) i = (refers_stays v i.0, all_refer vs i.1)

  key_stays : (v : Value) → IsKey h v → IsKey h1 v
  key_stays (Ref a) i = kind_stays a.0 (λ k. is_key_kind k ≡ true) i
  key_stays Unset i = absurd i
  key_stays NoneValue i = tt
  key_stays (BoolValue b) i = tt
  key_stays (Int n) i = tt
  key_stays (Builtin b) i = tt

  callable_stays : (v : Value) → IsCallable h v → IsCallable h1 v
  callable_stays (Ref a) i = kind_stays a.0 (λ q. q ≡ Function) i
  callable_stays Unset i = absurd i
  callable_stays NoneValue i = absurd i
  callable_stays (BoolValue b) i = absurd i
  callable_stays (Int n) i = absurd i
  callable_stays (Builtin b) i = tt

  iterable_stays : (v : Value) → IsIterable h v → IsIterable h1 v
  iterable_stays (Ref a) i = kind_stays a.0 (λ k. is_iterable k ≡ true) i
  iterable_stays Unset i = absurd i
  iterable_stays NoneValue i = absurd i
  iterable_stays (BoolValue b) i = absurd i
  iterable_stays (Int n) i = absurd i
  iterable_stays (Builtin b) i = absurd i

  none_or_stays : (v : Value) → NoneOr (RefTo h Class) v → NoneOr (RefTo h1 Class) v
  none_or_stays (Ref a) i = kind_stays a.0 (λ q. q ≡ Class) i
  none_or_stays Unset i = absurd i
  none_or_stays NoneValue i = tt
  none_or_stays (BoolValue b) i = absurd i
  none_or_stays (Int n) i = absurd i
  none_or_stays (Builtin b) i = absurd i

  pairs_stay : (vs : List Value) → ArePairs h vs → ArePairs h1 vs
  pairs_stay [] i = tt
  pairs_stay (k ∷ []) i = absurd i
  pairs_stay (k ∷ v ∷ rest) i = (key_stays k i.0, pairs_stay rest i.1)

  -- ---- strings are fixed, so keys are found as before
  text_none : (k : Kind) (bs : List ℕ) → is_tracked k ≡ true → text_by k bs ≡ None
  text_none Str bs e = absurd (let q : false ≡ true = e in cc)
  text_none Tuple bs e = refl
  text_none ListKind bs e = refl
  text_none Dict bs e = refl
  text_none Cell bs e = refl
  text_none Function bs e = refl
  text_none Class bs e = refl
  text_none Instance bs e = refl
  text_none Method bs e = refl
  text_none Iter bs e = refl
  text_none Range bs e = refl
  text_none Lock bs e = refl
  text_none Thread bs e = refl

  text_by_stays : (a : ℕ) (o : Option Rec) → h a ≡ o → is_some o ≡ true → text_in (h1 a) ≡ text_in o
  text_by_stays a None e i = absurd (let q : false ≡ true = i in cc)
  text_by_stays a (Some r) e i =
      let k = x.kept a r e in
      elim (cases_Bool (is_tracked r.kind)) [
        | inl t ↦ ap text_in k.here ∙ (text_none k.now.kind k.now.bytes (ap is_tracked k.kind ∙ t) ∙
            sym (text_none r.kind r.bytes t))
        | inr f ↦ ap text_in k.here ∙ ap (λ q. text_by q.kind q.bytes) (k.fixed f)
      ]

  text_stays : (a : ℕ) → Has h a → text_in (h1 a) ≡ text_in (h a)
  text_stays a i = text_by_stays a (h a) refl i

  same_stays : (v w : Value) → Refers h v → Refers h w → same_key h1 v w ≡ same_key h v w
  same_stays (Ref a) (Ref b) i j =
      ap (λ o. same_text (eqb a.0 b.0) o (text_in (h1 b.0))) (text_stays a.0 i) ∙
      ap (λ o. same_text (eqb a.0 b.0) (text_in (h a.0)) o) (text_stays b.0 j)
  same_stays (Ref a) Unset i j = refl
  same_stays (Ref a) NoneValue i j = refl
  same_stays (Ref a) (BoolValue b) i j = refl
  same_stays (Ref a) (Int n) i j = refl
  same_stays (Ref a) (Builtin b) i j = refl
  same_stays Unset w i j = refl
  same_stays NoneValue w i j = refl
  same_stays (BoolValue b) w i j = refl
  same_stays (Int n) w i j = refl
  same_stays (Builtin b) w i j = refl

  find_stays : (n : ℕ) (vs : List Value) (key : Value) → Every (Refers h) vs → Refers h key →
      find_from h1 n vs key ≡ find_from h n vs key
  find_stays n [] key i j = refl
  find_stays n (k ∷ []) key i j = refl
  find_stays n (k ∷ v ∷ rest) key i j =
      ap (λ b. cond b (Some n) (find_from h1 (n + 1) rest key)) (same_stays k key i.0 j) ∙
      ap (cond (same_key h k key) (Some n)) (find_stays (n + 1) rest key i.1.1 j)

  differ_stays : (vs : List Value) → Every (Refers h) vs → KeysDiffer h vs → KeysDiffer h1 vs
  differ_stays [] i d = tt
  differ_stays (k ∷ []) i d = tt
  differ_stays (k ∷ v ∷ rest) i d = (find_stays 0 rest k i.1.1 i.0 ∙ d.0, differ_stays rest i.1.1 d.1)

  -- ---- shapes
  shape_stays : (k : Kind) (vs : List Value) → Every (Refers h) vs → HasShape h k vs → HasShape h1 k vs
  shape_stays Str [] i s = tt
  shape_stays Str (v ∷ vs) i s = absurd s
  shape_stays Tuple vs i s = tt
  shape_stays ListKind vs i s = tt
  shape_stays Dict vs i s = (pairs_stay vs s.0, differ_stays vs i s.1)
  shape_stays Cell [] i s = absurd s
  shape_stays Cell (v ∷ []) i s = tt
  shape_stays Cell (v ∷ w ∷ vs) i s = absurd s
  shape_stays Function [] i s = absurd s
  shape_stays Function (a ∷ []) i s = absurd s
  shape_stays Function (a ∷ b ∷ []) i s = absurd s
  shape_stays Function (a ∷ b ∷ c ∷ []) i s = (ref_stays Str a s.0, s.1, ref_stays Tuple c s.2)
  shape_stays Function (a ∷ b ∷ c ∷ d ∷ vs) i s = absurd s
  shape_stays Class [] i s = absurd s
  shape_stays Class (a ∷ []) i s = absurd s
  shape_stays Class (a ∷ b ∷ []) i s = absurd s
  shape_stays Class (a ∷ b ∷ c ∷ []) i s = (ref_stays Str a s.0, none_or_stays b s.1, ref_stays Dict c s.2)
  shape_stays Class (a ∷ b ∷ c ∷ d ∷ vs) i s = absurd s
  shape_stays Instance [] i s = absurd s
  shape_stays Instance (a ∷ []) i s = absurd s
  shape_stays Instance (a ∷ b ∷ []) i s = (ref_stays Class a s.0, ref_stays Dict b s.1)
  shape_stays Instance (a ∷ b ∷ c ∷ vs) i s = absurd s
  shape_stays Method [] i s = absurd s
  shape_stays Method (a ∷ []) i s = absurd s
  shape_stays Method (a ∷ b ∷ []) i s = callable_stays a s
  shape_stays Method (a ∷ b ∷ c ∷ vs) i s = absurd s
  shape_stays Iter [] i s = absurd s
  shape_stays Iter (a ∷ []) i s = absurd s
  shape_stays Iter (a ∷ b ∷ []) i s = absurd s
  shape_stays Iter (a ∷ b ∷ c ∷ []) i s = (iterable_stays a s.0, s.1, s.2)
  shape_stays Iter (a ∷ b ∷ c ∷ d ∷ vs) i s = absurd s
  shape_stays Range vs i s = s
  shape_stays Lock [] i s = absurd s
  shape_stays Lock (a ∷ []) i s = s
  shape_stays Lock (a ∷ b ∷ vs) i s = absurd s
  shape_stays Thread [] i s = absurd s
  shape_stays Thread (a ∷ []) i s = absurd s
  shape_stays Thread (a ∷ b ∷ []) i s = absurd s
  shape_stays Thread (a ∷ b ∷ c ∷ []) i s = absurd s
  shape_stays Thread (a ∷ b ∷ c ∷ d ∷ []) i s = (ref_stays Tuple b s.0, s.1, s.2)
  shape_stays Thread (a ∷ b ∷ c ∷ d ∷ e ∷ vs) i s = absurd s

  -- ---- bases: classes are fixed
  class_base : (vs : List Value) → HasShape h Class vs → NoneOr (RefTo h Class) (value_at vs 1)
  class_base [] s = absurd s
  class_base (a ∷ []) s = absurd s
  class_base (a ∷ b ∷ []) s = absurd s
  class_base (a ∷ b ∷ c ∷ []) s = s.1
  class_base (a ∷ b ∷ c ∷ d ∷ vs) s = absurd s

  module _ (rules : Rules) (order : IsOrdered rules h) where
    bases_by : (n : ℕ) → ((v : Value) → NoneOr (RefTo h Class) v → BasesEnd h n v → BasesEnd h1 n v) →
        (a : ℕ) (o : Option Rec) → h a ≡ o → KindIn o (λ q. q ≡ Class) → BasesEnd h n (base_of o) →
        BasesEnd h1 n (base_of (h1 a))
    bases_by n more a None e i b = absurd i
    bases_by n more a (Some r) e i b =
        let k = x.kept a r e in
        let same : h1 a ≡ Some r = k.here ∙ ap Some (k.fixed (ap is_tracked i)) in
        let fit = order.each a r e in
        let shape : HasShape h Class r.values = subst (λ q. HasShape h q r.values) i fit.closed.shaped.0 in
        subst (λ o. BasesEnd h1 n (base_of o)) (sym same) (more (value_at r.values 1) (class_base r.values shape) b)

    bases_stay : (n : ℕ) (v : Value) → NoneOr (RefTo h Class) v → BasesEnd h n v → BasesEnd h1 n v
    bases_stay n NoneValue i b = tt
    bases_stay (suc n) (Ref a) i b = bases_by n (λ v j c. bases_stay n v j c) a.0 (h a.0) refl i b
    bases_stay zero (Ref a) i b = absurd b
    bases_stay n Unset i b = absurd i
    bases_stay n (BoolValue c) i b = absurd i
    bases_stay n (Int m) i b = absurd i
    bases_stay n (Builtin c) i b = absurd i

    closed_stays : (r : Rec) → IsClosedAt h r → IsClosedAt h1 r
    closed_stays r c = record {
      refers = all_refer r.values c.refers;
      shaped = (shape_stays r.kind r.values c.refers c.shaped.0, c.shaped.1, c.shaped.2);
      bases = λ e.
          let m = c.bases e in (
            m.0,
            bases_stay m.0 (value_at r.values 1)
                (class_base r.values (subst (λ q. HasShape h q r.values) e c.shaped.0)) m.1,
          );
    }

    pub fit_stays : AreLasting rules → (a : ℕ) (r : Rec) → FitsAt rules h a r → FitsAt rules h1 a r
    fit_stays last a r f = record {
      closed = closed_stays r f.closed;
      short = f.short;
      function = λ e. last.function h h1 r.values x (f.function e);
      cell = f.cell;
    }
