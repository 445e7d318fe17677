-- What the text of an exception is, in words of its class and of what it is told with.
use Rattle.std.proofs.Common.{arith, ◌≡◌, ◌≢◌, ℕ, zero, suc, ◌+◌, ◌<◌, ◌≤◌, ◌==◌, Bool, true, false, cond, eqb, List, [], ◌∷◌, codes, Option, Some, None, refl, sym, ap, subst, ◌∙◌, lit<}
use Rattle.std.specs.Prelude.{unwrap_or}
use Rattle.std.specs.Str.{bytes_eq}
use Rattle.std.proofs.lemmas.Bool.{cond-false, eq-eqb, eqb-true, ne_eqb}
use Rattle.py_base.specs.Numbers.{class_count, class_number}
use Rattle.py_base.specs.declared.kind.Kind.{Kind}
use Rattle.py_base.specs.declared.kind.Kind.TheVariants.{Str, Tuple, Dict, Class, Instance}
use Rattle.py_data.specs.declared.value.Addr.{Addr}
use Rattle.py_data.specs.declared.value.Value.{Value}
use Rattle.py_data.specs.declared.value.Value.TheVariants.{Unset, None as NoneValue, Bool as BoolValue, Int, Ref, Builtin}
use Rattle.py_data.specs.declared.record.Got.{Got}
use Rattle.py_data.specs.declared.record.Got.TheVariants.{Is}
use Rattle.py_data.specs.declared.record.With.{With}
use Rattle.py_data.specs.declared.record.With.TheVariants.{Nothing, Text, Held}
use Rattle.py_data.specs.Closed.{BasesEnd, base_of}
use Rattle.py_data.specs.Heap.{Heap, Rec, at, blank, new_rec, value_at}
use Rattle.py_data.specs.Texts.{repr, repr_within, str, str_by}
use Rattle.py_data.proofs.Same.{one_rec}
use Rattle.obj_nest.specs.Text.{spelling, alone_by_kind, text_within}
use Rattle.obj_class.specs.declared.args.Part.{Part}
use Rattle.obj_class.specs.Attributes.{values_in}
use Rattle.obj_class.specs.Bases.{MOST_BASES, ref, up, is_below}
use Rattle.obj_class.specs.Exceptions.{IsException, IsToldIn}
use Rattle.obj_class.specs.Laws.{IsTold, TellingLaw, text_of_told}
use Rattle.obj_class.specs.Roots.{IsExceptionClass, IsRoots, class_place, own_name, root_base, root_class, base_names}
use Rattle.obj_class.specs.Telling.{Tells, alone_at, alone_by, args_among, args_in, exception_text, instance_text, is_args, is_args_in, is_of, is_under, part, part_among, part_at, part_of, part_text, text_of, told_part, told_under, told_within}
use Rattle.obj_class.proofs.Below.{below_is, is_found, more_turns}
use Rattle.obj_class.proofs.ExceptionClasses.{base_number, exceptions_law, lower, other_number, same_address}
use Rattle.obj_class.proofs.RootsHold.{before}

-- ---- texts of other values

within_str : (h : Heap) (x : Value) → text_within h 100 x false ≡ str spelling h x
within_str h (Ref a) = by (at h a.0).kind (at h a.0)
  where
    by : (k : Kind) (r : Rec) → alone_by_kind h 100 (Ref a) k r ≡ str_by spelling h (Ref a) k r
    by Str r = refl
    by k r = refl
within_str h x = refl

-- ---- which names another class has

-- of so many classes from one on, each but KeyError has another name
abbrev are_others : ℕ → ℕ → Bool
are_others k zero = true
are_others k (suc m) = cond (eqb k 17) (are_others (k + 1) m)
    (cond (bytes_eq (own_name k) (codes "KeyError")) false (cond (eqb (base_number k) 17) false (are_others (k + 1) m)))

abbrev Other : ℕ → Type 0
Other n = (bytes_eq (own_name n) (codes "KeyError") ≡ false) × (eqb (base_number n) 17 ≡ false)

first_other : (k : ℕ) (a b c more : Bool) → eqb k 17 ≡ a → bytes_eq (own_name k) (codes "KeyError") ≡ b →
    eqb (base_number k) 17 ≡ c → cond a more (cond b false (cond c false more)) ≡ true →
    (eqb k 17 ≡ false → Other k) × (more ≡ true)
first_other k true b c more s t u e = (λ f. absurd (let z : true ≡ false = sym s ∙ f in cc), e)
first_other k false false false more s t u e = (λ f. (t, u), e)
first_other k false false true more s t u e = absurd (let z : false ≡ true = e in cc)
first_other k false true c more s t u e = absurd (let z : false ≡ true = e in cc)

other_at : (n k m : ℕ) → are_others k m ≡ true → k ≤ n → n < k + m → eqb n 17 ≡ false → Other n
other_at n k zero e l g f = absurd (omega (arith, l, g))
other_at n k (suc m) e l g f =
    let o = first_other k (eqb k 17) (bytes_eq (own_name k) (codes "KeyError")) (eqb (base_number k) 17)
    (are_others (k + 1) m) refl refl refl e in
    by (eqb n k) refl o.0 (λ l2. other_at n (k + 1) m o.1 l2 (omega (arith, g)) f)
  where
    by : (b : Bool) → eqb n k ≡ b → (eqb k 17 ≡ false → Other k) → (k + 1 ≤ n → Other n) → Other n
    by true q here more = let same = eqb-true n k q in
        subst Other (sym same) (here (subst (λ n. eqb n 17 ≡ false) same f))
    by false q here more = more (let d = other_number n k q in omega (arith, d, l))

other : (n : ℕ) → n < class_count → eqb n 17 ≡ false → Other n
other n l f = other_at n 0 20 refl (omega arith) (omega (arith, l)) f

module _ (h : Heap) (roots : ℕ) (r : IsRoots h roots) where
  abbrev vs : List Value
  vs = r.list.values

  -- the class above that of a number, or none above `object`
  base_is : (n : ℕ) → (l : n < class_count) → base_of (h (r.classes n l).address) ≡ root_base vs n
  base_is n l = let c = r.classes n l in ap base_of c.here ∙ c.base

  -- ---- the way along bases ends
  end_more : (n m : ℕ) (v : Value) → BasesEnd h n v → n ≤ m → BasesEnd h m v
  end_more n zero NoneValue e l = tt
  end_more n (suc m) NoneValue e l = tt
  end_more zero m (Ref c) e l = absurd e
  end_more (suc n) zero (Ref c) e l = absurd (omega (arith, l))
  end_more (suc n) (suc m) (Ref c) e l = end_more n m (base_of (h c.0)) e (omega (arith, l))
  end_more n m Unset e l = absurd e
  end_more n m (BoolValue b) e l = absurd e
  end_more n m (Int i) e l = absurd e
  end_more n m (Builtin b) e l = absurd e

  ends : (f n : ℕ) → n < f → n < class_count → BasesEnd h (n + 1) (value_at vs (class_place n))
  ends zero n m l = absurd (omega (arith, m))
  ends (suc f) n m l =
      let c = r.classes n l in
      let e : n + 1 ≡ suc n = omega arith in
      subst (BasesEnd h (n + 1)) (sym c.is)
      (rw e (subst (BasesEnd h n) (sym (base_is n l)) (by (eqb n 0) refl (λ k. ends f (base_number n) k))))
    where
      by : (b : Bool) → eqb n 0 ≡ b → (base_number n < f → base_number n < class_count →
          BasesEnd h (base_number n + 1) (value_at vs (class_place (base_number n)))) →
          BasesEnd h n (cond b NoneValue (value_at vs (class_place (base_number n))))
      by true q more = none n
        where
          none : (n : ℕ) → BasesEnd h n NoneValue
          none zero = tt
          none (suc n) = tt
      by false q more =
          let less = before n l q in
          end_more (base_number n + 1) n (value_at vs (class_place (base_number n)))
          (more (omega (arith, less, m)) (omega (arith, less, l))) (omega (arith, less))

  -- ---- each class but `object` is an exception class by the test, too
  tested : (n : ℕ) → 0 < n → n < class_count →
      is_under h (value_at vs (class_place n)) (root_class vs (codes "BaseException")) ≡ true
  tested n g l =
      let b = r.classes 1 (lit< tt) in
      let e = exceptions_law.are h roots n r g l in
      let end = ends (n + 1) n (omega arith) l in
      let v = value_at vs (class_place n) in
      let found = is_found h b.address (n + 1) e.0 v end (e.1 ∙ b.is) in
      let all = more_turns h b.address (n + 1) MOST_BASES v end (omega (arith, l)) in
      subst (λ x. is_under h v x ≡ true) (sym b.is) (all ∙ found)

  -- and KeyError is below KeyError, while no other class is
  itself : is_under h (value_at vs (class_place 17)) (root_class vs (codes "KeyError")) ≡ true
  itself =
      let k = r.classes 17 (lit< tt) in
      subst (λ x. is_under h x x ≡ true) (sym k.is)
      (ap (λ b. cond b true (is_below h k.address 4_294_967_295 (base_of (h k.address))))
      (eq-eqb k.address k.address refl))

  apart : (n : ℕ) → (l : n < class_count) → eqb n 17 ≡ false →
      (r.classes n l).address ≢ (r.classes 17 (lit< tt)).address
  apart n l f same =
      let c = r.classes n l in
      let k = r.classes 17 (lit< tt) in
      let class : c.class ≡ k.class = one_rec (h k.address) k.class c.class k.here (sym (ap h same) ∙ c.here) in
      let named = same_address c.name k.name (sym c.named ∙ (ap (λ q. value_at q.values 0) class ∙ k.named)) in
      let text : new_rec Str [] (own_name n) ≡ new_rec Str [] (codes "KeyError") =
      one_rec (h k.name) (new_rec Str [] (codes "KeyError")) (new_rec Str [] (own_name n)) k.text
      (sym (ap h named) ∙ c.text) in
      let bytes : bytes_eq (own_name n) (codes "KeyError") ≡ true =
      ap (λ q. bytes_eq q.bytes (codes "KeyError")) text in
      let z : true ≡ false = sym bytes ∙ (other n l f).0 in
      cc

  below_none : (base m : ℕ) → is_below h base m NoneValue ≡ false
  below_none base zero = refl
  below_none base (suc m) = refl

  not_key : (f n m : ℕ) → n < f → n < class_count → eqb n 17 ≡ false →
      is_below h (r.classes 17 (lit< tt)).address m (value_at vs (class_place n)) ≡ false
  not_key zero n m g l q = absurd (omega (arith, g))
  not_key (suc f) n zero g l q = refl
  not_key (suc f) n (suc m) g l q =
      let c = r.classes n l in
      let key = (r.classes 17 (lit< tt)).address in
      subst (λ x. is_below h key (suc m) x ≡ false) (sym c.is)
      (cond-false (eqb c.address key) true (is_below h key m (base_of (h c.address)))
      (ne_eqb c.address key (apart n l q))
      ∙ (ap (is_below h key m) (base_is n l) ∙ by (eqb n 0) refl (λ k j p. not_key f (base_number n) m k j p)))
    where
      by : (b : Bool) → eqb n 0 ≡ b → (base_number n < f → base_number n < class_count → eqb (base_number n) 17 ≡ false
          → is_below h (r.classes 17 (lit< tt)).address m (value_at vs (class_place (base_number n))) ≡ false)
          → is_below h (r.classes 17 (lit< tt)).address m
          (cond b NoneValue (value_at vs (class_place (base_number n)))) ≡ false
      by true p more = below_none (r.classes 17 (lit< tt)).address m
      by false p more = let less = before n l p in more (omega (arith, less, g)) (omega (arith, less, l))
          (other n l q).1

  -- whether one item is told in quotes
  key_of : (n : ℕ) → n < class_count → is_under h (value_at vs (class_place n)) (root_class vs (codes "KeyError")) ≡
      (n == 17)
  key_of n l = by (eqb n 17) refl
    where
      by : (b : Bool) → eqb n 17 ≡ b → is_under h (value_at vs (class_place n)) (root_class vs (codes "KeyError")) ≡ b
      by true q = subst (λ n. is_under h (value_at vs (class_place n)) (root_class vs (codes "KeyError")) ≡ true)
          (sym (eqb-true n 17 q)) itself
      by false q = let k = r.classes 17 (lit< tt) in subst (λ x. is_under h (value_at vs (class_place n)) x ≡ false)
          (sym k.is) (not_key (n + 1) n MOST_BASES (omega arith) l q)

  -- ---- what was raised
  module _ (n : ℕ) (g : 0 < n) (l : n < class_count) (w : With) (x : Value)
      (e : IsException h (value_at vs (class_place n)) w x) where
    args_are : args_in h (ref e.dict) ≡ Some (ref e.tuple)
    args_are =
        ap (λ o. args_among h (values_in o)) e.has
        ∙ ap (λ b. cond b (Some (ref e.tuple)) (args_among h [])) (ap (λ o. is_args_in o) e.named)

    told : told_part h vs (value_at vs (class_place n) ∷ ref e.dict ∷ []) ≡ part_among (n == 17) (ref e.tuple) e.args
    told =
        ap (λ k. part_of h k (args_in h (ref e.dict))) (key_of n l)
        ∙ (ap (part_of h (n == 17)) args_are ∙ ap (part_at (n == 17) (ref e.tuple)) e.holds)

    written : text_of h roots x false ≡ part_text (told_within h vs 99) (part_among (n == 17) (ref e.tuple) e.args)
    unfolding told_within
    written =
        let own = value_at vs (class_place n) ∷ ref e.dict ∷ [] in
        ap (λ o. told_within h (values_in o) 100 false x) r.here
        ∙ (ap (told_within h vs 100 false) e.is
        ∙ (ap (alone_at h vs (Some (told_within h vs 99)) 100 (ref e.instance)) e.of
        ∙ (ap (λ b. cond b (exception_text h vs (Some (told_within h vs 99)) own)
        (text_within h 100 (ref e.instance) false)) (tested n g l)
        ∙ ap (part_text (told_within h vs 99)) told)))

  string_text : (q : Bool) (d a : ℕ) (t : List ℕ) → q ≡ false → h a ≡ Some (new_rec Str [] t) →
      told_within h vs d q (ref a) ≡ Is t
  unfolding told_within at
  string_text q zero a t f e = ap (λ q. told_under h vs None 0 q (ref a)) f ∙
      (ap (alone_at h vs None 0 (ref a)) e ∙
      ap (λ o. alone_by_kind h 0 (ref a) (unwrap_or o blank).kind (unwrap_or o blank)) e)
  string_text q (suc d) a t f e =
      ap (λ q. told_under h vs (Some (told_within h vs d)) (suc d) q (ref a)) f
      ∙ (ap (alone_at h vs (Some (told_within h vs d)) (suc d) (ref a)) e ∙
      ap (λ o. alone_by_kind h (suc d) (ref a) (unwrap_or o blank).kind (unwrap_or o blank)) e)

  raised_text : (n : ℕ) (w : With) (x : Value) → 0 < n → n < class_count → IsTold n w →
      IsException h (value_at vs (class_place n)) w x → text_of h roots x false ≡ text_of_told h vs n w
  raised_text n Nothing x g l t e = written n g l Nothing x e ∙
      ap (λ args. part_text (told_within h vs 99) (part_among (n == 17) (ref e.tuple) args)) e.told
  raised_text n (Text bs) x g l t e =
      written n g l (Text bs) x e ∙ (ap (λ args.
      part_text (told_within h vs 99) (part_among (n == 17) (ref e.tuple) args)) e.told.1 ∙
      string_text (n == 17) 99 e.told.0 bs (ne_eqb n 17 t) e.told.2)
  raised_text n (Held y) x g l t e = written n g l (Held y) x e ∙
      ap (λ args. part_text (told_within h vs 99) (part_among (n == 17) (ref e.tuple) args)) e.told

  -- ---- what is no exception
  not_below : (c : Value) → (IsExceptionClass h vs c → ⊥) → is_under h c (root_class vs (codes "BaseException")) ≡ false
  not_below c none =
      let b = r.classes 1 (lit< tt) in
      subst (λ x. is_under h c x ≡ false) (sym b.is) (by (is_below h b.address MOST_BASES c) refl)
    where
      by : (t : Bool) → is_below h (r.classes 1 (lit< tt)).address MOST_BASES c ≡ t → t ≡ false
      by true e = let i = below_is h (r.classes 1 (lit< tt)).address MOST_BASES c e in
          absurd (none (i.0, i.1 ∙ sym (r.classes 1 (lit< tt)).is))
      by false e = refl

  by_kind : (under : Option Tells) (a : ℕ) (k : Kind) (own : List Value) →
      (k ≡ Instance → IsExceptionClass h vs (value_at own 0) → ⊥) →
      alone_by h vs under 100 (ref a) k own ≡ text_within h 100 (ref a) false
  by_kind under a Instance own none = ap
      (λ b. cond b (exception_text h vs under own) (text_within h 100 (ref a) false))
      (not_below (value_at own 0) (none refl))
  by_kind under a k own none = refl

  other_text : (a : ℕ) (q : Rec) → h a ≡ Some q → (q.kind ≡ Instance → IsExceptionClass h vs (value_at q.values 0) → ⊥)
      → text_of h roots (ref a) false ≡ str spelling h (ref a)
  unfolding told_within
  other_text a q e none =
      ap (λ o. told_within h (values_in o) 100 false (ref a)) r.here
      ∙ (ap (alone_at h vs (Some (told_within h vs 99)) 100 (ref a)) e ∙
      (by_kind (Some (told_within h vs 99)) a q.kind q.values none ∙ within_str h (ref a)))

plain_text : (h : Heap) (roots : ℕ) (x : Value) → ((a : ℕ) → x ≡ ref a → ⊥) → text_of h roots x false ≡ str spelling h x
unfolding told_within
plain_text h roots (Ref a) none = absurd (none a.0 refl)
plain_text h roots Unset none = refl
plain_text h roots NoneValue none = refl
plain_text h roots (BoolValue b) none = refl
plain_text h roots (Int i) none = refl
plain_text h roots (Builtin b) none = refl

quoted_text : (h : Heap) (roots : ℕ) (x : Value) → text_of h roots x true ≡ repr spelling h x
unfolding told_within
quoted_text h roots x = refl

pub telling_law : TellingLaw
telling_law = record {
  quoted = quoted_text;
  other = λ h roots a q i e none. other_text h roots i a q e none;
  plain = plain_text;
  raised = λ h roots n w x i g l t e. raised_text h roots i n w x g l t e;
}
