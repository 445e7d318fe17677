-- Equality, order and texts of values answer, or raise an exception that can be made.
use Rattle.std.proofs.Common.{ℕ, zero, suc, ◌+◌, Bool, true, false, cond, eqb, ℤ, List, [], ◌∷◌, codes, length, Option, Some, None, lit<}
use Rattle.std.specs.Prelude.{IfSome}
use Rattle.std.specs.declared.cmp.Ordering.{Ordering}
use Rattle.py_base.specs.declared.kind.Kind.{Kind}
use Rattle.py_base.specs.declared.kind.Kind.TheVariants.{Str, Tuple, List as ListKind, Dict, Cell, Function, Class, Instance, Method, Iter, Range, Lock, Thread}
use Rattle.py_data.specs.declared.value.Value.{Value}
use Rattle.py_data.specs.declared.value.Value.TheVariants.{Unset, None as NoneValue, Bool as BoolValue, Int, Ref, Builtin}
use Rattle.py_data.specs.declared.record.Got.{Got}
use Rattle.py_data.specs.declared.record.Got.TheVariants.{Is, Raise}
use Rattle.py_data.specs.Heap.{Rec, Heap, at, value_at}
use Rattle.py_data.specs.Shape.{find}
use Rattle.py_data.specs.Comparing.{Under, equal_items, equal_found, equal_pairs, equal_kinds, equal_by, equal_within, equal, and_then, of_one_length, number_of, order_then, order_items, order_numbers, order_records, order_by, order_within, order}
use Rattle.py_data.specs.Texts.{Spelling, Parts, got_then, more_texts, item_texts, pair_text, more_pairs, pair_texts, record_text, repr_by, repr_within}
use Rattle.py_data.specs.Answers.{IsGot}
use Rattle.obj_nest.specs.Text.{spelling, alone_by_kind, text_within}
use Rattle.obj_class.specs.declared.args.Part.{Part}
use Rattle.obj_class.specs.Attributes.{values_in}
use Rattle.obj_class.specs.Telling.{Tells, alone_at, alone_by, exception_text, is_of, part_text, text_of, told_part, told_under, told_within}

-- an answer of any kind
abbrev pub IsAny : {A : Type 0} → A → Heap → Type 0
IsAny a h = Unit {0}

module _ (h g : Heap) where
  abbrev Can : {A : Type 0} → Got A → Type 0
  Can x = IsGot IsAny x g

  -- ---- equality
  and_can : (x y : Got Bool) → Can x → Can y → Can (and_then x y)
  and_can (Is true) y i j = j
  and_can (Is false) y i j = tt
  and_can (Raise e) y i j = i

  length_can : (xs ys : List Value) (x : Got Bool) → Can x → Can (of_one_length xs ys x)
  length_can xs ys x i = by (eqb (length xs) (length ys))
    where
      by : (b : Bool) → Can (cond b x (Is false))
      by true = i
      by false = tt

  module _ (u : Value → Value → Got Bool) (each : (x y : Value) → Can (u x y)) where
    items_can : (xs ys : List Value) → Can (equal_items u xs ys)
    items_can [] ys = tt
    items_can (x ∷ xs) [] = tt
    items_can (x ∷ xs) (y ∷ ys) = and_can (u x y) (equal_items u xs ys) (each x y) (items_can xs ys)

    found_can : (ys : List Value) (x : Value) (o : Option ℕ) → Can (equal_found u ys x o)
    found_can ys x None = tt
    found_can ys x (Some i) = each x (value_at ys (i + (i + 1)))

    pairs_can : (xs ys : List Value) → Can (equal_pairs h u xs ys)
    pairs_can [] ys = tt
    pairs_can (k ∷ []) ys = tt
    pairs_can (k ∷ x ∷ rest) ys = and_can (equal_found u ys x (find h ys k)) (equal_pairs h u rest ys)
        (found_can ys x (find h ys k)) (pairs_can rest ys)

  -- what compares the parts, if a level is left
  UnderCan : {A : Type 0} → Under A → Type 0
  UnderCan None = Unit {0}
  UnderCan (Some u) = (x y : Value) → Can (u x y)

  kinds_can : (under : Under Bool) (b : Bool) (k l : Kind) (xs ys : List Value) → UnderCan under →
      Can (equal_kinds h under b k l xs ys)
  unfolding UnderCan
  kinds_can None b Tuple Tuple xs ys i = (lit< tt, lit< tt, tt)
  kinds_can (Some u) b Tuple Tuple xs ys i = length_can xs ys (equal_items u xs ys) (items_can u i xs ys)
  kinds_can None b ListKind ListKind xs ys i = (lit< tt, lit< tt, tt)
  kinds_can (Some u) b ListKind ListKind xs ys i = length_can xs ys (equal_items u xs ys) (items_can u i xs ys)
  kinds_can None b Dict Dict xs ys i = (lit< tt, lit< tt, tt)
  kinds_can (Some u) b Dict Dict xs ys i = length_can xs ys (equal_pairs h u xs ys) (pairs_can u i xs ys)
  kinds_can under b Method Method xs ys i = tt
  kinds_can under b k l xs ys i = tt

  by_can : (under : Under Bool) (x y : Value) → UnderCan under → Can (equal_by h under x y)
  by_can under (Ref a) (Ref b) i = kinds_can under _ (at h a.0).kind (at h b.0).kind (at h a.0).values
      (at h b.0).values i
  by_can under x y i = tt

  within_can : (d : ℕ) (x y : Value) → Can (equal_within h d x y)
  unfolding equal_within UnderCan
  within_can zero x y = by_can None x y tt
  within_can (suc d) x y = by_can (Some (equal_within h d)) x y (within_can d)

  pub equal_can : (x y : Value) → Can (equal h x y)
  equal_can x y = within_can 100 x y

  -- ---- order
  then_can : (s : Got Bool) (x y : Got Ordering) → Can s → Can x → Can y → Can (order_then s x y)
  then_can (Is true) x y i j k = k
  then_can (Is false) x y i j k = j
  then_can (Raise e) x y i j k = i

  module _ (same : Value → Value → Got Bool) (u : Value → Value → Got Ordering)
      (sames : (x y : Value) → Can (same x y)) (each : (x y : Value) → Can (u x y)) where
    order_items_can : (xs ys : List Value) → Can (order_items same u xs ys)
    order_items_can [] [] = tt
    order_items_can [] (y ∷ ys) = tt
    order_items_can (x ∷ xs) [] = tt
    order_items_can (x ∷ xs) (y ∷ ys) = then_can (same x y) (u x y) (order_items same u xs ys) (sames x y) (each x y)
        (order_items_can xs ys)

  numbers_can : (o p : Option ℤ) → Can (order_numbers o p)
  numbers_can (Some i) (Some j) = tt
  numbers_can None p = (lit< tt, lit< tt, tt)
  numbers_can (Some i) None = (lit< tt, lit< tt, tt)

  module _ (items : List Value → List Value → Got Ordering) (each : (xs ys : List Value) → Can (items xs ys)) where
    records_can : (k l : Kind) (r s : Rec) → Can (order_records items k l r s)
    records_can Str Str r s = tt
    records_can Tuple Tuple r s = each r.values s.values
    records_can ListKind ListKind r s = each r.values s.values
    records_can k l r s = (lit< tt, lit< tt, tt)

    order_by_can : (x y : Value) → Can (order_by h items x y)
    order_by_can (Ref a) (Ref b) = records_can (at h a.0).kind (at h b.0).kind (at h a.0) (at h b.0)
    order_by_can x y = numbers_can (number_of x) (number_of y)

  order_within_can : (d : ℕ) (x y : Value) → Can (order_within h d x y)
  unfolding order_within
  order_within_can zero x y = order_by_can _ (λ xs ys. (lit< tt, lit< tt, tt)) x y
  order_within_can (suc d) x y = order_by_can (order_items (equal_within h d) (order_within h d))
      (order_items_can (equal_within h d) (order_within h d) (within_can d) (order_within_can d)) x y

  pub order_can : (x y : Value) → Can (order h x y)
  order_can x y = order_within_can 100 x y

  -- ---- texts
  got_can : {A B : Type 0} (x : Got A) (f : A → Got B) → Can x → ((a : A) → Can (f a)) → Can (got_then x f)
  got_can (Is a) f i n = n a
  got_can (Raise e) f i n = i

  module _ (u : Value → Got (List ℕ)) (each : (x : Value) → Can (u x)) where
    more_can : (xs : List Value) → Can (more_texts u xs)
    more_can [] = tt
    more_can (x ∷ xs) = got_can (u x) _ (each x) (λ t. got_can (more_texts u xs) _ (more_can xs) (λ ts. tt))

    texts_can : (xs : List Value) → Can (item_texts u xs)
    texts_can [] = tt
    texts_can (x ∷ xs) = got_can (u x) _ (each x) (λ t. got_can (more_texts u xs) _ (more_can xs) (λ ts. tt))

    pair_can : (k x : Value) → Can (pair_text u k x)
    pair_can k x = got_can (u k) _ (each k) (λ t. got_can (u x) _ (each x) (λ y. tt))

    more_pairs_can : (xs : List Value) → Can (more_pairs u xs)
    more_pairs_can [] = tt
    more_pairs_can (k ∷ []) = tt
    more_pairs_can (k ∷ x ∷ rest) = got_can (pair_text u k x) _ (pair_can k x)
        (λ t. got_can (more_pairs u rest) _ (more_pairs_can rest) (λ ts. tt))

    pair_texts_can : (xs : List Value) → Can (pair_texts u xs)
    pair_texts_can [] = tt
    pair_texts_can (k ∷ []) = tt
    pair_texts_can (k ∷ x ∷ rest) = got_can (pair_text u k x) _ (pair_can k x)
        (λ t. got_can (more_pairs u rest) _ (more_pairs_can rest) (λ ts. tt))

  PartsCan : Parts → Type 0
  PartsCan None = Unit {0}
  PartsCan (Some u) = (x : Value) → Can (u x)

  module _ (s : Spelling) where
    record_can : (parts : Parts) (v : Value) (k : Kind) (r : Rec) → PartsCan parts → Can (record_text s h parts v k r)
    unfolding PartsCan
    record_can None v Tuple r i = (lit< tt, lit< tt, tt)
    record_can (Some u) v Tuple r i = got_can (item_texts u r.values) _ (texts_can u i r.values) (λ t. tt)
    record_can None v ListKind r i = (lit< tt, lit< tt, tt)
    record_can (Some u) v ListKind r i = got_can (item_texts u r.values) _ (texts_can u i r.values) (λ t. tt)
    record_can None v Dict r i = (lit< tt, lit< tt, tt)
    record_can (Some u) v Dict r i = got_can (pair_texts u r.values) _ (pair_texts_can u i r.values) (λ t. tt)
    record_can parts v Str r i = tt
    record_can parts v Cell r i = tt
    record_can parts v Function r i = tt
    record_can parts v Class r i = tt
    record_can parts v Instance r i = tt
    record_can parts v Method r i = tt
    record_can parts v Iter r i = tt
    record_can parts v Range r i = tt
    record_can parts v Lock r i = tt
    record_can parts v Thread r i = tt

    repr_by_can : (parts : Parts) (v : Value) → PartsCan parts → Can (repr_by s h parts v)
    repr_by_can parts Unset i = tt
    repr_by_can parts NoneValue i = tt
    repr_by_can parts (BoolValue b) i = tt
    repr_by_can parts (Int n) i = tt
    repr_by_can parts (Builtin b) i = tt
    repr_by_can parts (Ref a) i = record_can parts (Ref a) (at h a.0).kind (at h a.0) i

    pub repr_within_can : (d : ℕ) (v : Value) → Can (repr_within s h d v)
    unfolding repr_within PartsCan
    repr_within_can zero v = repr_by_can None v tt
    repr_within_can (suc d) v = repr_by_can (Some (repr_within s h d)) v (repr_within_can d)

  -- ---- texts of exceptions
  alone_can : (d : ℕ) (v : Value) (k : Kind) (r : Rec) → Can (alone_by_kind h d v k r)
  alone_can d v Str r = tt
  alone_can d v k r = repr_within_can spelling d v

  plain_can : (d : ℕ) (v : Value) (quoted : Bool) → Can (text_within h d v quoted)
  plain_can d v true = repr_within_can spelling d v
  plain_can d (Ref a) false = alone_can d (Ref a) (at h a.0).kind (at h a.0)
  plain_can d v false = repr_within_can spelling d v

  abbrev TellsCan : Tells → Type 0
  TellsCan u = (quoted : Bool) (v : Value) → Can (u quoted v)

  part_can : (u : Tells) (o : Option Part) → TellsCan u → Can (part_text u o)
  part_can u None i = tt
  part_can u (Some p) i = i p.quoted p.value

  module _ (vs : List Value) where
    exception_can : (under : Option Tells) (own : List Value) → IfSome under TellsCan →
        Can (exception_text h vs under own)
    exception_can None own i = (lit< tt, lit< tt, tt)
    exception_can (Some u) own i = part_can u (told_part h vs own) i

    either_can : (b : Bool) (x y : Got (List ℕ)) → Can x → Can y → Can (cond b x y)
    either_can true x y i j = i
    either_can false x y i j = j

    module _ (under : Option Tells) (i : IfSome under TellsCan) (d : ℕ) where
      kind_can : (v : Value) (k : Kind) (own : List Value) → Can (alone_by h vs under d v k own)
      kind_can v Instance own = either_can (is_of h vs (codes "BaseException") own) (exception_text h vs under own)
          (text_within h d v false) (exception_can under own i) (plain_can d v false)
      kind_can v k own = plain_can d v false

      record_alone_can : (v : Value) (o : Option Rec) → Can (alone_at h vs under d v o)
      record_alone_can v None = plain_can d v false
      record_alone_can v (Some r) = kind_can v r.kind r.values

      told_under_can : TellsCan (told_under h vs under d)
      told_under_can true v = plain_can d v true
      told_under_can false (Ref a) = record_alone_can (Ref a) (h a.0)
      told_under_can false v = plain_can d v false

    told_within_can : (d : ℕ) → TellsCan (told_within h vs d)
    unfolding told_within
    told_within_can zero = told_under_can None tt 0
    told_within_can (suc d) = told_under_can (Some (told_within h vs d)) (told_within_can d) (suc d)

  pub text_can : (roots : ℕ) (v : Value) (quoted : Bool) → Can (text_of h roots v quoted)
  text_can roots v quoted = told_within_can (values_in (h roots)) 100 quoted v
