-- Over each heap in order the operations on attributes hold.
use Rattle.std.proofs.Common.{arith, ◌≡◌, ℕ, ◌<◌, Bool, true, false, cond, List, [], ◌∷◌, codes, if◌then◌else◌, Option, Some, None, refl, sym, ap, subst, lit<}
use Rattle.std.specs.Prelude.{IfSome, is_some, option_map, ltb}
use Rattle.std.specs.Str.{bytes_eq}
use Rattle.std.proofs.lemmas.Bool.{ltb-true}
use Rattle.py_base.specs.Numbers.{builtin_count, class_count, class_number, number_beside}
use Rattle.py_base.specs.declared.kind.Kind.{Kind}
use Rattle.py_base.specs.declared.kind.Kind.TheVariants.{Str, Tuple, List as ListKind, Dict, Cell, Function, Class, Instance, Method, Iter, Range, Lock, Thread}
use Rattle.py_data.specs.declared.value.Addr.{Addr}
use Rattle.py_data.specs.declared.value.Value.{Value}
use Rattle.py_data.specs.declared.value.Value.TheVariants.{Unset, None as NoneValue, Bool as BoolValue, Int, Ref, Builtin}
use Rattle.py_data.specs.declared.record.Got.{Got}
use Rattle.py_data.specs.declared.record.Got.TheVariants.{Is as IsGotten, Raise}
use Rattle.py_data.specs.Answers.{IsGot, IfItem, IsAnswer, IsDone}
use Rattle.py_data.specs.Closed.{Refers, IsItem}
use Rattle.py_data.specs.Heap.{Heap, Rec, value_at, new_rec}
use Rattle.py_data.specs.Holds.{Holds}
use Rattle.py_data.specs.Looking.{bytes_row}
use Rattle.py_data.specs.Order.{Rules, IsOrdered}
use Rattle.py_data.specs.Row.{Ret}
use Rattle.py_data.specs.Shape.{KindIn, RefTo, IsCallable}
use Rattle.py_data.proofs.Holding.{holds_ret, holds_bind}
use Rattle.py_data.proofs.HoldingCalls.{holds_make, holds_looks}
use Rattle.py_data.proofs.Keep.{ref_stays}
use Rattle.py_data.proofs.Looking.{bytes_looks, some_of}
use Rattle.py_data.proofs.Making.{made_fits}
use Rattle.obj_dict.specs.Dict.{del_row}
use Rattle.obj_dict.specs.HoldsLaws.{IsDictAt}
use Rattle.obj_dict.proofs.Holding.{dict_holds}
use Rattle.obj_class.specs.declared.lookup.Found.{Found}
use Rattle.obj_class.specs.declared.lookup.Found.TheVariants.{Plain, Bound}
use Rattle.obj_class.specs.Attributes.{address_in, attribute, attribute_fault, bound, bound_in, bound_of, bytes_in, dict_of_kind, dict_of_record, inherited, kept, of_builtin, of_kind, of_methods, of_record, own_dict, own_first, values_in}
use Rattle.obj_class.specs.AttrRows.{attr_row, del_attr_row, del_in, dict_row, find_attr_row, given_row, gone_row, method_row, missing_row, set_attr_row, set_in, taken_row}
use Rattle.obj_class.specs.Bases.{MOST_BASES, ref}
use Rattle.obj_class.specs.Named.{is_error, is_thread, is_threading, member_of, method_of, methods_of, thread_members, threading_members}
use Rattle.obj_class.specs.Roots.{IsRoots, class_place, root_class}
use Rattle.obj_class.proofs.AttrLooks.{find_looks}
use Rattle.obj_class.proofs.OwnDict.{dict_looks}
use Rattle.obj_class.proofs.Parts.{Is, is_at, of_class_at, of_instance_at, kept_item, inherited_item, some_class}

-- ---- the numbers of builtins that are attributes are numbers of builtins

abbrev all_below : List (ℕ × List ℕ) → Bool
all_below [] = true
all_below (e ∷ es) = cond (ltb e.0 builtin_count) (all_below es) false

found_below : (b : Bool) (n : ℕ) (o : Option ℕ) → n < builtin_count → IfSome o (λ b. b < builtin_count) →
    IfSome (if b then Some n else o) (λ b. b < builtin_count)
found_below true n o l more = l
found_below false n o l more = more

both_below : (n : ℕ) (b c : Bool) → ltb n builtin_count ≡ b → cond b c false ≡ true → (n < builtin_count) × (c ≡ true)
both_below n true c t e = (ltb-true n builtin_count t, e)
both_below n false c t e = absurd (let z : false ≡ true = e in cc)

beside_below : (es : List (ℕ × List ℕ)) (x : List ℕ) → all_below es ≡ true →
    IfSome (number_beside es x) (λ b. b < builtin_count)
beside_below [] x e = tt
beside_below (y ∷ ys) x e =
    let both = both_below y.0 (ltb y.0 builtin_count) (all_below ys) refl e in
    found_below (bytes_eq y.1 x) y.0 (number_beside ys x) both.0 (beside_below ys x both.1)

methods_below : (k : Kind) → all_below (methods_of k) ≡ true
methods_below Str = refl
methods_below ListKind = refl
methods_below Dict = refl
methods_below Lock = refl
methods_below Thread = refl
methods_below Tuple = refl
methods_below Cell = refl
methods_below Function = refl
methods_below Class = refl
methods_below Instance = refl
methods_below Method = refl
methods_below Iter = refl
methods_below Range = refl

members_below : (thread threading : Bool) →
    all_below (cond thread thread_members (cond threading threading_members [])) ≡ true
members_below true threading = refl
members_below false true = refl
members_below false false = refl

-- ---- what is found
module _ (rules : Rules) (h : Heap) (order : IsOrdered rules h) where
  -- an item; and what is bound can be called
  abbrev pub IsGood : Found → Type 0
  IsGood (Plain x) = IsItem h x
  IsGood (Bound f) = IsItem h f × IsCallable h f

  builtin_item : (b : ℕ) → b < builtin_count → IsItem h (Builtin b)
  builtin_item b l = (l, λ q. let z : Builtin b ≡ Unset = q in cc)

  bound_good : (x : Value) → IsItem h x → IsGood (bound h x)
  bound_good (Ref f) i = by (h f.0) refl
    where
      of : (k : Kind) (r : Rec) → h f.0 ≡ Some r → r.kind ≡ k → IsGood (bound_of (Ref f) k)
      of Function r e k = (i, subst (λ o. KindIn o (λ q. q ≡ Function)) (sym e) k)
      of Str r e k = i
      of Tuple r e k = i
      of ListKind r e k = i
      of Dict r e k = i
      of Cell r e k = i
      of Class r e k = i
      of Instance r e k = i
      of Method r e k = i
      of Iter r e k = i
      of Range r e k = i
      of Lock r e k = i
      of Thread r e k = i

      by : (o : Option Rec) → h f.0 ≡ o → IsGood (bound_in (Ref f) (h f.0))
      by None e = subst (λ o. IsGood (bound_in (Ref f) o)) (sym e) i
      by (Some r) e = subst (λ o. IsGood (bound_in (Ref f) o)) (sym e) (of r.kind r e refl)
  bound_good Unset i = i
  bound_good NoneValue i = i
  bound_good (BoolValue b) i = i
  bound_good (Int n) i = i
  bound_good (Builtin b) i = i

  map_good : (f : Value → Found) (o : Option Value) → ((x : Value) → IsItem h x → IsGood (f x)) → IfItem o h →
      IfSome (option_map f o) IsGood
  map_good f None g i = tt
  map_good f (Some x) g i = g x i

  own_good : (o : Option Value) (more : Option Found) → IfItem o h → IfSome more IsGood →
      IfSome (own_first o more) IsGood
  own_good (Some x) more i j = i
  own_good None more i j = j

  methods_good : (k : Kind) (t : List ℕ) → IfSome (of_methods k t) IsGood
  methods_good k t = by (method_of k t) (beside_below (methods_of k) t (methods_below k))
    where
      by : (o : Option ℕ) → IfSome o (λ b. b < builtin_count) → IfSome (option_map (λ b. Bound (Builtin b)) o) IsGood
      by None i = tt
      by (Some b) i = (builtin_item b i, tt)

  -- the class of a number is an item
  class_item : (roots n : ℕ) → (i : IsRoots h roots) → n < class_count →
      IsItem h (value_at (values_in (h roots)) (class_place n))
  class_item roots n i l =
      let c = i.classes n l in
      subst (λ o. IsItem h (value_at (values_in o) (class_place n))) (sym i.here)
      (subst (IsItem h) (sym c.is) (ap is_some c.here, λ q. let z : ref c.address ≡ Unset = q in cc))

  builtin_good : (roots b : ℕ) (t : List ℕ) → IsRoots h roots → IfSome (of_builtin (values_in (h roots)) b t) IsGood
  builtin_good roots b t i = by (is_error b t)
    where
      member : (o : Option ℕ) → IfSome o (λ b. b < builtin_count) →
          IfSome (option_map (λ n. Plain (Builtin n)) o) IsGood
      member None j = tt
      member (Some n) j = builtin_item n j

      by : (c : Bool) → IfSome (cond c (Some (Plain (root_class (values_in (h roots)) (codes "thread.error"))))
          (option_map (λ n. Plain (Builtin n)) (member_of b t))) IsGood
      by true = class_item roots (class_number (codes "thread.error")) i (lit< tt)
      by false = member (member_of b t) (beside_below
          (cond (is_thread b) thread_members (cond (is_threading b) threading_members [])) t
          (members_below (is_thread b) (is_threading b)))

  kind_good : (a : Addr) (name : ℕ) (r : Rec) → h a.0 ≡ Some r → (k : Kind) → r.kind ≡ k →
      IfSome (of_kind h (Ref a) name r.values k) IsGood
  kind_good a name r e Instance f =
      let i : Is h Instance a.0 = record { rec = r; here = e; kind = f } in
      let p = of_instance_at rules h order a.0 i in
      let c = value_at r.values 0 in
      own_good (kept h (value_at r.values 1) (ref name)) (option_map (bound h) (inherited h (ref name) MOST_BASES c))
      (kept_item rules h order (value_at r.values 1) (ref name) p.1)
      (map_good (bound h) (inherited h (ref name) MOST_BASES c) bound_good
      (inherited_item rules h order (ref name) MOST_BASES c (some_class h c p.0)))
  kind_good a name r e Class f =
      map_good Plain (inherited h (ref name) MOST_BASES (Ref a)) (λ x i. i)
      (inherited_item rules h order (ref name) MOST_BASES (Ref a)
      (subst (λ o. KindIn o (λ q. q ≡ Class)) (sym e) f))
  kind_good a name r e Str f = methods_good Str (bytes_in (h name))
  kind_good a name r e Tuple f = methods_good Tuple (bytes_in (h name))
  kind_good a name r e ListKind f = methods_good ListKind (bytes_in (h name))
  kind_good a name r e Dict f = methods_good Dict (bytes_in (h name))
  kind_good a name r e Cell f = methods_good Cell (bytes_in (h name))
  kind_good a name r e Function f = methods_good Function (bytes_in (h name))
  kind_good a name r e Method f = methods_good Method (bytes_in (h name))
  kind_good a name r e Iter f = methods_good Iter (bytes_in (h name))
  kind_good a name r e Range f = methods_good Range (bytes_in (h name))
  kind_good a name r e Lock f = methods_good Lock (bytes_in (h name))
  kind_good a name r e Thread f = methods_good Thread (bytes_in (h name))

  pub attribute_good : (roots name : ℕ) (x : Value) → IsRoots h roots → IfSome (attribute h roots x name) IsGood
  attribute_good roots name (Ref a) i = by (h a.0) refl
    where
      by : (o : Option Rec) → h a.0 ≡ o → IfSome (of_record h (Ref a) name (h a.0)) IsGood
      by None e = subst (λ o. IfSome (of_record h (Ref a) name o) IsGood) (sym e) tt
      by (Some r) e = subst (λ o. IfSome (of_record h (Ref a) name o) IsGood) (sym e) (kind_good a name r e r.kind refl)
  attribute_good roots name (Builtin b) i = builtin_good roots b (bytes_in (h name)) i
  attribute_good roots name Unset i = tt
  attribute_good roots name NoneValue i = tt
  attribute_good roots name (BoolValue b) i = tt
  attribute_good roots name (Int n) i = tt

module _ {S : Type 0} (rules : Rules) (stands : Heap → S → Type 0) where
  missing_holds : {A : Type 0} (p : A → Heap → Type 0) (name : ℕ) (h : Heap) → IsOrdered rules h →
      RefTo h Str (ref name) → Holds rules stands (IsGot p) (missing_row {S = S} name) h
  unfolding missing_row
  missing_holds p name h order i =
      let t = is_at h Str name i in
      holds_looks rules stands (IsGot p) (λ bs. bs ≡ t.rec.bytes) (bytes_row name)
      (λ t. Ret (Raise (attribute_fault t))) h order (bytes_looks S h name t.rec t.here)
      (λ bs e. holds_ret rules stands (IsGot p) (Raise (attribute_fault bs)) h (lit< tt, lit< tt, tt))

  -- ---- attr
  method_holds : (f x : Value) (h : Heap) → IsItem h f → IsCallable h f → IsItem h x →
      Holds rules stands IsAnswer (method_row {S = S} f x) h
  unfolding method_row
  method_holds f x h i c j =
      holds_make rules stands IsAnswer (new_rec Method (f ∷ x ∷ []) []) (λ a. Ret (IsGotten (ref a))) h
      (λ a. made_fits rules h a Method (f ∷ x ∷ []) [] (λ e. let q : Method ≡ Class = e in cc)
      (λ e. let q : Method ≡ Function = e in cc) (λ e. let q : Method ≡ Cell = e in cc) (i, (j, tt)) c refl
      (omega arith) (omega arith))
      (λ a h1 order1 y e item. holds_ret rules stands IsAnswer (IsGotten (ref a)) h1 item)

  given_holds : (x : Value) (name : ℕ) (h : Heap) (order : IsOrdered rules h) → IsItem h x → RefTo h Str (ref name) →
      (o : Option Found) → IfSome o (IsGood rules h order) → Holds rules stands IsAnswer (given_row {S = S} x name o) h
  unfolding given_row
  given_holds x name h order i t None g = missing_holds (λ v h. IsItem h v) name h order t
  given_holds x name h order i t (Some (Plain y)) g = holds_ret rules stands IsAnswer (IsGotten y) h g
  given_holds x name h order i t (Some (Bound f)) g = method_holds f x h g.0 g.1 i

  pub attr_holds : (h : Heap) (roots name : ℕ) (x : Value) → IsOrdered rules h → IsRoots h roots → IsItem h x →
      RefTo h Str (ref name) → Holds rules stands IsAnswer (attr_row roots x name) h
  unfolding attr_row
  attr_holds h roots name x order r i t =
      let o = attribute h roots x name in
      holds_looks rules stands IsAnswer (λ z. z ≡ o) (find_attr_row roots x name) (λ o. given_row x name o) h order
      (find_looks S rules h order name (is_at h Str name t) roots x r i.0)
      (λ z e. subst (λ z. Holds rules stands IsAnswer (given_row {S = S} x name z) h) (sym e)
      (given_holds x name h order i t o (attribute_good rules h order roots name x r)))

  -- ---- set and del
  -- the dictionary of what a value has itself, if it has one
  abbrev IfDict : Heap → Option Addr → Type 0
  IfDict h o = IfSome o (λ d. IsDictAt h d.0)

  address_dict : (h : Heap) (x : Value) → RefTo h Dict x → IfDict h (address_in x)
  address_dict h (Ref d) i = i
  address_dict h Unset i = absurd i
  address_dict h NoneValue i = absurd i
  address_dict h (BoolValue b) i = absurd i
  address_dict h (Int n) i = absurd i
  address_dict h (Builtin b) i = absurd i

  kind_dict : (h : Heap) → IsOrdered rules h → (a : ℕ) (r : Rec) → h a ≡ Some r → (k : Kind) → r.kind ≡ k →
      IfDict h (dict_of_kind r.values k)
  kind_dict h order a r e Instance f = address_dict h (value_at r.values 1)
      (of_instance_at rules h order a (record { rec = r; here = e; kind = f })).1
  kind_dict h order a r e Class f = address_dict h (value_at r.values 2)
      (of_class_at rules h order a (record { rec = r; here = e; kind = f })).1
  kind_dict h order a r e Str f = tt
  kind_dict h order a r e Tuple f = tt
  kind_dict h order a r e ListKind f = tt
  kind_dict h order a r e Dict f = tt
  kind_dict h order a r e Cell f = tt
  kind_dict h order a r e Function f = tt
  kind_dict h order a r e Method f = tt
  kind_dict h order a r e Iter f = tt
  kind_dict h order a r e Range f = tt
  kind_dict h order a r e Lock f = tt
  kind_dict h order a r e Thread f = tt

  own_is_dict : (h : Heap) → IsOrdered rules h → (x : Value) → Refers h x → IfDict h (own_dict h x)
  own_is_dict h order (Ref a) i =
      let t = some_of (h a.0) i in
      subst (λ o. IfDict h (dict_of_record o)) (sym t.1) (kind_dict h order a.0 t.0 t.1 t.0.kind refl)
  own_is_dict h order Unset i = tt
  own_is_dict h order NoneValue i = tt
  own_is_dict h order (BoolValue b) i = tt
  own_is_dict h order (Int n) i = tt
  own_is_dict h order (Builtin b) i = tt

  text_item : (h : Heap) (name : ℕ) → RefTo h Str (ref name) → IsItem h (ref name)
  text_item h name t = let i = is_at h Str name t in (ap is_some i.here, λ q. let z : ref name ≡ Unset = q in cc)

  set_in_holds : (h : Heap) (name : ℕ) (y : Value) → IsOrdered rules h → RefTo h Str (ref name) → IsItem h y →
      (o : Option Addr) → IfDict h o → Holds rules stands IsDone (set_in {S = S} name y o) h
  unfolding set_in
  set_in_holds h name y order t j None d = missing_holds (λ u h. Unit {0}) name h order t
  set_in_holds h name y order t j (Some a) d = let l = dict_holds rules stands in
      l.set h a.0 (ref name) y order d (text_item h name t) j

  pub set_holds : (h : Heap) (name : ℕ) (x y : Value) → IsOrdered rules h → IsItem h x → RefTo h Str (ref name) →
      IsItem h y → Holds rules stands IsDone (set_attr_row x name y) h
  unfolding set_attr_row
  set_holds h name x y order i t j = holds_looks rules stands IsDone (λ z. z ≡ own_dict h x) (dict_row x)
      (λ o. set_in name y o) h order (dict_looks S h x i.0)
      (λ o e. set_in_holds h name y order t j o (subst (IfDict h) (sym e) (own_is_dict h order x i.0)))

  gone_holds : (h : Heap) (name : ℕ) → IsOrdered rules h → RefTo h Str (ref name) → (g : Got Value) →
      Holds rules stands IsDone (gone_row {S = S} name g) h
  unfolding gone_row
  gone_holds h name order t (IsGotten x) = holds_ret rules stands IsDone (IsGotten tt) h tt
  gone_holds h name order t (Raise e) = missing_holds (λ u h. Unit {0}) name h order t

  del_in_holds : (h : Heap) (name : ℕ) → IsOrdered rules h → RefTo h Str (ref name) → (o : Option Addr) → IfDict h o →
      Holds rules stands IsDone (del_in {S = S} name o) h
  unfolding del_in taken_row
  del_in_holds h name order t None d = missing_holds (λ u h. Unit {0}) name h order t
  del_in_holds h name order t (Some a) d =
      let l = dict_holds rules stands in
      holds_bind rules stands IsAnswer IsDone (del_row a.0 (ref name)) (λ g. gone_row name g) h order
      (l.del h a.0 (ref name) order d (text_item h name t))
      (λ g h1 order1 x1 i. gone_holds h1 name order1 (ref_stays h h1 x1 Str (ref name) t) g)

  pub del_holds : (h : Heap) (name : ℕ) (x : Value) → IsOrdered rules h → IsItem h x → RefTo h Str (ref name) →
      Holds rules stands IsDone (del_attr_row x name) h
  unfolding del_attr_row
  del_holds h name x order i t = holds_looks rules stands IsDone (λ z. z ≡ own_dict h x) (dict_row x)
      (λ o. del_in name o) h order (dict_looks S h x i.0)
      (λ o e. del_in_holds h name order t o (subst (IfDict h) (sym e) (own_is_dict h order x i.0)))
