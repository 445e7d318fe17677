-- Over each heap in order an exception can be made, and is what the definition says.
use Rattle.std.proofs.Common.{arith, ◌≡◌, ◌≢◌, ℕ, ◌<◌, ◌≤◌, Bool, true, false, cond, eqb, List, [], ◌∷◌, length, Some, refl, sym, ap, subst, ◌∙◌, codes, lit<, inl, inr}
use Rattle.std.specs.Prelude.{is_some}
use Rattle.std.proofs.lemmas.Bool.{cases_Bool, cond-true, leb-true}
use Rattle.py_base.specs.Numbers.{class_number, class_count}
use Rattle.py_base.specs.declared.kind.Kind.TheVariants.{Str, Tuple, Dict, Cell, Function, Class, Instance}
use Rattle.py_data.specs.declared.value.Value.{Value}
use Rattle.py_data.specs.declared.value.Value.TheVariants.{Unset}
use Rattle.py_data.specs.declared.record.Fault.{Fault}
use Rattle.py_data.specs.declared.record.With.{With}
use Rattle.py_data.specs.declared.record.With.TheVariants.{Nothing, Text, Held}
use Rattle.py_data.specs.declared.record.TheConstants.{LENGTH_LIMIT}
use Rattle.py_data.specs.Answers.{IsTold, IsFault}
use Rattle.py_data.specs.Closed.{IsItem}
use Rattle.py_data.specs.Every.{Every}
use Rattle.py_data.specs.Fault.{memory_fault}
use Rattle.py_data.specs.Heap.{Heap, Rec, put_at, value_at, new_rec}
use Rattle.py_data.specs.Holds.{Holds}
use Rattle.py_data.specs.Looking.{look_row}
use Rattle.py_data.specs.Order.{Rules, FitsAt, IsOrdered, Extends}
use Rattle.py_data.specs.Row.{Row, Ret, bind}
use Rattle.py_data.specs.Shape.{KindIn, RefTo, is_key_kind}
use Rattle.py_data.proofs.Grow.{with_rec_here, with_rec_there}
use Rattle.py_data.proofs.Holding.{holds_ret, holds_bind}
use Rattle.py_data.proofs.HoldingCalls.{holds_make, holds_looks}
use Rattle.py_data.proofs.ItemLemmas.{item_stays}
use Rattle.py_data.proofs.Keep.{extends_then, ref_stays}
use Rattle.py_data.proofs.Looking.{look_looks}
use Rattle.py_data.proofs.Making.{made_fits, sequence_fits, text_fits}
use Rattle.obj_class.specs.Bases.{ref}
use Rattle.obj_class.specs.Exceptions.{args_row, dict_of_args, exception_row, fault_row, is_tellable, keyed_row, made_row, numbered_row, told_row, IsException, IsRaised, IsToldIn}
use Rattle.obj_class.specs.Roots.{IsRoots, class_place}
use Rattle.obj_class.proofs.RootsKept.{fixed_stays}

-- a record stays in a heap that has another one of another kind besides
put_stays : (h h1 : Heap) (a n : ℕ) (r q : Rec) → h1 ≡ put_at h n q → Extends h h1 → h a ≡ Some r → q.kind ≢ r.kind →
    h1 a ≡ Some r
put_stays h h1 a n r q e x i d = elim (cases_Bool (eqb a n)) [
  | inl y ↦
      let k = x.kept a r i in
      let here : Some k.now ≡ Some q = sym k.here ∙ (ap (λ g. g a) e ∙ cond-true (eqb a n) (Some q) (h a) y) in
      let same : k.now ≡ q = cc in
      absurd (d (sym (ap (λ z. z.kind) same) ∙ k.kind))
  | inr f ↦ ap (λ g. g a) e ∙ with_rec_there n a q h f ∙ i
]

-- what was made is there
pub made_here : (h h1 : Heap) (a : ℕ) (r : Rec) → h1 ≡ put_at h a r → h1 a ≡ Some r
made_here h h1 a r e = ap (λ g. g a) e ∙ with_rec_here a r h

-- its address refers to it
pub made_ref : (h : Heap) (a : ℕ) (r : Rec) → h a ≡ Some r → RefTo h r.kind (ref a)
made_ref h a r e = subst (λ o. KindIn o (λ q. q ≡ r.kind)) (sym e) refl

told_stays : (h h1 : Heap) (w : With) (args : List Value) → Extends h h1 → IsToldIn h w args → IsToldIn h1 w args
told_stays h h1 Nothing args x t = t
told_stays h h1 (Text bs) args x t = (t.0, t.1, fixed_stays h h1 t.0 (new_rec Str [] bs) x t.2 refl)
told_stays h h1 (Held v) args x t = t

module _ {S : Type 0} (rules : Rules) (stands : Heap → S → Type 0) where
  module _ {A : Type 0} (p : A → Heap → Type 0) where
    -- a record is made, and a row goes on with its address
    pub make_then : (r : Rec) (f : Value → Row S A) (h : Heap) → ((a : ℕ) → FitsAt rules h a r)
        → ((a : ℕ) (h1 : Heap) → IsOrdered rules h1 → Extends h h1 → h1 ≡ put_at h a r → h1 a ≡ Some r →
        IsItem h1 (ref a) → Holds rules stands p (f (ref a)) h1) → Holds rules stands p (bind (made_row r) f) h
    unfolding made_row bind
    make_then r f h fit n = holds_make rules stands p r (λ a. f (ref a)) h fit
        (λ a h1 order x e item. n a h1 order x e (made_here h h1 a r e) item)

  -- the record of an instance, and of a dictionary of one pair with a string as its key
  pub instance_fits : (h : Heap) (a : ℕ) (class dict : Value) → RefTo h Class class → IsItem h class →
      RefTo h Dict dict → IsItem h dict → FitsAt rules h a (new_rec Instance (class ∷ dict ∷ []) [])
  instance_fits h a class dict c i d j =
      made_fits rules h a Instance (class ∷ dict ∷ []) [] (λ e. let q : Instance ≡ Class = e in cc)
      (λ e. let q : Instance ≡ Function = e in cc) (λ e. let q : Instance ≡ Cell = e in cc) (i, (j, tt)) (c, d)
      refl (omega arith) (omega arith)

  dict_fits : (h : Heap) (a k : ℕ) (r : Rec) (x : Value) → h k ≡ Some r → r.kind ≡ Str → IsItem h (ref k) →
      IsItem h x → FitsAt rules h a (new_rec Dict (ref k ∷ x ∷ []) [])
  dict_fits h a k r x e s i j =
      let key : KindIn (h k) (λ q. is_key_kind q ≡ true) = subst (λ o. KindIn o (λ q. is_key_kind q ≡ true)) (sym e)
      (ap is_key_kind s) in
      made_fits rules h a Dict (ref k ∷ x ∷ []) [] (λ e. let q : Dict ≡ Class = e in cc)
      (λ e. let q : Dict ≡ Function = e in cc) (λ e. let q : Dict ≡ Cell = e in cc) (i, (j, tt))
      ((key, tt), (refl, tt)) refl (omega arith) (omega arith)

  module _ (class : Value) (w : With) where
    -- the instance, once its dictionary is there
    instance_holds : (h : Heap) (d k t : ℕ) (args : List Value) → RefTo h Class class → IsItem h class →
        h k ≡ Some (new_rec Str [] (codes "args")) → h t ≡ Some (new_rec Tuple args []) →
        h d ≡ Some (new_rec Dict (ref k ∷ ref t ∷ []) []) → IsItem h (ref d) → IsToldIn h w args
        → Holds rules stands (λ x h1. IsException h1 class w x)
        (made_row {S = S} (new_rec Instance (class ∷ ref d ∷ []) [])) h
    unfolding made_row
    instance_holds h d k t args c i ek et ed id told =
        let p : Value → Heap → Type 0 = λ x h1. IsException h1 class w x in
        let made = new_rec Instance (class ∷ ref d ∷ []) [] in
        let dict = new_rec Dict (ref k ∷ ref t ∷ []) [] in
        holds_make rules stands p made (λ a. Ret (ref a)) h
        (λ a. instance_fits h a class (ref d) c i (made_ref h d dict ed) id)
        (λ n h1 order1 x1 e1 item1.
        holds_ret rules stands p (ref n) h1 (record {
          instance = n;
          is = refl;
          dict = d;
          of = made_here h h1 n made e1;
          key = k;
          tuple = t;
          has = put_stays h h1 d n dict made e1 x1 ed (λ q. let z : Instance ≡ Dict = q in cc);
          named = fixed_stays h h1 k (new_rec Str [] (codes "args")) x1 ek refl;
          args = args;
          holds = fixed_stays h h1 t (new_rec Tuple args []) x1 et refl;
          told = told_stays h h1 w args x1 told;
        }))

    -- the dictionary and the instance, once the key and the tuple are there
    dict_holds : (h : Heap) (k t : ℕ) (args : List Value) → RefTo h Class class → IsItem h class →
        h k ≡ Some (new_rec Str [] (codes "args")) → IsItem h (ref k) → h t ≡ Some (new_rec Tuple args []) →
        IsItem h (ref t) → IsToldIn h w args
        → Holds rules stands (λ x h1. IsException h1 class w x) (dict_of_args {S = S} class (ref k) (ref t)) h
    unfolding dict_of_args
    dict_holds h k t args c i ek ik et it told =
        let p : Value → Heap → Type 0 = λ x h1. IsException h1 class w x in
        let dict = new_rec Dict (ref k ∷ ref t ∷ []) [] in
        make_then p dict (λ dict. made_row (new_rec Instance (class ∷ dict ∷ []) [])) h
        (λ a. dict_fits h a k (new_rec Str [] (codes "args")) (ref t) ek refl ik it)
        (λ d h1 order1 x1 e1 here1 item1.
        instance_holds h1 d k t args (ref_stays h h1 x1 Class class c) (item_stays h h1 x1 class i)
        (fixed_stays h h1 k (new_rec Str [] (codes "args")) x1 ek refl)
        (fixed_stays h h1 t (new_rec Tuple args []) x1 et refl) here1 item1 (told_stays h h1 w args x1 told))

    args_hold : (h : Heap) (k : ℕ) (args : List Value) → RefTo h Class class → IsItem h class →
        h k ≡ Some (new_rec Str [] (codes "args")) → IsItem h (ref k) → Every (IsItem h) args →
        length args ≤ LENGTH_LIMIT → IsToldIn h w args
        → Holds rules stands (λ x h1. IsException h1 class w x) (args_row {S = S} class (ref k) args) h
    unfolding args_row
    args_hold h k args c i ek ik ia l told =
        make_then (λ x h1. IsException h1 class w x) (new_rec Tuple args [])
        (λ tuple. dict_of_args class (ref k) tuple) h (λ a. sequence_fits rules h a Tuple args tt ia l)
        (λ t h1 order1 x1 e1 here1 item1.
        dict_holds h1 k t args (ref_stays h h1 x1 Class class c) (item_stays h h1 x1 class i)
        (fixed_stays h h1 k (new_rec Str [] (codes "args")) x1 ek refl) (item_stays h h1 x1 (ref k) ik) here1 item1
        (told_stays h h1 w args x1 told))

  -- what a told row gives
  abbrev IsArgs : With → List Value → Heap → Type 0
  IsArgs w args h = Every (IsItem h) args × (length args ≤ LENGTH_LIMIT) × IsToldIn h w args

  told_holds : (h : Heap) (w : With) → IsTold h w → is_tellable w ≡ true →
      Holds rules stands (IsArgs w) (told_row {S = S} w) h
  unfolding told_row
  told_holds h Nothing i t = holds_ret rules stands (IsArgs Nothing) [] h (tt, omega arith, refl)
  told_holds h (Text bs) i t =
      make_then (IsArgs (Text bs)) (new_rec Str [] bs) (λ a. Ret (a ∷ [])) h
      (λ a. text_fits rules h a bs (leb-true (length bs) LENGTH_LIMIT t))
      (λ a h1 order1 x1 e1 here1 item1. holds_ret rules stands (IsArgs (Text bs)) (ref a ∷ []) h1
      ((item1, tt), omega arith, (a, refl, here1)))
  told_holds h (Held v) i t = holds_ret rules stands (IsArgs (Held v)) (v ∷ []) h ((i, tt), omega arith, refl)

  told_lasts : (h h1 : Heap) (w : With) → Extends h h1 → IsTold h w → IsTold h1 w
  told_lasts h h1 Nothing x i = tt
  told_lasts h h1 (Text bs) x i = tt
  told_lasts h h1 (Held v) x i = item_stays h h1 x v i

  exception_holds : (h : Heap) (class : Value) (w : With) → IsOrdered rules h → RefTo h Class class → IsItem h class →
      IsTold h w → is_tellable w ≡ true → Holds rules stands (λ x h1. IsException h1 class w x)
      (exception_row {S = S} class w) h
  unfolding exception_row keyed_row
  exception_holds h class w order c i told t =
      let p : Value → Heap → Type 0 = λ x h1. IsException h1 class w x in
      let key = new_rec Str [] (codes "args") in
      make_then p key (λ key. keyed_row class w key) h (λ a. text_fits rules h a (codes "args") (omega arith))
      (λ k h1 order1 x1 e1 here1 item1.
      holds_bind rules stands (IsArgs w) p (told_row w) (λ args. args_row class (ref k) args) h1 order1
      (told_holds h1 w (told_lasts h h1 w x1 told) t)
      (λ args h2 order2 x2 is.
      let x = extends_then h h1 h2 x1 x2 in
      args_hold class w h2 k args (ref_stays h h2 x Class class c) (item_stays h h2 x class i)
      (fixed_stays h1 h2 k key x2 here1 refl) (item_stays h1 h2 x2 (ref k) item1) is.0 is.1 is.2))

  -- of the class of a number
  numbered_holds : (h : Heap) (roots n : ℕ) (w : With) → IsOrdered rules h → (r : IsRoots h roots) → n < class_count →
      IsTold h w → is_tellable w ≡ true
      → Holds rules stands (λ x h1. IsException h1 (value_at r.list.values (class_place n)) w x)
      (numbered_row {S = S} roots n w) h
  unfolding numbered_row
  numbered_holds h roots n w order r l told t =
      let c = r.classes n l in
      let class = value_at r.list.values (class_place n) in
      let p : Value → Heap → Type 0 = λ x h1. IsException h1 class w x in
      let is_class : RefTo h Class class =
      subst (RefTo h Class) (sym c.is) (subst (λ o. KindIn o (λ q. q ≡ Class)) (sym c.here) c.kind) in
      let item : IsItem h class = subst (IsItem h) (sym c.is) (
        ap is_some c.here,
        λ q. let z : ref c.address ≡ Unset =
            q in cc,
      ) in
      holds_looks rules stands p (λ z. z ≡ class) (look_row roots (class_place n)) (λ class. exception_row class w) h
      order (look_looks S h roots r.list r.here (class_place n))
      (λ z e. subst (λ z. Holds rules stands p (exception_row {S = S} z w) h) (sym e)
      (exception_holds h class w order is_class item told t))

  pub fault_holds : (h : Heap) (roots : ℕ) (e : Fault) → IsOrdered rules h → (r : IsRoots h roots) → IsFault h e →
      Holds rules stands (IsRaised r.list.values e) (fault_row {S = S} roots e) h
  unfolding fault_row
  fault_holds h roots e order r i = by (is_tellable e.with) refl
    where
      by : (b : Bool) → is_tellable e.with ≡ b
          → Holds rules stands (λ x h1. IsException h1
          (value_at r.list.values (class_place (cond b e memory_fault).exc)) (cond b e memory_fault).with x)
          (cond b (numbered_row {S = S} roots e.exc e.with)
          (numbered_row roots (class_number (codes "MemoryError")) Nothing)) h
      by true t = numbered_holds h roots e.exc e.with order r i.1 i.2 t
      by false t = numbered_holds h roots (class_number (codes "MemoryError")) Nothing order r (lit< tt) tt refl
