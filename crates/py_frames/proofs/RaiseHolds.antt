-- Exceptions that are matched, made and raised.
use Rattle.std.proofs.Common.{◌≡◌, ℕ, zero, suc, ◌+◌, not, Bool, true, false, cond, List, [], ◌∷◌, length, Option, Some, sym, subst, ◌∙◌, lit<}
use Rattle.py_base.specs.declared.kind.Kind.{Kind}
use Rattle.py_base.specs.declared.kind.Kind.TheVariants.{Str, Tuple, List as ListKind, Dict, Cell, Function, Class, Instance, Method, Iter, Range, Lock, Thread}
use Rattle.py_data.specs.declared.value.Addr.{Addr}
use Rattle.py_data.specs.declared.value.Value.{Value}
use Rattle.py_data.specs.declared.value.Value.TheVariants.{Unset, None as NoneValue, Bool as BoolValue, Int, Ref, Builtin}
use Rattle.py_data.specs.Closed.{Refers, IsItem}
use Rattle.py_data.specs.Every.{Every}
use Rattle.py_data.specs.Fault.{operand_fault}
use Rattle.py_data.specs.Heap.{Heap, Rec, value_at}
use Rattle.py_data.specs.Looking.{Looks, look_row, size_row, kind_row, until_row}
use Rattle.py_data.specs.Row.{Row, Ret, bind}
use Rattle.py_data.specs.Shape.{RefTo}
use Rattle.py_data.proofs.ItemLemmas.{fit_items}
use Rattle.py_data.proofs.Looking.{looks_ret, looks_then, looks_weaken, look_looks, size_looks, kind_looks}
use Rattle.py_code.specs.declared.program.Program.{Program}
use Rattle.py_code.specs.Effects.{Effect as InstrEffect}
use Rattle.py_code.specs.Right.{IsRightProgram}
use Rattle.obj_class.specs.Bases.{ref, is_sub_row}
use Rattle.obj_class.proofs.Parts.{is_at, of_instance_at}
use Rattle.py_frames.specs.declared.state.Frame.{Frame}
use Rattle.py_frames.specs.declared.next.Next.{Next}
use Rattle.py_frames.specs.declared.next.Next.TheVariants.{Goes, Throws}
use Rattle.py_frames.specs.Binding.{plainly}
use Rattle.py_frames.specs.ClassCalls.{Site, exception_class_row, class_call}
use Rattle.py_frames.specs.Fits.{Fits}
use Rattle.py_frames.specs.RaiseRows.{catches_if, class_catches, item_by, item_catches, place_catches, some_catches, tuple_catches, record_catches, catches_row, told_match, class_match, match_by, exc_match_row, raise_if, raise_of, raise_instance, raise_by, raise_value, call_if, class_raised, alone_by, made_alone, below_row, instance_by, is_instance_row, items_by, raised_args, called_with, same_or_called, class_with, class_with_if, class_valued, instance_valued, valued_by, made_valued}
use Rattle.py_frames.specs.Raising.{place_in, values_row, raise_row, raised_fault}
use Rattle.py_frames.specs.Sound.{rules_of}
use Rattle.py_frames.proofs.BindingHolds.{values_looks}
use Rattle.py_frames.proofs.ClassHolds.{exception_looks, sub_any, class_call_holds}
use Rattle.py_frames.proofs.Given.{Context, at_ref, ref_at, ref_item, there_of, value_refers}
use Rattle.py_frames.proofs.MemberHolds.{after_kind}
use Rattle.py_frames.proofs.Raised.{Leads, Pushes, raises, goes_one, leads_to, after_look, after_looks}

-- an answer of which nothing is asked
abbrev pub Any : {A : Type 0} → A → Type 0
Any a = Unit {0}

set_ref : (h : Heap) (a : Addr) → Refers h (Ref a) → IsItem h (Ref a)
set_ref h a i = (i, λ q. let z : Ref a ≡ Unset = q in cc)

module _ (S : Type 0) (p : Program) (count roots : ℕ) where
  -- a look at the kind of a record, and more looks
  kind_then : {A : Type 0} (q : A → Type 0) (a : Addr) (g : Kind → Row S A) (h : Heap) → Refers h (Ref a) →
      ((k : Kind) → RefTo h k (Ref a) → Looks q (g k) h) → Looks q (bind (kind_row a.0) g) h
  kind_then q a g h i n =
      let t = there_of h a (set_ref h a i) in
      looks_then (λ k. k ≡ t.0.kind) q (kind_row a.0) g h (kind_looks S h a.0 t.0 t.1)
      (λ k e. n k (at_ref h k a.0 t.0 t.1 (sym e)))

  module _ (h : Heap) (c : Context p count roots h) where
    yes_or_no : (b : Bool) → Looks {S = S} Any (Ret b) h
    yes_or_no b = looks_ret S Any b h tt

    -- the class of an instance
    class_of_instance : (a : ℕ) → RefTo h Instance (ref a) →
        (r : Rec) × (h a ≡ Some r) × RefTo h Class (ref (place_in (value_at r.values 0)))
    class_of_instance a i =
        let t = is_at h Instance a i in
        (t.rec, t.here, ref_at h Class (value_at t.rec.values 0) (of_instance_at (rules_of p count) h c.order a t).0)

    class_catches_looks : (e a : ℕ) → RefTo h Class (ref e) → RefTo h Class (ref a) →
        Looks {S = S} Any (class_catches roots e a) h
    unfolding class_catches catches_if
    class_catches_looks e a i j = looks_then Any Any (exception_class_row roots a) (λ b. catches_if e a b) h
        (exception_looks p count roots (λ h s. Unit {0}) a h c j) by
      where
        by : (b : Bool) → Unit {0} → Looks {S = S} Any (catches_if e a b) h
        by true u = sub_any p count roots (λ h s. Unit {0}) e a h c i
        by false u = yes_or_no false

    item_by_looks : (e : ℕ) (a : Addr) (k : Kind) → RefTo h Class (ref e) → RefTo h k (Ref a) →
        Looks {S = S} Any (item_by roots e a.0 k) h
    unfolding item_by
    item_by_looks e a Class i j = class_catches_looks e a.0 i j
    item_by_looks e a Str i j = yes_or_no false
    item_by_looks e a Tuple i j = yes_or_no false
    item_by_looks e a ListKind i j = yes_or_no false
    item_by_looks e a Dict i j = yes_or_no false
    item_by_looks e a Cell i j = yes_or_no false
    item_by_looks e a Function i j = yes_or_no false
    item_by_looks e a Instance i j = yes_or_no false
    item_by_looks e a Method i j = yes_or_no false
    item_by_looks e a Iter i j = yes_or_no false
    item_by_looks e a Range i j = yes_or_no false
    item_by_looks e a Lock i j = yes_or_no false
    item_by_looks e a Thread i j = yes_or_no false

    item_looks : (e : ℕ) (x : Value) → RefTo h Class (ref e) → Refers h x → Looks {S = S} Any (item_catches roots e x) h
    unfolding item_catches
    item_looks e (Ref a) i j = kind_then Any a (λ k. item_by roots e a.0 k) h j (λ k l. item_by_looks e a k i l)
    item_looks e Unset i j = yes_or_no false
    item_looks e NoneValue i j = yes_or_no false
    item_looks e (BoolValue b) i j = yes_or_no false
    item_looks e (Int n) i j = yes_or_no false
    item_looks e (Builtin b) i j = yes_or_no false

    place_looks : (e t : ℕ) (r : Rec) (i : ℕ) → h t ≡ Some r → RefTo h Class (ref e) →
        Looks {S = S} Any (place_catches roots e t i) h
    unfolding place_catches
    place_looks e t r i here j =
        looks_then (λ x. x ≡ value_at r.values i) Any (look_row t i) (λ x. item_catches roots e x) h
        (look_looks S h t r here i)
        (λ x u. item_looks e x j (subst (Refers h) (sym u)
        (value_refers h r.values i (c.order.each t r here).closed.refers)))

    some_looks : (e t : ℕ) (r : Rec) (i n : ℕ) → h t ≡ Some r → RefTo h Class (ref e) →
        Looks {S = S} Any (until_row (place_catches roots e t) not false i n) h
    unfolding until_row
    some_looks e t r i zero here j = yes_or_no false
    some_looks e t r i (suc n) here j = looks_then Any Any (place_catches roots e t i)
        (λ a. cond (not a) (until_row (place_catches roots e t) not false (i + 1) n) (Ret a)) h
        (place_looks e t r i here j) (by (some_looks e t r (i + 1) n here j))
      where
        by : Looks {S = S} Any (until_row (place_catches roots e t) not false (i + 1) n) h → (b : Bool) → Unit {0} →
            Looks {S = S} Any (cond (not b) (until_row (place_catches roots e t) not false (i + 1) n) (Ret b)) h
        by more true u = yes_or_no true
        by more false u = more

    tuple_looks : (e t : ℕ) (r : Rec) → h t ≡ Some r → RefTo h Class (ref e) →
        Looks {S = S} Any (tuple_catches roots e t) h
    unfolding tuple_catches some_catches
    tuple_looks e t r here j = looks_then (λ n. n ≡ length r.values) Any (size_row t) (λ n. some_catches roots e t n) h
        (size_looks S h t r here) (λ n u. some_looks e t r 0 n here j)

    record_looks : (e : ℕ) (a : Addr) (k : Kind) → RefTo h Class (ref e) → RefTo h k (Ref a) →
        Looks {S = S} Any (record_catches roots e a.0 k) h
    unfolding record_catches
    record_looks e a Class i j = class_catches_looks e a.0 i j
    record_looks e a Tuple i j = let t = is_at h Tuple a.0 j in tuple_looks e a.0 t.rec t.here i
    record_looks e a Str i j = yes_or_no false
    record_looks e a ListKind i j = yes_or_no false
    record_looks e a Dict i j = yes_or_no false
    record_looks e a Cell i j = yes_or_no false
    record_looks e a Function i j = yes_or_no false
    record_looks e a Instance i j = yes_or_no false
    record_looks e a Method i j = yes_or_no false
    record_looks e a Iter i j = yes_or_no false
    record_looks e a Range i j = yes_or_no false
    record_looks e a Lock i j = yes_or_no false
    record_looks e a Thread i j = yes_or_no false

    catches_looks : (e : ℕ) (x : Value) → RefTo h Class (ref e) → Refers h x →
        Looks {S = S} Any (catches_row roots e x) h
    unfolding catches_row
    catches_looks e (Ref a) i j = kind_then Any a (λ k. record_catches roots e a.0 k) h j
        (λ k l. record_looks e a k i l)
    catches_looks e Unset i j = yes_or_no false
    catches_looks e NoneValue i j = yes_or_no false
    catches_looks e (BoolValue b) i j = yes_or_no false
    catches_looks e (Int n) i j = yes_or_no false
    catches_looks e (Builtin b) i j = yes_or_no false

    -- ---- whether a value is an instance of a class
    instance_by_looks : (e : ℕ) (a : Addr) (k : Kind) → RefTo h k (Ref a) → Looks {S = S} Any (instance_by e a.0 k) h
    unfolding instance_by below_row
    instance_by_looks e a Instance i =
        let t = class_of_instance a.0 i in
        looks_then (λ x. x ≡ value_at t.0.values 0) Any (look_row a.0 0) (λ c. is_sub_row (place_in c) e) h
        (look_looks S h a.0 t.0 t.1 0)
        (λ x u. sub_any p count roots (λ h s. Unit {0}) (place_in x) e h c
        (subst (λ z. RefTo h Class (ref (place_in z))) (sym u) t.2))
    instance_by_looks e a Class i = yes_or_no false
    instance_by_looks e a Tuple i = yes_or_no false
    instance_by_looks e a Str i = yes_or_no false
    instance_by_looks e a ListKind i = yes_or_no false
    instance_by_looks e a Dict i = yes_or_no false
    instance_by_looks e a Cell i = yes_or_no false
    instance_by_looks e a Function i = yes_or_no false
    instance_by_looks e a Method i = yes_or_no false
    instance_by_looks e a Iter i = yes_or_no false
    instance_by_looks e a Range i = yes_or_no false
    instance_by_looks e a Lock i = yes_or_no false
    instance_by_looks e a Thread i = yes_or_no false

    is_instance_looks : (e : ℕ) (x : Value) → Refers h x → Looks {S = S} Any (is_instance_row e x) h
    unfolding is_instance_row
    is_instance_looks e (Ref a) j = kind_then Any a (λ k. instance_by e a.0 k) h j (λ k l. instance_by_looks e a k l)
    is_instance_looks e Unset j = yes_or_no false
    is_instance_looks e NoneValue j = yes_or_no false
    is_instance_looks e (BoolValue b) j = yes_or_no false
    is_instance_looks e (Int n) j = yes_or_no false
    is_instance_looks e (Builtin b) j = yes_or_no false

    -- ---- what a class is called with
    abbrev Items : List Value → Type 0
    Items vs = Every (IsItem h) vs

    items_looks : (a : Addr) (k : Kind) → RefTo h k (Ref a) → Looks {S = S} Items (items_by a.0 k) h
    unfolding items_by
    items_looks a Tuple i =
        let t = is_at h Tuple a.0 i in
        looks_weaken (λ vs. vs ≡ t.rec.values) Items
        (λ vs u. subst Items (sym u)
        (fit_items (rules_of p count) h a.0 t.rec (c.order.each a.0 t.rec t.here)
        (λ z. let w : Tuple ≡ Cell = sym t.kind ∙ z in cc))) (values_row a.0) h (values_looks S h a.0 t.rec t.here)
    items_looks a Str i = looks_ret S Items (Ref a ∷ []) h (ref_item h Str (Ref a) i, tt)
    items_looks a Class i = looks_ret S Items (Ref a ∷ []) h (ref_item h Class (Ref a) i, tt)
    items_looks a ListKind i = looks_ret S Items (Ref a ∷ []) h (ref_item h ListKind (Ref a) i, tt)
    items_looks a Dict i = looks_ret S Items (Ref a ∷ []) h (ref_item h Dict (Ref a) i, tt)
    items_looks a Cell i = looks_ret S Items (Ref a ∷ []) h (ref_item h Cell (Ref a) i, tt)
    items_looks a Function i = looks_ret S Items (Ref a ∷ []) h (ref_item h Function (Ref a) i, tt)
    items_looks a Instance i = looks_ret S Items (Ref a ∷ []) h (ref_item h Instance (Ref a) i, tt)
    items_looks a Method i = looks_ret S Items (Ref a ∷ []) h (ref_item h Method (Ref a) i, tt)
    items_looks a Iter i = looks_ret S Items (Ref a ∷ []) h (ref_item h Iter (Ref a) i, tt)
    items_looks a Range i = looks_ret S Items (Ref a ∷ []) h (ref_item h Range (Ref a) i, tt)
    items_looks a Lock i = looks_ret S Items (Ref a ∷ []) h (ref_item h Lock (Ref a) i, tt)
    items_looks a Thread i = looks_ret S Items (Ref a ∷ []) h (ref_item h Thread (Ref a) i, tt)

    args_looks : (x : Value) → IsItem h x → Looks {S = S} Items (raised_args x) h
    unfolding raised_args
    args_looks NoneValue i = looks_ret S Items [] h tt
    args_looks (Ref a) i = kind_then Items a (λ k. items_by a.0 k) h i.0 (λ k l. items_looks a k l)
    args_looks Unset i = looks_ret S Items (Unset ∷ []) h (i, tt)
    args_looks (BoolValue b) i = looks_ret S Items (BoolValue b ∷ []) h (i, tt)
    args_looks (Int n) i = looks_ret S Items (Int n ∷ []) h (i, tt)
    args_looks (Builtin b) i = looks_ret S Items (Builtin b ∷ []) h (i, tt)

module _ {S : Type 0} (p : Program) (count roots : ℕ) (stands : Heap → S → Type 0) (right : IsRightProgram p)
    (e : InstrEffect) (f : Frame) (thread : Option Addr) (depth : ℕ) where
  abbrev Ok : Row S Next → Heap → Type 0
  Ok row h = Leads p count roots stands e f row h

  abbrev site : Site
  site = record { program = p; roots = roots; thread = thread; depth = depth }

  wrong : (h : Heap) → Context p count roots h → Ok (raise_row roots operand_fault) h
  wrong h c = raises p count roots stands e f operand_fault h c (lit< tt, lit< tt, tt)

  unraised : (h : Heap) → Context p count roots h → Ok (raise_row roots raised_fault) h
  unraised h c = raises p count roots stands e f raised_fault h c (lit< tt, lit< tt, tt)

  -- ---- EXC_MATCH
  match_holds : (x : Value) (a : Addr) (k : Kind) (h : Heap) → Context p count roots h → Pushes e → Refers h x →
      RefTo h k (Ref a) → Ok (match_by roots x a.0 k) h
  unfolding match_by class_match told_match
  match_holds x a Instance h c t v i =
      let r = class_of_instance S p count roots h c a.0 i in
      after_look p count roots stands (Fits p e f) a.0 0 r.0 (λ w. told_match roots x (place_in w)) h c r.1
      (after_looks p count roots stands Any (Fits p e f) (catches_row roots (place_in (value_at r.0.values 0)) x)
      (λ b. Ret (Goes (BoolValue b ∷ []))) h c
      (catches_looks S p count roots h c (place_in (value_at r.0.values 0)) x r.2 v)
      (λ b u. goes_one p count roots stands e f (BoolValue b) h t tt))
  match_holds x a Str h c t v i = wrong h c
  match_holds x a Tuple h c t v i = wrong h c
  match_holds x a ListKind h c t v i = wrong h c
  match_holds x a Dict h c t v i = wrong h c
  match_holds x a Cell h c t v i = wrong h c
  match_holds x a Function h c t v i = wrong h c
  match_holds x a Class h c t v i = wrong h c
  match_holds x a Method h c t v i = wrong h c
  match_holds x a Iter h c t v i = wrong h c
  match_holds x a Range h c t v i = wrong h c
  match_holds x a Lock h c t v i = wrong h c
  match_holds x a Thread h c t v i = wrong h c

  pub exc_match_holds : (y x : Value) (h : Heap) → Context p count roots h → Pushes e → IsItem h y → Refers h x →
      Ok (exc_match_row roots y x) h
  unfolding exc_match_row
  exc_match_holds (Ref a) x h c t i v = after_kind p count roots stands (Fits p e f) a (λ k. match_by roots x a.0 k) h
      c i (λ k j. match_holds x a k h c t v j)
  exc_match_holds Unset x h c t i v = wrong h c
  exc_match_holds NoneValue x h c t i v = wrong h c
  exc_match_holds (BoolValue b) x h c t i v = wrong h c
  exc_match_holds (Int n) x h c t i v = wrong h c
  exc_match_holds (Builtin b) x h c t i v = wrong h c

  -- ---- RAISE
  raise_kind : (a : Addr) (k : Kind) (h : Heap) → Context p count roots h → RefTo h k (Ref a) →
      Ok (raise_by roots a.0 k) h
  unfolding raise_by raise_instance raise_of raise_if
  raise_kind a Instance h c i =
      let r = class_of_instance S p count roots h c a.0 i in
      after_look p count roots stands (Fits p e f) a.0 0 r.0 (λ w. raise_of roots (ref a.0) (place_in w)) h c r.1
      (after_looks p count roots stands Any (Fits p e f) (exception_class_row roots (place_in (value_at r.0.values 0)))
      (λ b. raise_if roots (ref a.0) b) h c
      (exception_looks p count roots stands (place_in (value_at r.0.values 0)) h c r.2) by)
    where
      by : (b : Bool) → Unit {0} → Ok (raise_if roots (ref a.0) b) h
      by true u = leads_to p count roots stands e f (Throws (ref a.0)) h i
      by false u = unraised h c
  raise_kind a Str h c i = unraised h c
  raise_kind a Tuple h c i = unraised h c
  raise_kind a ListKind h c i = unraised h c
  raise_kind a Dict h c i = unraised h c
  raise_kind a Cell h c i = unraised h c
  raise_kind a Function h c i = unraised h c
  raise_kind a Class h c i = unraised h c
  raise_kind a Method h c i = unraised h c
  raise_kind a Iter h c i = unraised h c
  raise_kind a Range h c i = unraised h c
  raise_kind a Lock h c i = unraised h c
  raise_kind a Thread h c i = unraised h c

  pub raise_holds : (x : Value) (h : Heap) → Context p count roots h → IsItem h x → Ok (raise_value roots x) h
  unfolding raise_value
  raise_holds (Ref a) h c i = after_kind p count roots stands (Fits p e f) a (λ k. raise_by roots a.0 k) h c i
      (λ k j. raise_kind a k h c j)
  raise_holds Unset h c i = unraised h c
  raise_holds NoneValue h c i = unraised h c
  raise_holds (BoolValue b) h c i = unraised h c
  raise_holds (Int n) h c i = unraised h c
  raise_holds (Builtin b) h c i = unraised h c

  -- ---- MAKE_RAISED
  called : (args : List Value) (a : ℕ) (h : Heap) → Context p count roots h → Pushes e → RefTo h Class (ref a) →
      Every (IsItem h) args → Ok (class_call site (plainly args) a) h
  called args a h c t i j = class_call_holds p count roots stands right e f thread depth (plainly args) a h c t i
      (record { args = j; values = tt })

  alone_kind : (a : Addr) (k : Kind) (h : Heap) → Context p count roots h → Pushes e → IsItem h (Ref a) →
      RefTo h k (Ref a) → Ok (alone_by site a.0 k) h
  unfolding alone_by class_raised call_if
  alone_kind a Class h c t i j = after_looks p count roots stands Any (Fits p e f) (exception_class_row roots a.0)
      (λ b. call_if site a.0 b) h c (exception_looks p count roots stands a.0 h c j) by
    where
      by : (b : Bool) → Unit {0} → Ok (call_if site a.0 b) h
      by true u = called [] a.0 h c t j tt
      by false u = unraised h c
  alone_kind a Instance h c t i j = goes_one p count roots stands e f (ref a.0) h t i.0
  alone_kind a Str h c t i j = unraised h c
  alone_kind a Tuple h c t i j = unraised h c
  alone_kind a ListKind h c t i j = unraised h c
  alone_kind a Dict h c t i j = unraised h c
  alone_kind a Cell h c t i j = unraised h c
  alone_kind a Function h c t i j = unraised h c
  alone_kind a Method h c t i j = unraised h c
  alone_kind a Iter h c t i j = unraised h c
  alone_kind a Range h c t i j = unraised h c
  alone_kind a Lock h c t i j = unraised h c
  alone_kind a Thread h c t i j = unraised h c

  pub made_alone_holds : (x : Value) (h : Heap) → Context p count roots h → Pushes e → IsItem h x →
      Ok (made_alone site x) h
  unfolding made_alone
  made_alone_holds (Ref a) h c t i = after_kind p count roots stands (Fits p e f) a (λ k. alone_by site a.0 k) h c i
      (λ k j. alone_kind a k h c t i j)
  made_alone_holds Unset h c t i = unraised h c
  made_alone_holds NoneValue h c t i = unraised h c
  made_alone_holds (BoolValue b) h c t i = unraised h c
  made_alone_holds (Int n) h c t i = unraised h c
  made_alone_holds (Builtin b) h c t i = unraised h c

  class_with_holds : (a : ℕ) (x : Value) (b : Bool) (h : Heap) → Context p count roots h → Pushes e →
      RefTo h Class (ref a) → IsItem h x → Ok (class_with_if site a x b) h
  unfolding class_with_if class_with same_or_called called_with
  class_with_holds a x true h c t i j = after_looks p count roots stands Any (Fits p e f) (is_instance_row a x)
      (λ b. same_or_called site a x b) h c (is_instance_looks S p count roots h c a x j.0) by
    where
      by : (b : Bool) → Unit {0} → Ok (same_or_called site a x b) h
      by true u = goes_one p count roots stands e f x h t j.0
      by false u = after_looks p count roots stands (λ vs. Every (IsItem h) vs) (Fits p e f) (raised_args x)
          (λ args. class_call site (plainly args) a) h c (args_looks S p count roots h c x j)
          (λ args l. called args a h c t i l)
  class_with_holds a x false h c t i j = unraised h c

  instance_valued_holds : (a : Addr) (x : Value) (h : Heap) → Context p count roots h → Pushes e → IsItem h (Ref a) →
      Ok (instance_valued site a.0 x) h
  unfolding instance_valued
  instance_valued_holds a NoneValue h c t i = goes_one p count roots stands e f (ref a.0) h t i.0
  instance_valued_holds a Unset h c t i = unraised h c
  instance_valued_holds a (BoolValue b) h c t i = unraised h c
  instance_valued_holds a (Int n) h c t i = unraised h c
  instance_valued_holds a (Ref b) h c t i = unraised h c
  instance_valued_holds a (Builtin b) h c t i = unraised h c

  valued_kind : (a : Addr) (x : Value) (k : Kind) (h : Heap) → Context p count roots h → Pushes e → IsItem h (Ref a) →
      IsItem h x → RefTo h k (Ref a) → Ok (valued_by site a.0 x k) h
  unfolding valued_by class_valued
  valued_kind a x Class h c t i l j = after_looks p count roots stands Any (Fits p e f) (exception_class_row roots a.0)
      (λ b. class_with_if site a.0 x b) h c (exception_looks p count roots stands a.0 h c j)
      (λ b u. class_with_holds a.0 x b h c t j l)
  valued_kind a x Instance h c t i l j = instance_valued_holds a x h c t i
  valued_kind a x Str h c t i l j = unraised h c
  valued_kind a x Tuple h c t i l j = unraised h c
  valued_kind a x ListKind h c t i l j = unraised h c
  valued_kind a x Dict h c t i l j = unraised h c
  valued_kind a x Cell h c t i l j = unraised h c
  valued_kind a x Function h c t i l j = unraised h c
  valued_kind a x Method h c t i l j = unraised h c
  valued_kind a x Iter h c t i l j = unraised h c
  valued_kind a x Range h c t i l j = unraised h c
  valued_kind a x Lock h c t i l j = unraised h c
  valued_kind a x Thread h c t i l j = unraised h c

  pub made_valued_holds : (y x : Value) (h : Heap) → Context p count roots h → Pushes e → IsItem h y → IsItem h x →
      Ok (made_valued site y x) h
  unfolding made_valued
  made_valued_holds (Ref a) x h c t i l = after_kind p count roots stands (Fits p e f) a (λ k. valued_by site a.0 x k)
      h c i (λ k j. valued_kind a x k h c t i l j)
  made_valued_holds Unset x h c t i l = unraised h c
  made_valued_holds NoneValue x h c t i l = unraised h c
  made_valued_holds (BoolValue b) x h c t i l = unraised h c
  made_valued_holds (Int n) x h c t i l = unraised h c
  made_valued_holds (Builtin b) x h c t i l = unraised h c
