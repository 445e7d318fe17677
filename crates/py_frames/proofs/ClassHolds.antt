-- Calls of functions and of classes, and exceptions that are raised and matched.
use Rattle.std.proofs.Common.{arith, ◌≡◌, ℕ, zero, suc, ◌+◌, ◌<◌, ◌≤◌, Bool, true, false, cond, leb, ltb, List, [], ◌∷◌, length, Option, Some, None, refl, sym, ap, subst, ◌∙◌, codes, slice_set, lit<}
use Rattle.std.specs.Prelude.{option_map}
use Rattle.std.specs.Option.{IfSome}
use Rattle.std.proofs.lemmas.Bool.{leb-true}
use Rattle.std.proofs.lemmas.List.{length-set}
use Rattle.py_base.specs.Numbers.{class_number, number_in}
use Rattle.py_base.specs.declared.kind.Kind.{Kind}
use Rattle.py_base.specs.declared.kind.Kind.TheVariants.{Str, Tuple, List as ListKind, Dict, Cell, Function, Class, Instance, Method, Iter, Range, Lock, Thread}
use Rattle.py_data.specs.declared.value.Addr.{Addr}
use Rattle.py_data.specs.declared.value.Value.{Value}
use Rattle.py_data.specs.declared.value.Value.TheVariants.{Unset, None as NoneValue, Bool as BoolValue, Int, Ref, Builtin}
use Rattle.py_data.specs.declared.record.Got.{Got}
use Rattle.py_data.specs.declared.record.Got.TheVariants.{Is, Raise}
use Rattle.py_data.specs.declared.record.TheConstants.{LENGTH_LIMIT}
use Rattle.py_data.specs.Answers.{IsGot, IfItem}
use Rattle.py_data.specs.Closed.{Refers, IsItem}
use Rattle.py_data.specs.Every.{Every}
use Rattle.py_data.specs.Fault.{argument_fault, depth_fault, memory_fault}
use Rattle.py_data.specs.Heap.{Heap, Rec, value_at, new_rec}
use Rattle.py_data.specs.Looking.{Looks, look_row}
use Rattle.py_data.specs.Order.{Extends, FitsAt, Rules}
use Rattle.py_data.specs.Row.{Row, Ret, bind}
use Rattle.py_data.specs.Shape.{RefTo, KindIn, is_key_kind}
use Rattle.py_data.proofs.EveryLemmas.{every_weaken}
use Rattle.py_data.proofs.Holding.{holds_ret}
use Rattle.py_data.proofs.ItemLemmas.{items_stay}
use Rattle.py_data.proofs.Keep.{ref_stays}
use Rattle.py_data.proofs.Looking.{looks_ret, looks_then, looks_weaken, look_looks}
use Rattle.py_data.proofs.Making.{made_fits, text_fits, sequence_fits}
use Rattle.py_code.specs.declared.program.Program.{Program}
use Rattle.py_code.specs.Effects.{Effect as InstrEffect}
use Rattle.py_code.specs.Right.{IsRightProgram, first_text, texts_of}
use Rattle.obj_class.specs.AttrRows.{inherited_row}
use Rattle.obj_class.specs.Attributes.{inherited}
use Rattle.obj_class.specs.Bases.{ref, MOST_BASES, is_below, is_sub_row}
use Rattle.obj_class.specs.Exceptions.{made_row, dict_of_args, args_row}
use Rattle.obj_class.specs.Roots.{class_place}
use Rattle.obj_class.proofs.AttrLooks.{inherited_looks, sub_looks}
use Rattle.obj_class.proofs.Parts.{inherited_item}
use Rattle.py_frames.specs.declared.state.Frame.{Frame}
use Rattle.py_frames.specs.declared.next.Next.{Next}
use Rattle.py_frames.specs.declared.next.Next.TheVariants.{Enters}
use Rattle.py_frames.specs.Binding.{Given, with_first, bound_row}
use Rattle.py_frames.specs.ClassCalls.{Site, MOST_FRAMES, entered_row, init_by, init_row, exception_class_row, plain_instance, args_instance, instance_of, new_instance, takes, given_instance, bare_call, made_by, with_instance, making_row, init_entered, function_init, record_init, value_init, init_or_bare, known_class, class_call}
use Rattle.py_frames.specs.Fits.{Fits}
use Rattle.py_frames.specs.GlobalRows.{first_cell, text_number}
use Rattle.py_frames.specs.Raising.{place_in, raise_row, give, call_fault}
use Rattle.py_frames.specs.Sound.{IsMade, HasNames, IsFrame, rules_of}
use Rattle.py_frames.proofs.BindingHolds.{IsEntry, AreGiven, bound_looks}
use Rattle.py_frames.proofs.BuildHolds.{after_made}
use Rattle.py_frames.proofs.Given.{Context, at_ref, ref_item}
use Rattle.py_frames.proofs.GlobalHolds.{number_within, text_is_key}
use Rattle.py_frames.proofs.Making.{empty_dict, holds_made}
use Rattle.py_frames.proofs.MemberHolds.{after_kind}
use Rattle.py_frames.proofs.Raised.{Keeps, Leads, Pushes, raises, goes_one, leads_to, then_holds, after_looks}
use Rattle.py_frames.proofs.Settle.{frame_stays}

-- what the arguments of a call are: those that are there are items
pub record AreItemsGiven (h : Heap) (g : Given) : Type 0 where
  pub args : Every (IsItem h) g.args
  pub values : Every (IsItem h) g.values

pub refer_given : (h : Heap) (g : Given) → AreItemsGiven h g → AreGiven h g
refer_given h g i = record {
  args = every_weaken (IsItem h) (Refers h) (λ v j. j.0) g.args i.args;
  values =
      every_weaken (IsItem h) (Refers h) (λ v j. j.0) g.values i.values;
}

-- ---- instances

pub instance_fits : (rules : Rules) (h : Heap) (a : ℕ) (class dict : Value) → RefTo h Class class → RefTo h Dict dict →
    FitsAt rules h a (new_rec Instance (class ∷ dict ∷ []) [])
instance_fits rules h a class dict c d =
    made_fits rules h a Instance (class ∷ dict ∷ []) [] (λ e. let q : Instance ≡ Class = e in cc)
    (λ e. let q : Instance ≡ Function = e in cc) (λ e. let q : Instance ≡ Cell = e in cc)
    (ref_item h Class class c, (ref_item h Dict dict d, tt)) (c, d) refl (omega arith) (omega arith)

str_key : (o : Option Rec) → KindIn o (λ k. k ≡ Str) → KindIn o (λ k. is_key_kind k ≡ true)
str_key None i = absurd i
str_key (Some r) i = ap is_key_kind i

pair_fits : (rules : Rules) (h : Heap) (a k : ℕ) (x : Value) → RefTo h Str (ref k) → IsItem h x →
    FitsAt rules h a (new_rec Dict (ref k ∷ x ∷ []) [])
pair_fits rules h a k x s i =
    made_fits rules h a Dict (ref k ∷ x ∷ []) [] (λ e. let q : Dict ≡ Class = e in cc)
    (λ e. let q : Dict ≡ Function = e in cc) (λ e. let q : Dict ≡ Cell = e in cc)
    (ref_item h Str (ref k) s, (i, tt)) ((str_key (h k) s, tt), (refl, tt)) refl (omega arith) (omega arith)

made_of : (h : Heap) (x : Value) → RefTo h Instance x → IsMade h x
made_of h (Ref a) i = i
made_of h Unset i = tt
made_of h NoneValue i = absurd i
made_of h (BoolValue b) i = absurd i
made_of h (Int n) i = absurd i
made_of h (Builtin b) i = absurd i

pub every_put : {A : Type 0} (P : A → Type 0) (xs : List A) (k : ℕ) (x : A) → Every P xs → P x →
    Every P (slice_set xs k x)
every_put P [] k x i j = tt
every_put P (y ∷ ys) zero x i j = (j, i.1)
every_put P (y ∷ ys) (suc k) x i j = (i.0, every_put P ys k x i.1 j)

-- the frame of an `__init__` with what it makes
init_fits : (p : Program) (h : Heap) (f : Frame) (x : Value) → IsEntry p f h → RefTo h Instance x →
    IsFrame p h 0 (made_by f x)
init_fits p h f x i j =
    let m = i.0 in
    record {
      is = m.is;
      typing = m.typing;
      typed = m.typed;
      shape = m.shape;
      begun = m.begun;
      blocks = m.blocks;
      slots = length-set f.slots 0 x ∙ m.slots;
      held = every_put (Refers h) f.slots 0 x m.held (ref_item h Instance x j).0;
      stacked = m.stacked;
      names = subst (λ o. HasNames h o x) (sym i.1) (made_of h x j);
      body = m.body;
    }

module _ {S : Type 0} (p : Program) (count roots : ℕ) (stands : Heap → S → Type 0) where
  abbrev Kept : {A : Type 0} → (A → Heap → Type 0) → Row S A → Heap → Type 0
  Kept q row h = Keeps p count roots stands q row h

  -- a record is made last
  ends_made : (q : Value → Heap → Type 0) (r : Rec) (h : Heap) → ((a : ℕ) → FitsAt (rules_of p count) h a r) →
      ((a : ℕ) (h1 : Heap) → h1 a ≡ Some r → q (ref a) h1) → Kept q (made_row r) h
  unfolding made_row
  ends_made q r h fit n =
      let one = fit 0 in
      holds_made (rules_of p count) stands q r (λ a. Ret (ref a)) h one.closed.shaped one.short (λ a u. fit a)
      (λ a h1 order x e item. holds_ret (rules_of p count) stands q (ref a) h1 (n a h1 e))

  abbrev IsMadeOne : Value → Heap → Type 0
  IsMadeOne x h = RefTo h Instance x

  plain_holds : (c : ℕ) (h : Heap) → Context p count roots h → RefTo h Class (ref c) →
      Kept IsMadeOne (plain_instance c) h
  unfolding plain_instance
  plain_holds c h k i =
      after_made p count roots stands IsMadeOne (new_rec Dict [] [])
      (λ d. made_row (new_rec Instance (ref c ∷ d ∷ []) [])) h k (λ a. empty_dict (rules_of p count) h a)
      (λ d h1 k1 x e item.
      ends_made IsMadeOne (new_rec Instance (ref c ∷ ref d ∷ []) []) h1
      (λ a. instance_fits (rules_of p count) h1 a (ref c) (ref d) (ref_stays h h1 x Class (ref c) i)
      (at_ref h1 Dict d (new_rec Dict [] []) e refl))
      (λ a h2 u. at_ref h2 Instance a (new_rec Instance (ref c ∷ ref d ∷ []) []) u refl))

  args_holds : (c : ℕ) (args : List Value) (h : Heap) → Context p count roots h → RefTo h Class (ref c) →
      Every (IsItem h) args → length args ≤ LENGTH_LIMIT → Kept IsMadeOne (args_instance c args) h
  unfolding args_instance args_row dict_of_args
  args_holds c args h k i ia l =
      after_made p count roots stands IsMadeOne (new_rec Str [] (codes "args")) (λ key. args_row (ref c) key args) h k
      (λ a. text_fits (rules_of p count) h a (codes "args") (omega arith))
      (λ s h1 k1 x1 e1 i1.
      let s1 = at_ref h1 Str s (new_rec Str [] (codes "args")) e1 refl in
      after_made p count roots stands IsMadeOne (new_rec Tuple args []) (λ tuple. dict_of_args (ref c) (ref s) tuple)
      h1 k1 (λ a. sequence_fits (rules_of p count) h1 a Tuple args tt (items_stay h h1 x1 args ia) l)
      (λ t h2 k2 x2 e2 i2.
      after_made p count roots stands IsMadeOne (new_rec Dict (ref s ∷ ref t ∷ []) [])
      (λ dict. made_row (new_rec Instance (ref c ∷ dict ∷ []) [])) h2 k2
      (λ a. pair_fits (rules_of p count) h2 a s (ref t) (ref_stays h1 h2 x2 Str (ref s) s1) i2)
      (λ d h3 k3 x3 e3 i3.
      let class3 = ref_stays h2 h3 x3 Class (ref c)
      (ref_stays h1 h2 x2 Class (ref c) (ref_stays h h1 x1 Class (ref c) i)) in
      ends_made IsMadeOne (new_rec Instance (ref c ∷ ref d ∷ []) []) h3
      (λ a. instance_fits (rules_of p count) h3 a (ref c) (ref d) class3
      (at_ref h3 Dict d (new_rec Dict (ref s ∷ ref t ∷ []) []) e3 refl))
      (λ a h4 u. at_ref h4 Instance a (new_rec Instance (ref c ∷ ref d ∷ []) []) u refl))))

  pub new_instance_holds : (c : ℕ) (args : List Value) (b : Bool) (h : Heap) → Context p count roots h →
      RefTo h Class (ref c) → Every (IsItem h) args → Kept (IsGot IsMadeOne) (new_instance c args b) h
  unfolding new_instance instance_of
  new_instance_holds c args b h k i ia = by (leb (length args) LENGTH_LIMIT) refl
    where
      of : (b : Bool) → length args ≤ LENGTH_LIMIT → Kept IsMadeOne (instance_of c args b) h
      of true l = args_holds c args h k i ia l
      of false l = plain_holds c h k i

      by : (w : Bool) → leb (length args) LENGTH_LIMIT ≡ w →
          Kept (IsGot IsMadeOne) (cond w (bind (instance_of c args b) (λ x. Ret (Is x))) (Ret (Raise memory_fault))) h
      by true l =
          then_holds p count roots stands IsMadeOne (IsGot IsMadeOne) (instance_of c args b) (λ x. Ret (Is x)) h k
          (of b (leb-true (length args) LENGTH_LIMIT l))
          (λ x h1 k1 y j. holds_ret (rules_of p count) stands (IsGot IsMadeOne) (Is x) h1 j)
      by false l = holds_ret (rules_of p count) stands (IsGot IsMadeOne) (Raise memory_fault) h (lit< tt, lit< tt, tt)

  -- ---- looks at a class
  -- whether it is below another one
  pub sub_any : (c base : ℕ) (h : Heap) → Context p count roots h → RefTo h Class (ref c) →
      Looks {S = S} (λ b. Unit {0}) (is_sub_row c base) h
  sub_any c base h k i = looks_weaken (λ z. z ≡ is_below h base MOST_BASES (ref c)) (λ b. Unit {0}) (λ z e. tt)
      (is_sub_row c base) h (sub_looks S (rules_of p count) h k.order c base i)

  -- whether it is an exception class
  pub exception_looks : (c : ℕ) (h : Heap) → Context p count roots h → RefTo h Class (ref c) →
      Looks {S = S} (λ b. Unit {0}) (exception_class_row roots c) h
  unfolding exception_class_row
  exception_looks c h k i =
      let r = k.rooted.known in
      looks_then (λ x. Unit {0}) (λ b. Unit {0}) (look_row roots (class_place (class_number (codes "BaseException"))))
      (λ b. is_sub_row c (place_in b)) h
      (looks_weaken (λ x. x ≡ value_at r.list.values (class_place (class_number (codes "BaseException"))))
      (λ x. Unit {0}) (λ x e. tt) (look_row roots (class_place (class_number (codes "BaseException")))) h
      (look_looks S h roots r.list r.here (class_place (class_number (codes "BaseException")))))
      (λ b u. sub_any c (place_in b) h k i)

  -- its `__init__`
  init_looks : (c : ℕ) (o : Option ℕ) (h : Heap) → Context p count roots h → RefTo h Class (ref c) →
      IfSome o (λ n. (first_text ≤ n) × (n < first_cell p)) → Looks {S = S} (λ z. IfItem z h) (init_by roots c o) h
  unfolding init_by
  init_looks c None h k i l = looks_ret S (λ z. IfItem z h) None h tt
  init_looks c (Some n) h k i l =
      let r = k.rooted.known in
      let key = value_at r.list.values n in
      let is_key = text_is_key h key (k.rooted.texts n l.0 l.1) in
      looks_then (λ x. x ≡ key) (λ z. IfItem z h) (look_row roots n) (λ key. inherited_row key (ref c)) h
      (look_looks S h roots r.list r.here n)
      (λ x e. subst (λ w. Looks {S = S} (λ z. IfItem z h) (inherited_row w (ref c)) h) (sym e)
      (looks_weaken (λ z. z ≡ inherited h key MOST_BASES (ref c)) (λ z. IfItem z h)
      (λ z u. subst (λ z. IfItem z h) (sym u)
      (inherited_item (rules_of p count) h k.order key MOST_BASES (ref c) i)) (inherited_row key (ref c)) h
      (inherited_looks S (rules_of p count) h k.order key is_key (ref c) i)))

  text_within : (text : List ℕ) → IfSome (text_number p text) (λ n. (first_text ≤ n) × (n < first_cell p))
  text_within text = by (number_in (texts_of p.roots) text) (number_within (texts_of p.roots) text)
    where
      by : (o : Option ℕ) → IfSome o (λ k. k < length (texts_of p.roots)) →
          IfSome (option_map (λ k. first_text + k) o) (λ n. (first_text ≤ n) × (n < first_cell p))
      by None i = tt
      by (Some k) i = (omega arith, omega (arith, i))

  module _ (right : IsRightProgram p) (e : InstrEffect) (f : Frame) (thread : Option Addr) (depth : ℕ) where
    abbrev Ok : Row S Next → Heap → Type 0
    Ok row h = Leads p count roots stands e f row h

    abbrev site : Site
    site = record { program = p; roots = roots; thread = thread; depth = depth }

    wrong_depth : (h : Heap) → Context p count roots h → Ok (raise_row roots depth_fault) h
    wrong_depth h c = raises p count roots stands e f depth_fault h c (lit< tt, lit< tt, tt)

    wrong_call : (h : Heap) → Context p count roots h → Ok (raise_row roots call_fault) h
    wrong_call h c = raises p count roots stands e f call_fault h c (lit< tt, lit< tt, tt)

    pub entered_holds : (x : Got Frame) (h : Heap) → Context p count roots h → Pushes e → IsGot (IsEntry p) x h →
        Ok (entered_row site x) h
    unfolding entered_row
    entered_holds (Is g) h c t i = by (ltb depth MOST_FRAMES)
      where
        by : (b : Bool) → Ok (cond b (Ret (Enters g)) (raise_row roots depth_fault)) h
        by true = leads_to p count roots stands e f (Enters g) h (t.0, t.1, i.0)
        by false = wrong_depth h c
    entered_holds (Raise fault) h c t i = raises p count roots stands e f fault h c i

    -- ---- a class
    instance_given : (g : Got Value) (h : Heap) → Context p count roots h → Pushes e → IsGot IsMadeOne g h →
        Ok (give roots g) h
    unfolding give
    instance_given (Is x) h c t i = goes_one p count roots stands e f x h t (ref_item h Instance x i).0
    instance_given (Raise fault) h c t i = raises p count roots stands e f fault h c i

    bare_holds : (c : ℕ) (g : Given) (b : Bool) (h : Heap) → Context p count roots h → Pushes e → RefTo h Class (ref c)
        → AreItemsGiven h g → Ok (bare_call site c g b) h
    unfolding bare_call given_instance
    bare_holds c g b h k t i j = by (takes b g)
      where
        by : (w : Bool) → Ok (cond w (bind (new_instance c g.args b) (λ x. give roots x))
            (raise_row roots argument_fault)) h
        by true = then_holds p count roots stands (IsGot IsMadeOne) (Fits p e f) (new_instance c g.args b)
            (λ x. give roots x) h k (new_instance_holds c g.args b h k i j.args)
            (λ x h1 k1 y m. instance_given x h1 k1 t m)
        by false = raises p count roots stands e f argument_fault h k (lit< tt, lit< tt, tt)

    entry_stays : (g : Frame) (h h1 : Heap) → Extends h h1 → IsEntry p g h → IsEntry p g h1
    entry_stays g h h1 x i = (frame_stays p h h1 0 g x i.0, i.1)

    with_holds : (g : Frame) (x : Got Value) (h : Heap) → Context p count roots h → Pushes e → IsEntry p g h →
        IsGot IsMadeOne x h → Ok (with_instance site g x) h
    unfolding with_instance
    with_holds g (Is x) h c t i j = leads_to p count roots stands e f (Enters (made_by g x)) h
        (t.0, t.1, init_fits p h g x i j)
    with_holds g (Raise fault) h c t i j = raises p count roots stands e f fault h c j

    init_entered_holds : (c : ℕ) (g : Given) (b : Bool) (x : Got Frame) (h : Heap) → Context p count roots h →
        Pushes e → RefTo h Class (ref c) → AreItemsGiven h g → IsGot (IsEntry p) x h → Ok (init_entered site c g b x) h
    unfolding init_entered making_row
    init_entered_holds c g b (Is w) h k t i j m = by (ltb depth MOST_FRAMES)
      where
        by : (z : Bool) → Ok (cond z (bind (new_instance c g.args b) (λ x. with_instance site w x))
            (raise_row roots depth_fault)) h
        by true = then_holds p count roots stands (IsGot IsMadeOne) (Fits p e f) (new_instance c g.args b)
            (λ x. with_instance site w x) h k (new_instance_holds c g.args b h k i j.args)
            (λ x h1 k1 y n. with_holds w x h1 k1 t (entry_stays w h h1 y m) n)
        by false = wrong_depth h k
    init_entered_holds c g b (Raise fault) h k t i j m = raises p count roots stands e f fault h k m

    unset_first : (h : Heap) (g : Given) → AreItemsGiven h g → AreGiven h (with_first Unset g)
    unset_first h g i = let r = refer_given h g i in record { args = (tt, r.args); values = r.values }

    record_init_holds : (c : ℕ) (g : Given) (b : Bool) (a : Addr) (q : Kind) (h : Heap) → Context p count roots h →
        Pushes e → RefTo h Class (ref c) → AreItemsGiven h g → RefTo h q (Ref a) → Ok (record_init site c g b a.0 q) h
    unfolding record_init function_init
    record_init_holds c g b a Function h k t i j m =
        after_looks p count roots stands (λ x. IsGot (IsEntry p) x h) (Fits p e f)
        (bound_row p (with_first Unset g) a.0) (λ x. init_entered site c g b x) h k
        (bound_looks S p count roots right (with_first Unset g) a.0 h k m (unset_first h g j))
        (λ x n. init_entered_holds c g b x h k t i j n)
    record_init_holds c g b a Str h k t i j m = wrong_call h k
    record_init_holds c g b a Tuple h k t i j m = wrong_call h k
    record_init_holds c g b a ListKind h k t i j m = wrong_call h k
    record_init_holds c g b a Dict h k t i j m = wrong_call h k
    record_init_holds c g b a Cell h k t i j m = wrong_call h k
    record_init_holds c g b a Class h k t i j m = wrong_call h k
    record_init_holds c g b a Instance h k t i j m = wrong_call h k
    record_init_holds c g b a Method h k t i j m = wrong_call h k
    record_init_holds c g b a Iter h k t i j m = wrong_call h k
    record_init_holds c g b a Range h k t i j m = wrong_call h k
    record_init_holds c g b a Lock h k t i j m = wrong_call h k
    record_init_holds c g b a Thread h k t i j m = wrong_call h k

    value_init_holds : (c : ℕ) (g : Given) (b : Bool) (x : Value) (h : Heap) → Context p count roots h → Pushes e →
        RefTo h Class (ref c) → AreItemsGiven h g → IsItem h x → Ok (value_init site c g b x) h
    unfolding value_init
    value_init_holds c g b (Ref a) h k t i j m =
        after_kind p count roots stands (Fits p e f) a (λ q. record_init site c g b a.0 q) h k m
        (λ q n. record_init_holds c g b a q h k t i j n)
    value_init_holds c g b Unset h k t i j m = wrong_call h k
    value_init_holds c g b NoneValue h k t i j m = wrong_call h k
    value_init_holds c g b (BoolValue w) h k t i j m = wrong_call h k
    value_init_holds c g b (Int n) h k t i j m = wrong_call h k
    value_init_holds c g b (Builtin n) h k t i j m = wrong_call h k

    init_or_holds : (c : ℕ) (g : Given) (o : Option Value) (b : Bool) (h : Heap) → Context p count roots h → Pushes e →
        RefTo h Class (ref c) → AreItemsGiven h g → IfItem o h → Ok (init_or_bare site c g o b) h
    unfolding init_or_bare
    init_or_holds c g (Some x) b h k t i j m = value_init_holds c g b x h k t i j m
    init_or_holds c g None b h k t i j m = bare_holds c g b h k t i j

    pub class_call_holds : (g : Given) (c : ℕ) (h : Heap) → Context p count roots h → Pushes e → RefTo h Class (ref c)
        → AreItemsGiven h g → Ok (class_call site g c) h
    unfolding class_call known_class init_row
    class_call_holds g c h k t i j =
        after_looks p count roots stands (λ z. IfItem z h) (Fits p e f)
        (init_by roots c (text_number p (codes "__init__"))) (λ o. known_class site c g o) h k
        (init_looks c (text_number p (codes "__init__")) h k i (text_within (codes "__init__")))
        (λ o m.
        after_looks p count roots stands (λ b. Unit {0}) (Fits p e f) (exception_class_row roots c)
        (λ b. init_or_bare site c g o b) h k (exception_looks c h k i)
        (λ b u. init_or_holds c g o b h k t i j m))
