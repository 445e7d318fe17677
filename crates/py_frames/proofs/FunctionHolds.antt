-- Functions and classes that are made, frames that are entered, and frames that are left.
use Rattle.std.proofs.Common.{arith, ◌≡◌, ◌≢◌, ℕ, zero, suc, ◌<◌, ◌≤◌, ◌&&◌, Bool, true, false, cond, leb, ltb, List, [], ◌∷◌, length, Option, Some, None, IsTrue, refl, sym, ap, subst, pos, lit<}
use Rattle.std.proofs.lemmas.Bool.{leb-true}
use Rattle.py_base.specs.declared.kind.Kind.{Kind}
use Rattle.py_base.specs.declared.kind.Kind.TheVariants.{Str, Tuple, List as ListKind, Dict, Cell, Function, Class, Instance, Method, Iter, Range, Lock, Thread}
use Rattle.py_data.specs.declared.value.Addr.{Addr}
use Rattle.py_data.specs.declared.value.Value.{Value}
use Rattle.py_data.specs.declared.value.Value.TheVariants.{Unset, None as NoneValue, Bool as BoolValue, Int, Ref, Builtin}
use Rattle.py_data.specs.declared.change.Change.TheVariants as change
use Rattle.py_data.specs.declared.record.TheConstants.{LENGTH_LIMIT}
use Rattle.py_data.specs.Changes.{IsValuePlace}
use Rattle.py_data.specs.Closed.{Refers, IsItem, BasesEnd, base_of}
use Rattle.py_data.specs.Every.{Every}
use Rattle.py_data.specs.Fault.{operand_fault, memory_fault, depth_fault}
use Rattle.py_data.specs.Heap.{Heap, is_tracked, new_rec}
use Rattle.py_data.specs.Order.{Extends, FitsAt, IsOrdered, Rules, MayPut, ThreadPlace}
use Rattle.py_data.specs.Row.{Row, Ret, Do, Edit, bind}
use Rattle.py_data.specs.Shape.{RefTo, HasShape}
use Rattle.py_data.proofs.Holding.{holds_ret}
use Rattle.py_data.proofs.HoldingCalls.{holds_edit}
use Rattle.py_data.proofs.ItemLemmas.{items_stay}
use Rattle.py_data.proofs.Keep.{ref_stays, refers_stays}
use Rattle.py_data.proofs.Making.{text_fits, sequence_fits}
use Rattle.py_code.specs.declared.program.Program.{Program}
use Rattle.py_code.specs.Effects.{Effect as InstrEffect}
use Rattle.py_code.specs.Right.{IsRightProgram, first_place, is_body}
use Rattle.obj_class.specs.Bases.{ref}
use Rattle.obj_class.specs.Exceptions.{made_row}
use Rattle.obj_class.proofs.Parts.{is_at, some_class}
use Rattle.py_frames.specs.declared.state.Frame.{Frame}
use Rattle.py_frames.specs.declared.next.Next.{Next}
use Rattle.py_frames.specs.declared.next.Next.TheVariants.{Goes, Enters, Leaves}
use Rattle.py_frames.specs.Binding.{entered, unset_slots}
use Rattle.py_frames.specs.ClassCalls.{Site, MOST_FRAMES}
use Rattle.py_frames.specs.Fits.{IsThrough, Fits}
use Rattle.py_frames.specs.FunctionRows.{function_of, named_function, new_function, make_function_row, body_frame, new_body, body_by, class_body_row, ended_row, leave_row, class_of, new_class, class_row, instance_row, value_or_instance, return_by}
use Rattle.py_frames.specs.Raising.{raise_row, fail_row, base_fault}
use Rattle.py_frames.specs.Sound.{rules_of, IsFrame, HasNames, IsMade, IsThread}
use Rattle.py_frames.specs.State.{code_at}
use Rattle.py_frames.proofs.BuildHolds.{after_made}
use Rattle.py_frames.proofs.Given.{Context, context_stays, at_ref, ref_item, right_at}
use Rattle.py_frames.proofs.Making.{empty_dict}
use Rattle.py_frames.proofs.MemberHolds.{after_kind}
use Rattle.py_frames.proofs.Raised.{Keeps, Leads, Pushes, raises, fails, goes_one, leads_to, then_holds}

-- ---- a frame at the start of a code

-- a frame is entered, and it leaves one value
abbrev pub EntersOne : InstrEffect → Type 0
EntersOne e = IsThrough e.flow × (e.pushes ≡ 1)

first_low : (n : ℕ) → 0 < n → first_place n ≤ 0
first_low zero l = absurd (omega (arith, l))
first_low (suc n) l = omega arith

pub started_fits : (p : Program) (h : Heap) (n : ℕ) (slots : List Value) (made : Value) (names : Option Addr) →
    IsRightProgram p → n < length p.codes → 0 < n → length slots ≡ length (code_at p n).slots → Every (Refers h) slots
    → HasNames h names made → (IsTrue (is_body p.codes n) → names ≢ None) →
    IsFrame p h 0 (record (entered n slots) { made = made; names = names })
started_fits p h n slots made names right l some long held is body =
    let code = right_at p n right l in
    record {
      is = l;
      typing = code.typed.0;
      typed = code.typed.1;
      shape = code.typed.1.starts;
      begun = first_low n some;
      blocks = tt;
      slots = long;
      held = held;
      stacked = tt;
      names = is;
      body = body;
    }

pub unset_held : (h : Heap) (n : ℕ) → Every (Refers h) (unset_slots n)
unset_held h zero = tt
unset_held h (suc n) = (tt, unset_held h n)

pub unset_long : (n : ℕ) → length (unset_slots n) ≡ n
unset_long zero = refl
unset_long (suc n) = ap suc (unset_long n)

-- ---- records

-- from a class on the bases end
pub base_ends : (rules : Rules) (h : Heap) (base : Value) → IsOrdered rules h → RefTo h Class base →
    (n : ℕ) × BasesEnd h n base
base_ends rules h (Ref a) order i =
    let t = is_at h Class a.0 i in
    let b = (order.each a.0 t.rec t.here).closed.bases t.kind in
    (suc b.0, subst (λ o. BasesEnd h b.0 (base_of o)) (sym t.here) b.1)
base_ends rules h Unset order i = absurd i
base_ends rules h NoneValue order i = absurd i
base_ends rules h (BoolValue b) order i = absurd i
base_ends rules h (Int n) order i = absurd i
base_ends rules h (Builtin b) order i = absurd i

class_fits : (rules : Rules) (h : Heap) (a : ℕ) (name base dict : Value) → IsOrdered rules h → RefTo h Str name →
    RefTo h Class base → RefTo h Dict dict → FitsAt rules h a (new_rec Class (name ∷ base ∷ dict ∷ []) [])
class_fits rules h a name base dict order s b d =
    let i = ref_item h Str name s in
    let j = ref_item h Class base b in
    let k = ref_item h Dict dict d in
    record {
      closed = record {
        refers = (i.0, (j.0, (k.0, tt)));
        shaped =
            ((s, some_class h base b, d), refl, (i.1, (j.1, (k.1, tt))));
        bases = λ e. base_ends rules h base order b;
      };
      short = (omega arith, omega arith);
      function = λ e. absurd (let q : Class ≡ Function = e in cc);
      cell = λ e. absurd (let q : Class ≡ Cell = e in cc);
    }

module _ {S : Type 0} (p : Program) (count roots : ℕ) (stands : Heap → S → Type 0) where
  abbrev Kept : {A : Type 0} → (A → Heap → Type 0) → Row S A → Heap → Type 0
  Kept q row h = Keeps p count roots stands q row h

  function_fits : (h : Heap) (a n u : ℕ) (name : Value) (defaults : List Value) → RefTo h Str name →
      h u ≡ Some (new_rec Tuple defaults []) → n < length p.codes → 0 < n → is_body p.codes n ≡ false →
      length defaults ≤ (code_at p n).params
      → FitsAt (rules_of p count) h a (new_rec Function (name ∷ Int (pos n) ∷ ref u ∷ []) [])
  unfolding rules_of
  function_fits h a n u name defaults s t l some none few =
      let i = ref_item h Str name s in
      let d = at_ref h Tuple u (new_rec Tuple defaults []) t refl in
      let j = ref_item h Tuple (ref u) d in
      record {
        closed = record {
          refers = (i.0, (tt, (j.0, tt)));
          shaped = ((s, tt, d), refl, (i.1, ((λ e. cc), (j.1, tt))));
          bases = λ e. absurd (let q : Function ≡ Class = e in cc);
        };
        short = (omega arith, omega arith);
        function = λ e. record {
          name = name;
          number = n;
          defaults = record { 0 = u };
          is = refl;
          there = l;
          some =
              some;
          none = none;
          tuple = new_rec Tuple defaults [];
          here = t;
          kind = refl;
          few = few;
        };
        cell = λ e. absurd (let q : Function ≡ Cell = e in cc);
      }

  -- ---- the Thread record is marked as ended
  thread_long : (h : Heap) (vs : List Value) → HasShape h Thread vs → 3 < length vs
  thread_long h [] s = absurd s
  thread_long h (a ∷ []) s = absurd s
  thread_long h (a ∷ b ∷ []) s = absurd s
  thread_long h (a ∷ b ∷ c ∷ []) s = absurd s
  thread_long h (a ∷ b ∷ c ∷ d ∷ []) s = omega arith
  thread_long h (a ∷ b ∷ c ∷ d ∷ z ∷ vs) s = absurd s

  -- a value is set in a Thread record
  pub thread_set : {A : Type 0} (q : A → Heap → Type 0) (t : Addr) (i : ℕ) (x : Value) (k : Unit {0} → Row S A)
      (h : Heap) → Context p count roots h → RefTo h Thread (Ref t) → i < 4 → ThreadPlace h i x
      → ((h1 : Heap) → Context p count roots h1 → Extends h h1 → Kept q (k tt) h1) →
      Kept q (Do (Edit t.0 (change.Set i x)) k) h
  thread_set q t i x k h c s l put n =
      let r = is_at h Thread t.0 s in
      let shape : HasShape h Thread r.rec.values =
      subst (λ z. HasShape h z r.rec.values) r.kind (c.order.each t.0 r.rec r.here).closed.shaped.0 in
      holds_edit (rules_of p count) stands q t.0 (change.Set i x) k h r.rec c.order r.here
      (ap is_tracked r.kind, (let m = thread_long h r.rec.values shape in omega (arith, m, l)))
      (subst (λ z. IsValuePlace z i) (sym r.kind) tt)
      (subst (λ z. MayPut (rules_of p count) h t.0 z i x) (sym r.kind) put)
      (λ h1 order1 y e. n h1 (context_stays p count roots h h1 y order1 c) y)

  pub ended_holds : (thread : Option Addr) (h : Heap) → Context p count roots h → IsThread h thread →
      Kept (λ u h. Unit {0}) (ended_row thread) h
  unfolding ended_row
  ended_holds None h c i = holds_ret (rules_of p count) stands (λ u h. Unit {0}) tt h tt
  ended_holds (Some t) h c i = thread_set (λ u h. Unit {0}) t 3 (BoolValue true) (λ _. Ret tt) h c i (lit< tt) tt
      (λ h1 c1 x. holds_ret (rules_of p count) stands (λ u h. Unit {0}) tt h1 tt)

  module _ (right : IsRightProgram p) (e : InstrEffect) (f : Frame) where
    abbrev Ok : Row S Next → Heap → Type 0
    Ok row h = Leads p count roots stands e f row h

    -- ---- MAKE_FUNCTION
    new_function_holds : (name : List ℕ) (n : ℕ) (defaults : List Value) (h : Heap) → Context p count roots h →
        Pushes e → Every (IsItem h) defaults → length name ≤ LENGTH_LIMIT → length defaults ≤ LENGTH_LIMIT
        → n < length p.codes → 0 < n → is_body p.codes n ≡ false → length defaults ≤ (code_at p n).params →
        Ok (new_function name n defaults) h
    unfolding new_function named_function function_of
    new_function_holds name n defaults h c t i a b l some none few =
        after_made p count roots stands (Fits p e f) (new_rec Str [] name) (λ a. named_function n defaults a) h c
        (λ z. text_fits (rules_of p count) h z name a)
        (λ s h1 c1 x1 r1 i1.
        after_made p count roots stands (Fits p e f) (new_rec Tuple defaults []) (λ d. function_of n (ref s) d) h1 c1
        (λ z. sequence_fits (rules_of p count) h1 z Tuple defaults tt (items_stay h h1 x1 defaults i) b)
        (λ u h2 c2 x2 r2 i2.
        after_made p count roots stands (Fits p e f) (new_rec Function (ref s ∷ Int (pos n) ∷ ref u ∷ []) [])
        (λ z. Ret (Goes (z ∷ []))) h2 c2
        (λ z. function_fits h2 z n u (ref s) defaults
        (ref_stays h1 h2 x2 Str (ref s) (at_ref h1 Str s (new_rec Str [] name) r1 refl)) r2 l some none few)
        (λ z h3 c3 x3 r3 i3. goes_one p count roots stands e f (ref z) h3 t i3.0)))

    pub make_function_holds : (name : List ℕ) (n : ℕ) (defaults : List Value) (h : Heap) → Context p count roots h →
        Pushes e → Every (IsItem h) defaults → n < length p.codes → 0 < n → is_body p.codes n ≡ false →
        length defaults ≤ (code_at p n).params
        → Ok (make_function_row roots name n defaults) h
    unfolding make_function_row
    make_function_holds name n defaults h c t i l some none few =
        by (leb (length name) LENGTH_LIMIT) (leb (length defaults) LENGTH_LIMIT) refl refl
      where
        by : (x y : Bool) → leb (length name) LENGTH_LIMIT ≡ x → leb (length defaults) LENGTH_LIMIT ≡ y →
            Ok (cond (x && y) (new_function name n defaults) (raise_row roots memory_fault)) h
        by true true u w = new_function_holds name n defaults h c t i (leb-true (length name) LENGTH_LIMIT u)
            (leb-true (length defaults) LENGTH_LIMIT w) l some none few
        by true false u w = raises p count roots stands e f memory_fault h c (lit< tt, lit< tt, tt)
        by false y u w = raises p count roots stands e f memory_fault h c (lit< tt, lit< tt, tt)

    -- ---- CLASS_BODY
    new_body_holds : (n : ℕ) (base : Value) (h : Heap) → Context p count roots h → Pushes e → RefTo h Class base →
        n < length p.codes → 0 < n → Ok (new_body n (length (code_at p n).slots) base) h
    unfolding new_body
    new_body_holds n base h c t b l some =
        let slots = unset_slots (length (code_at p n).slots) in
        after_made p count roots stands (Fits p e f) (new_rec Dict [] [])
        (λ d. Ret (Enters (body_frame n (length (code_at p n).slots) base d))) h c
        (λ a. empty_dict (rules_of p count) h a)
        (λ d h1 c1 x r i.
        leads_to p count roots stands e f (Enters (body_frame n (length (code_at p n).slots) base (ref d))) h1 (
          t.0,
          t.1,
          started_fits p h1 n slots base (Some (record { 0 = d })) right l some
              (unset_long (length (code_at p n).slots)) (unset_held h1 (length (code_at p n).slots))
              (at_ref h1 Dict d (new_rec Dict [] []) r refl, ref_stays h h1 x Class base b)
              (λ u q. let z : Some (record { 0 = d }) ≡ None = q in cc),
        ))

    wrong_base : (h : Heap) → Context p count roots h → Ok (raise_row roots base_fault) h
    wrong_base h c = raises p count roots stands e f base_fault h c (lit< tt, lit< tt, tt)

    module _ (thread : Option Addr) (depth : ℕ) where
      abbrev site : Site
      site = record { program = p; roots = roots; thread = thread; depth = depth }

      body_by_holds : (n : ℕ) (base : Value) (k : Kind) (h : Heap) → Context p count roots h → Pushes e →
          RefTo h k base → n < length p.codes → 0 < n → Ok (body_by site n base k) h
      unfolding body_by
      body_by_holds n base Class h c t b l some = by (ltb depth MOST_FRAMES)
        where
          by : (w : Bool) → Ok (cond w (new_body n (length (code_at p n).slots) base) (raise_row roots depth_fault)) h
          by true = new_body_holds n base h c t b l some
          by false = raises p count roots stands e f depth_fault h c (lit< tt, lit< tt, tt)
      body_by_holds n base Str h c t b l some = wrong_base h c
      body_by_holds n base Tuple h c t b l some = wrong_base h c
      body_by_holds n base ListKind h c t b l some = wrong_base h c
      body_by_holds n base Dict h c t b l some = wrong_base h c
      body_by_holds n base Cell h c t b l some = wrong_base h c
      body_by_holds n base Function h c t b l some = wrong_base h c
      body_by_holds n base Instance h c t b l some = wrong_base h c
      body_by_holds n base Method h c t b l some = wrong_base h c
      body_by_holds n base Iter h c t b l some = wrong_base h c
      body_by_holds n base Range h c t b l some = wrong_base h c
      body_by_holds n base Lock h c t b l some = wrong_base h c
      body_by_holds n base Thread h c t b l some = wrong_base h c

      pub class_body_holds : (n : ℕ) (base : Value) (h : Heap) → Context p count roots h → Pushes e → IsItem h base →
          n < length p.codes → 0 < n → Ok (class_body_row site n base) h
      unfolding class_body_row
      class_body_holds n (Ref a) h c t i l some =
          after_kind p count roots stands (Fits p e f) a (λ k. body_by site n (Ref a) k) h c i
          (λ k b. body_by_holds n (Ref a) k h c t b l some)
      class_body_holds n Unset h c t i l some = wrong_base h c
      class_body_holds n NoneValue h c t i l some = wrong_base h c
      class_body_holds n (BoolValue b) h c t i l some = wrong_base h c
      class_body_holds n (Int m) h c t i l some = wrong_base h c
      class_body_holds n (Builtin b) h c t i l some = wrong_base h c

    -- ---- RETURN
    leave_holds : (thread : Option Addr) (depth : ℕ) (x : Value) (h : Heap) → Context p count roots h →
        IsThread h thread → Refers h x → Ok (leave_row thread depth x) h
    unfolding leave_row
    leave_holds thread zero x h c i v =
        then_holds p count roots stands (λ u h. Unit {0}) (Fits p e f) (ended_row thread) (λ _. Ret (Leaves x)) h c
        (ended_holds thread h c i) (λ u h1 c1 y j.
        leads_to p count roots stands e f (Leaves x) h1 (refers_stays h h1 y x v))
    leave_holds thread (suc depth) x h c i v = leads_to p count roots stands e f (Leaves x) h v

    class_holds : (name : List ℕ) (base : Value) (dict : Addr) (h : Heap) → Context p count roots h →
        RefTo h Class base → RefTo h Dict (Ref dict) → Ok (class_row roots name base dict) h
    unfolding class_row new_class class_of
    class_holds name base dict h c b d = by (leb (length name) LENGTH_LIMIT) refl
      where
        by : (w : Bool) → leb (length name) LENGTH_LIMIT ≡ w →
            Ok (cond w (bind (made_row (new_rec Str [] name)) (λ a. class_of base dict a))
            (fail_row roots memory_fault)) h
        by true l =
            after_made p count roots stands (Fits p e f) (new_rec Str [] name) (λ a. class_of base dict a) h c
            (λ z. text_fits (rules_of p count) h z name (leb-true (length name) LENGTH_LIMIT l))
            (λ s h1 c1 x1 r1 i1.
            after_made p count roots stands (Fits p e f) (new_rec Class (ref s ∷ base ∷ Ref dict ∷ []) [])
            (λ z. Ret (Leaves z)) h1 c1
            (λ z. class_fits (rules_of p count) h1 z (ref s) base (Ref dict) c1.order
            (at_ref h1 Str s (new_rec Str [] name) r1 refl) (ref_stays h h1 x1 Class base b)
            (ref_stays h h1 x1 Dict (Ref dict) d))
            (λ z h2 c2 x2 r2 i2. leads_to p count roots stands e f (Leaves (ref z)) h2 i2.0))
        by false l = fails p count roots stands e f memory_fault h c (lit< tt, lit< tt, tt)

    instance_holds : (made x : Value) (h : Heap) → Context p count roots h → Refers h made →
        Ok (instance_row roots made x) h
    unfolding instance_row
    instance_holds made NoneValue h c i = leads_to p count roots stands e f (Leaves made) h i
    instance_holds made Unset h c i = raises p count roots stands e f operand_fault h c (lit< tt, lit< tt, tt)
    instance_holds made (BoolValue b) h c i = raises p count roots stands e f operand_fault h c (lit< tt, lit< tt, tt)
    instance_holds made (Int n) h c i = raises p count roots stands e f operand_fault h c (lit< tt, lit< tt, tt)
    instance_holds made (Ref a) h c i = raises p count roots stands e f operand_fault h c (lit< tt, lit< tt, tt)
    instance_holds made (Builtin b) h c i = raises p count roots stands e f operand_fault h c (lit< tt, lit< tt, tt)

    value_holds : (thread : Option Addr) (depth : ℕ) (x made : Value) (h : Heap) → Context p count roots h →
        IsThread h thread → Refers h x → IsMade h made → Ok (value_or_instance roots thread depth x made) h
    unfolding value_or_instance
    value_holds thread depth x Unset h c i v m = leave_holds thread depth x h c i v
    value_holds thread depth x (Ref a) h c i v m = instance_holds (Ref a) x h c (ref_item h Instance (Ref a) m).0
    value_holds thread depth x NoneValue h c i v m = absurd m
    value_holds thread depth x (BoolValue b) h c i v m = absurd m
    value_holds thread depth x (Int n) h c i v m = absurd m
    value_holds thread depth x (Builtin b) h c i v m = absurd m

    pub return_holds : (thread : Option Addr) (name : List ℕ) (depth : ℕ) (x made : Value) (names : Option Addr)
        (h : Heap) → Context p count roots h → IsThread h thread → Refers h x → HasNames h names made →
        Ok (return_by roots thread name depth x made names) h
    unfolding return_by
    return_holds thread name depth x made (Some d) h c i v m = class_holds name made d h c m.1 m.0
    return_holds thread name depth x made None h c i v m = value_holds thread depth x made h c i v m
