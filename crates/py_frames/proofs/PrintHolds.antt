-- What writes: PRINT_ITEM, PRINT_NEWLINE, and the last step of a thread that dies.
use Rattle.std.proofs.Common.{◌≡◌, ℕ, Bool, false, List, [], ◌∷◌, Option, sym, subst}
use Rattle.py_base.specs.declared.kind.Kind.TheVariants.{Str, Class, Instance}
use Rattle.py_data.specs.declared.value.Addr.{Addr}
use Rattle.py_data.specs.declared.value.Value.{Value}
use Rattle.py_data.specs.declared.record.Got.{Got}
use Rattle.py_data.specs.declared.record.Got.TheVariants.{Is, Raise}
use Rattle.py_data.specs.declared.stop.Out.{Out}
use Rattle.py_data.specs.declared.stop.Out.TheVariants.{Output, ErrorOutput}
use Rattle.py_data.specs.Answers.{IsGot}
use Rattle.py_data.specs.Closed.{IsItem}
use Rattle.py_data.specs.Heap.{Heap, value_at}
use Rattle.py_data.specs.Looking.{Looks, look_row, bytes_row}
use Rattle.py_data.specs.Order.{Extends}
use Rattle.py_data.specs.Row.{Row, Ret, Do, Put, MidLine, SetMidLine}
use Rattle.py_data.specs.Sense.{Asks}
use Rattle.py_data.specs.Shape.{RefTo, HasShape}
use Rattle.py_data.proofs.Holding.{holds_do}
use Rattle.py_data.proofs.Looking.{looks_then, looks_weaken, look_looks, bytes_looks}
use Rattle.py_code.specs.declared.program.Program.{Program}
use Rattle.py_code.specs.Effects.{Effect as InstrEffect}
use Rattle.obj_class.specs.Bases.{ref}
use Rattle.obj_class.proofs.Parts.{is_at, of_instance_at}
use Rattle.obj_class.specs.Telling.{told_row}
use Rattle.obj_ops.proofs.Nested.{IsAny, text_looks}
use Rattle.py_frames.specs.declared.state.Dying.{Dying}
use Rattle.py_frames.specs.declared.state.Frame.{Frame}
use Rattle.py_frames.specs.declared.next.Next.{Next}
use Rattle.py_frames.specs.declared.next.Next.TheVariants.{Goes}
use Rattle.py_frames.specs.Fits.{Fits}
use Rattle.py_frames.specs.FunctionRows.{ended_row}
use Rattle.py_frames.specs.PrintRows.{spaced, stays_mid, put_row, written_row, write_or_raise, print_item_row, print_newline_row, error_line, name_of_class, class_name_row, last_words, named_words, dying_row}
use Rattle.py_frames.specs.Raising.{place_in}
use Rattle.py_frames.specs.Sound.{IsThread, rules_of}
use Rattle.py_frames.proofs.FunctionHolds.{ended_holds}
use Rattle.py_frames.proofs.Given.{Context, context_stays, ref_at, ref_item}
use Rattle.py_frames.proofs.Raised.{Keeps, Leads, Passes, raises, goes_on, after_looks}
use Rattle.py_frames.proofs.Settle.{thread_stays}

class_name : (h : Heap) (vs : List Value) → HasShape h Class vs → RefTo h Str (value_at vs 0)
class_name h [] s = absurd s
class_name h (a ∷ []) s = absurd s
class_name h (a ∷ b ∷ []) s = absurd s
class_name h (a ∷ b ∷ c ∷ []) s = s.0
class_name h (a ∷ b ∷ c ∷ d ∷ vs) s = absurd s

-- the answer of a text is nothing, or an exception that can be made
abbrev pub IsText : Got (List ℕ) → Heap → Type 0
IsText = IsGot IsAny

module _ {S : Type 0} (p : Program) (count roots : ℕ) (stands : Heap → S → Type 0) where
  abbrev Kept : {A : Type 0} → (A → Heap → Type 0) → Row S A → Heap → Type 0
  Kept q row h = Keeps p count roots stands q row h

  -- something is written, or the flag is asked or set; the heap stays
  put_then : {A : Type 0} (q : A → Heap → Type 0) (on : Out) (t : List ℕ) (k : Unit {0} → Row S A) (h : Heap) →
      Context p count roots h → ((h1 : Heap) → Context p count roots h1 → Extends h h1 → Kept q (k tt) h1) →
      Kept q (Do (Put on t) k) h
  unfolding Asks
  put_then q on t k h c n = holds_do (rules_of p count) stands q (Put on t) k h tt tt
      (λ u h1 d order x. n h1 (context_stays p count roots h h1 x order c) x)

  flag_then : {A : Type 0} (q : A → Heap → Type 0) (mid : Bool) (k : Unit {0} → Row S A) (h : Heap) →
      Context p count roots h → ((h1 : Heap) → Context p count roots h1 → Extends h h1 → Kept q (k tt) h1) →
      Kept q (Do (SetMidLine mid) k) h
  unfolding Asks
  flag_then q mid k h c n = holds_do (rules_of p count) stands q (SetMidLine mid) k h tt tt
      (λ u h1 d order x. n h1 (context_stays p count roots h h1 x order c) x)

  mid_then : {A : Type 0} (q : A → Heap → Type 0) (k : Bool → Row S A) (h : Heap) → Context p count roots h →
      ((b : Bool) (h1 : Heap) → Context p count roots h1 → Extends h h1 → Kept q (k b) h1) → Kept q (Do MidLine k) h
  unfolding Asks
  mid_then q k h c n = holds_do (rules_of p count) stands q MidLine k h tt tt
      (λ b h1 d order x. n b h1 (context_stays p count roots h h1 x order c) x)

  -- ---- PRINT
  module _ (e : InstrEffect) (f : Frame) where
    abbrev Ok : Row S Next → Heap → Type 0
    Ok row h = Leads p count roots stands e f row h

    put_holds : (t : List ℕ) (mid : Bool) (h : Heap) → Context p count roots h → Passes e → Ok (put_row t mid) h
    unfolding put_row
    put_holds t mid h c m =
        put_then (Fits p e f) Output (spaced mid t) (λ _. Do (SetMidLine (stays_mid t)) (λ _. Ret (Goes []))) h c
        (λ h1 c1 x1. flag_then (Fits p e f) (stays_mid t) (λ _. Ret (Goes [])) h1 c1
        (λ h2 c2 x2. goes_on p count roots stands e f h2 m))

    written_holds : (g : Got (List ℕ)) (h : Heap) → Context p count roots h → Passes e → IsText g h →
        Ok (write_or_raise roots g) h
    unfolding write_or_raise written_row
    written_holds (Is t) h c m i = mid_then (Fits p e f) (λ mid. put_row t mid) h c (λ b h1 c1 x. put_holds t b h1 c1 m)
    written_holds (Raise fault) h c m i = raises p count roots stands e f fault h c i

    pub print_newline_holds : (h : Heap) → Context p count roots h → Passes e → Ok print_newline_row h
    unfolding print_newline_row
    print_newline_holds h c m =
        put_then (Fits p e f) Output (10 ∷ []) (λ _. Do (SetMidLine false) (λ _. Ret (Goes []))) h c
        (λ h1 c1 x1. flag_then (Fits p e f) false (λ _. Ret (Goes [])) h1 c1
        (λ h2 c2 x2. goes_on p count roots stands e f h2 m))

    pub print_item_holds : (x : Value) (h : Heap) → Context p count roots h → Passes e → IsItem h x →
        Ok (print_item_row roots x) h
    unfolding print_item_row
    print_item_holds x h c m i =
        after_looks p count roots stands (λ z. IsText z h) (Fits p e f) (told_row roots x false)
        (λ g. write_or_raise roots g) h c
        (text_looks S (rules_of p count) h c.order roots c.rooted.known x false i) (λ g j. written_holds g h c m j)

  -- ---- the last words
  name_looks : (a : ℕ) (h : Heap) → Context p count roots h → RefTo h Instance (ref a) →
      Looks {S = S} (λ t. Unit {0}) (class_name_row a) h
  unfolding class_name_row name_of_class
  name_looks a h c i =
      let t = is_at h Instance a i in
      let class = ref_at h Class (value_at t.rec.values 0) (of_instance_at (rules_of p count) h c.order a t).0 in
      let k = is_at h Class (place_in (value_at t.rec.values 0)) class in
      let shape : HasShape h Class k.rec.values =
      subst (λ z. HasShape h z k.rec.values) k.kind
      (c.order.each (place_in (value_at t.rec.values 0)) k.rec k.here).closed.shaped.0 in
      let s = is_at h Str (place_in (value_at k.rec.values 0))
      (ref_at h Str (value_at k.rec.values 0) (class_name h k.rec.values shape)) in
      looks_then (λ x. x ≡ value_at t.rec.values 0) (λ t. Unit {0}) (look_row a 0) (λ c. name_of_class (place_in c)) h
      (look_looks S h a t.rec t.here 0)
      (λ x e.
      subst (λ z. Looks {S = S} (λ t. Unit {0}) (name_of_class (place_in z)) h) (sym e)
      (looks_then (λ y. y ≡ value_at k.rec.values 0) (λ t. Unit {0}) (look_row (place_in (value_at t.rec.values 0)) 0)
      (λ name. bytes_row (place_in name)) h (look_looks S h (place_in (value_at t.rec.values 0)) k.rec k.here 0)
      (λ y u.
      subst (λ z. Looks {S = S} (λ t. Unit {0}) (bytes_row (place_in z)) h) (sym u)
      (looks_weaken (λ bs. bs ≡ s.rec.bytes) (λ t. Unit {0}) (λ bs w. tt)
      (bytes_row (place_in (value_at k.rec.values 0))) h
      (bytes_looks S h (place_in (value_at k.rec.values 0)) s.rec s.here)))))

  pub dying_holds : (number : ℕ) (thread : Option Addr) (d : Dying) (h : Heap) → Context p count roots h →
      IsThread h thread → RefTo h Instance d.exc → Kept (λ u h. Unit {0}) (dying_row roots number thread d) h
  unfolding dying_row named_words last_words
  dying_holds number thread d h c i j =
      let q : Unit {0} → Heap → Type 0 = λ u h. Unit {0} in
      after_looks p count roots stands (λ t. Unit {0}) q (class_name_row (place_in d.exc))
      (λ name. named_words roots number thread d name) h c
      (name_looks (place_in d.exc) h c (ref_at h Instance d.exc j))
      (λ name u.
      after_looks p count roots stands (λ z. IsText z h) q (told_row roots d.exc false)
      (λ text. last_words number d.line thread name text) h c
      (text_looks S (rules_of p count) h c.order roots c.rooted.known d.exc false (ref_item h Instance d.exc j))
      (λ text m.
      put_then q ErrorOutput (error_line number d.line name text) (λ _. ended_row thread) h c
      (λ h1 c1 x. ended_holds p count roots stands thread h1 c1 (thread_stays h h1 thread x i))))
