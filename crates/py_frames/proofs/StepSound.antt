-- A step of a thread that may stand over a heap has what its calls need, and leaves a thread that may.
use Rattle.std.proofs.Common.{arith, ◌≡◌, ℕ, zero, suc, ◌+◌, ◌-◌, ◌<◌, Bool, true, false, cond, List, [], ◌∷◌, length, Option, Some, None, refl, sym, ap, subst, ◌∙◌, lit<}
use Rattle.py_data.specs.declared.value.Addr.{Addr}
use Rattle.py_data.specs.declared.value.Value.{Value}
use Rattle.py_data.specs.Closed.{Refers}
use Rattle.py_data.specs.Every.{Every}
use Rattle.py_data.specs.Fault.{operand_fault}
use Rattle.py_data.specs.Heap.{Heap}
use Rattle.py_data.specs.Row.{Row, Ret}
use Rattle.py_data.specs.Shape.{RefTo}
use Rattle.py_data.proofs.Holding.{holds_ret}
use Rattle.py_code.specs.declared.instr.Instr.{Instr}
use Rattle.py_code.specs.declared.instr.Instr.TheVariants.{Pop, Dup, Rot2, Dup2, Rot3, CallMethod}
use Rattle.py_code.specs.declared.program.Program.{Program}
use Rattle.py_code.specs.Effects.{Sh, Effect as InstrEffect, effect}
use Rattle.py_code.specs.Right.{IsRightProgram}
use Rattle.py_code.specs.Typing.{shape_at, RightAt}
use Rattle.lock_run.specs.declared.client.Outcome.{Outcome}
use Rattle.lock_run.specs.declared.client.Outcome.TheVariants.{Ended}
use Rattle.lock_run.specs.declared.client.Life.TheVariants.{Lives, Failed, Ended as HasEnded}
use Rattle.py_frames.specs.declared.state.Dying.{Dying}
use Rattle.py_frames.specs.declared.state.Frame.{Frame}
use Rattle.py_frames.specs.declared.next.Next.{Next}
use Rattle.py_frames.specs.declared.next.Next.TheVariants.{Goes, Jumps, Stores, Opens, Closes, Enters, Leaves, Fails, Begins, Throws, Waits}
use Rattle.py_frames.specs.Fits.{Fits}
use Rattle.py_frames.specs.PrintRows.{dying_row}
use Rattle.py_frames.specs.Raising.{place_of, raise_row}
use Rattle.py_frames.specs.Sound.{heights, IsFrame, AreFrames, IsThread, CanGoOn, IsState, rules_of}
use Rattle.py_frames.specs.State.{State, code_at, limits, instr_at, line_at, pops, operands, life_by, life_of, unwound, with_frames, thrown_to, returned, settled}
use Rattle.py_frames.specs.Steps.{wanted, has_unset, instr_row, guarded_row, site_of, step_at, step_by, step_row}
use Rattle.py_frames.proofs.Given.{Context, at_within}
use Rattle.py_frames.proofs.PrintHolds.{dying_holds}
use Rattle.py_frames.proofs.Raised.{Keeps, raises, then_holds}
use Rattle.py_frames.proofs.Settle.{every_drop, frame_stays, frames_stay, state_stays, settled_fits}
use Rattle.py_frames.proofs.StepHolds.{Found, To, are_items, second_refers, instr_holds}

wanted_refers : (P : Value → Type 0) (i : Instr) (xs : List Value) → Every P xs → Every P (wanted i xs)
wanted_refers P Pop xs e = tt
wanted_refers P Dup xs e = tt
wanted_refers P Rot2 xs e = tt
wanted_refers P Dup2 xs e = tt
wanted_refers P Rot3 xs e = tt
wanted_refers P (CallMethod m l) xs e = second_refers P xs e
wanted_refers P _ xs e = e

shape_within : (t : List (Option Sh)) (k : ℕ) (s : Sh) → shape_at t k ≡ Some s → k < length t
shape_within [] k s e = absurd (let q : ◌≡◌ {A = Option Sh} None (Some s) = e in cc)
shape_within (x ∷ t) zero s e = omega arith
shape_within (x ∷ t) (suc k) s e = let l = shape_within t k s e in omega (arith, l)

-- an instruction stands at the place of a frame that fits
pub instr_there : (p : Program) (h : Heap) (extra : ℕ) (f : Frame) → IsFrame p h extra f →
    (i : Instr) × (instr_at p f ≡ Some i)
instr_there p h extra f i =
    let l = shape_within i.typing f.pc (record { height = length f.stack + extra; blocks = heights f.blocks }) i.shape
    in
    let long = i.typed.long in
    at_within (code_at p f.code).instrs f.pc (omega (arith, l, long))

pub right_here : (p : Program) (h : Heap) (f : Frame) (i : Instr) (z : IsFrame p h 0 f) → instr_at p f ≡ Some i →
    RightAt (limits p f) z.typing f.pc i (record { height = length f.stack + 0; blocks = heights f.blocks })
right_here p h f i z at = z.typed.each f.pc i (record { height = length f.stack + 0; blocks = heights f.blocks }) at
    z.shape

-- what an instruction leads to leaves the roots and the Thread record
thrown_same : (s : State) (x : Value) (line : ℕ) (fs : List Frame) → let t = thrown_to s x line fs in
    (t.roots ≡ s.roots) × (t.thread ≡ s.thread)
thrown_same s x line [] = (refl, refl)
thrown_same s x line (f ∷ fs) = (refl, refl)

returned_same : (s : State) (x : Value) (fs : List Frame) → let t = (returned s x fs).1 in
    (t.roots ≡ s.roots) × (t.thread ≡ s.thread)
returned_same s x [] = (refl, refl)
returned_same s x (f ∷ fs) = (refl, refl)

settled_same : (p : Program) (s : State) (n : ℕ) (e : InstrEffect) (f : Frame) (fs : List Frame) (next : Next)
    (h : Heap) → Fits p e f next h → let t = (settled p s n f fs next).1 in (t.roots ≡ s.roots) × (t.thread ≡ s.thread)
unfolding settled
settled_same p s n e f fs (Goes ys) h c = (refl, refl)
settled_same p s n e f fs (Jumps t ys) h c = (refl, refl)
settled_same p s n e f fs (Stores j x) h c = (refl, refl)
settled_same p s n e f fs (Opens t) h c = (refl, refl)
settled_same p s n e f fs Closes h c = (refl, refl)
settled_same p s n e f fs (Enters g) h c = (refl, refl)
settled_same p s n e f fs (Leaves x) h c = returned_same s x fs
settled_same p s n e f fs (Fails x) h c = thrown_same s x (line_at p f) (unwound x fs)
settled_same p s n e f fs (Begins a) h c = absurd c
settled_same p s n e f fs (Throws x) h c = thrown_same s x (line_at p f) (unwound x (f ∷ fs))
settled_same p s n e f fs Waits h c = (refl, refl)

module _ (p : Program) (right : IsRightProgram p) (count : ℕ) (roots : Addr) where
  abbrev Standing : Heap → State → Type 0
  Standing h s = IsState p roots h s

  abbrev pub After : Outcome × State → Heap → Type 0
  After z h = IsState p roots h z.1

  abbrev pub Steps : Row State (Outcome × State) → Heap → Type 0
  Steps row h = Keeps p count roots.0 Standing After row h

  guarded_holds : (h : Heap) (s : State) (f : Frame) (depth : ℕ) (i : Instr) → Found p count roots h s f i →
      To p right count roots (effect (limits p f) i) f
      (guarded_row (record { program = p; roots = roots.0; thread = s.thread; depth = depth }) f
      (operands (pops p f i) f) i) h
  unfolding guarded_row
  guarded_holds h s f depth i w = by (has_unset (wanted i (operands (pops p f i) f))) refl
    where
      by : (b : Bool) → has_unset (wanted i (operands (pops p f i) f)) ≡ b
          → To p right count roots (effect (limits p f) i) f
          (cond b (raise_row roots.0 operand_fault)
          (instr_row (record { program = p; roots = roots.0; thread = s.thread; depth = depth }) f
          (operands (pops p f i) f) i)) h
      by true g = raises p count roots.0 Standing (effect (limits p f) i) f operand_fault h w.context
          (lit< tt, lit< tt, tt)
      by false g = instr_holds p right count roots h s f depth i w
          (are_items h (wanted i (operands (pops p f i) f))
          (wanted_refers (Refers h) i (operands (pops p f i) f)
          (every_drop (Refers h) (length f.stack - pops p f i) f.stack w.frame.stacked)) g)

  step_at_holds : (h : Heap) (s : State) (f : Frame) (fs : List Frame) → Context p count roots.0 h →
      IsState p roots h s → s.dying ≡ None → s.frames ≡ f ∷ fs → IsFrame p h 0 f → AreFrames p h 1 fs
      → (o : Option Instr) → instr_at p f ≡ o → Steps (step_at p s f fs o) h
  unfolding step_at
  step_at_holds h s f fs c st dying frames frame below None at = let x = instr_there p h 0 f frame in
      absurd (let q : ◌≡◌ {A = Option Instr} None (Some x.0) = sym at ∙ x.1 in cc)
  step_at_holds h s f fs c st dying frames frame below (Some i) at =
      let e = effect (limits p f) i in
      let xs = operands (pops p f i) f in
      let r = right_here p h f i frame at in
      let w : Found p count roots h s f i =
      record { context = c; thread = st.thread; frame = frame; at = at; fine = r.fine } in
      then_holds p count roots.0 Standing (Fits p e f) After (guarded_row (site_of p s fs) f xs i)
      (λ next. Ret (settled p s (pops p f i) f fs next)) h c
      (subst (λ a. To p right count roots e f
      (guarded_row (record { program = p; roots = a; thread = s.thread; depth = length fs + 1 }) f xs i) h)
      (sym (ap place_of st.roots_are)) (guarded_holds h s f (length fs + 1) i w))
      (λ next h1 c1 x fits.
      let same = settled_same p s (pops p f i) e f fs next h1 fits in
      let now = state_stays p roots h h1 s x st in
      let frame1 = frame_stays p h h1 0 f x frame in
      holds_ret (rules_of p count) Standing After (settled p s (pops p f i) f fs next) h1
      (record {
        roots_are = same.0 ∙ st.roots_are;
        thread = subst (IsThread h1) (sym same.1) now.thread;
        goes = settled_fits p h1 s dying f fs frame1 (frames_stay p h h1 1 fs x below) i
            (right_here p h1 f i frame1 at) frames next fits;
      }))

  step_by_holds : (h : Heap) (s : State) → Context p count roots.0 h → IsState p roots h s →
      (d : Option Dying) (fs : List Frame) → s.dying ≡ d → s.frames ≡ fs → life_by d fs ≡ Lives →
      Steps (step_by p s d fs) h
  unfolding step_by
  step_by_holds h s c st None [] e g l = absurd (let q : HasEnded ≡ Lives = l in cc)
  step_by_holds h s c st (Some d) [] e g l = absurd (let q : Failed ≡ Lives = l in cc)
  step_by_holds h s c st (Some d) (f ∷ fs) e g l =
      let exc : RefTo h _ d.exc = subst (λ z. CanGoOn p h z s.frames) e st.goes in
      then_holds p count roots.0 Standing (λ u h. Unit {0}) After (dying_row (place_of s.roots) s.number s.thread d)
      (λ _. Ret (Ended, with_frames s [])) h c
      (subst (λ a. Keeps p count roots.0 Standing (λ u h. Unit {0}) (dying_row a s.number s.thread d) h)
      (sym (ap place_of st.roots_are)) (dying_holds p count roots.0 Standing s.number s.thread d h c st.thread exc))
      (λ u h1 c1 x t.
      let now = state_stays p roots h h1 s x st in
      let goes : CanGoOn p h1 (Some d) [] = subst (λ z. CanGoOn p h1 z s.frames) e now.goes in
      holds_ret (rules_of p count) Standing After (Ended, with_frames s []) h1
      (record {
        roots_are = now.roots_are;
        thread = now.thread;
        goes =
            subst (λ z. CanGoOn p h1 z []) (sym e) goes;
      }))
  step_by_holds h s c st None (f ∷ fs) e g l =
      let goes : AreFrames p h 0 (f ∷ fs) =
      subst (λ z. CanGoOn p h z (f ∷ fs)) e (subst (λ z. CanGoOn p h s.dying z) g st.goes) in
      step_at_holds h s f fs c st e g goes.0 goes.1 (instr_at p f) refl

  pub step_holds : (h : Heap) (s : State) → Context p count roots.0 h → IsState p roots h s → life_of s ≡ Lives →
      Steps (step_row p s) h
  unfolding step_row
  step_holds h s c st l = step_by_holds h s c st s.dying s.frames refl refl l
