-- Steps of a thread, by the instruction at hand.
use Rattle.std.proofs.Common.{arith, ◌≡◌, ℕ, ◌<◌, Bool, true, false, List, [], ◌∷◌, length, drop, Option, Some, None, Result, Ok, Err, refl, sym, ap, subst, ◌∙◌}
use Rattle.std.specs.Prelude.{is_some, IfOk, IfErr, OnErr}
use Rattle.py_data.specs.declared.stop.Stop.{Stop}
use Rattle.py_data.specs.declared.stop.Stop.TheVariants.{OutOfMemory}
use Rattle.py_data.specs.Heap.{Heap}
use Rattle.py_data.specs.Row.{Row, Ret, Do, bind}
use Rattle.py_data.specs.Sense.{Sense, Lawful, Safe, Run, Stopped, Meets}
use Rattle.py_data.proofs.Rows.{run_ret, run_bind, own_memory, stop_first, stop_then}
use Rattle.std.specs.Result.{IsErrAnd}
use Rattle.py_data.proofs.Steps.{as_err, safe_first, safe_then}
use Rattle.py_code.specs.declared.instr.Instr.{Instr}
use Rattle.py_code.specs.declared.program.Program.{Program}
use Rattle.lock_run.specs.declared.client.Outcome.{Outcome}
use Rattle.lock_run.specs.declared.client.Outcome.TheVariants.{Done, Ended}
use Rattle.lock_run.specs.declared.client.Life.TheVariants.{Lives, Failed, Ended as HasEnded}
use Rattle.py_frames.specs.declared.state.Dying.{Dying}
use Rattle.py_frames.specs.declared.state.Frame.{Frame}
use Rattle.py_frames.specs.declared.next.Next.{Next}
use Rattle.py_frames.specs.State.{State, instr_at, life_by, life_of, pops, operands, settled, with_frames}
use Rattle.py_frames.specs.Steps.{guarded_row, site_of, step_at, step_by, step_row}
use Rattle.py_states.specs.Innermost.{innermost, settled_in, Settles}
use Rattle.py_states.proofs.Running.{there_is, settled_there}
use Rattle.py_step.specs.inner.Directly.{IsAtOnce}
use Rattle.py_step.specs.inner.FastPath.{ended, ending}
use Rattle.py_step.specs.inner.Moves.{Moves, dying_step, dying_words}
use Rattle.py_step.specs.inner.Operators.{HasOperator, IsOperable}

-- ---- what is said of a program that is this one

pub at_of : (p q : Program) (f : Frame) (o : Option Instr) → q ≡ p → o ≡ instr_at q f → instr_at p f ≡ o
at_of p q f o e at = sym (at ∙ ap (λ r. instr_at r f) e)

pub pops_of : (p q : Program) (f : Frame) (i : Instr) (n : ℕ) → q ≡ p → n ≡ pops q f i → n ≡ pops p f i
pops_of p q f i n e at = at ∙ ap (λ r. pops r f i) e

-- ---- a thread that lives has a frame

has_frame : (d : Option Dying) (fs : List Frame) → life_by d fs ≡ Lives → 0 < length fs
has_frame d (f ∷ fs) e = omega arith
has_frame (Some x) [] e = absurd (let q : Failed ≡ Lives = e in cc)
has_frame None [] e = absurd (let q : HasEnded ≡ Lives = e in cc)

pub lives_in_frame : (s : State) → life_of s ≡ Lives → 0 < length s.frames
lives_in_frame s l = has_frame s.dying s.frames l

pub frames_are : (s : State) → life_of s ≡ Lives → s.frames ≡ innermost s.frames ∷ drop 1 s.frames
frames_are s l = there_is s.frames (lives_in_frame s l)

-- ---- which row its step has

pub dying_is : (p : Program) (s : State) (d : Dying) → life_of s ≡ Lives → s.dying ≡ Some d →
    step_row p s ≡ dying_step s d
unfolding step_row step_by
dying_is p s d l e = ap (λ o. step_by p s o s.frames) e ∙ ap (step_by p s (Some d)) (frames_are s l)

pub at_is : (p : Program) (s : State) (o : Option Instr) → life_of s ≡ Lives → s.dying ≡ None →
    instr_at p (innermost s.frames) ≡ o → step_row p s ≡ step_at p s (innermost s.frames) (drop 1 s.frames) o
unfolding step_row step_by
at_is p s o l e at =
    ap (λ d. step_by p s d s.frames) e
    ∙ ap (step_by p s None) (frames_are s l)
    ∙ ap (step_at p s (innermost s.frames) (drop 1 s.frames)) at

pub operator_here : (p : Program) (s : State) (i : Instr) → IsOperable p s → life_of s ≡ Lives → s.dying ≡ None →
    instr_at p (innermost s.frames) ≡ Some i → HasOperator i
operator_here p s i o l e at = o.each (innermost s.frames) (drop 1 s.frames) i e (frames_are s l) at

-- ---- a step that is done at once

pub lives_on : (d o : Option Dying) (b : Bool) → o ≡ d → b ≡ is_some o → b ≡ false → d ≡ None
lives_on d None b e q r = sym e
lives_on d (Some x) b e q r = absurd (let w : true ≡ false = sym q ∙ r in cc)

pub done_here : (p : Program) (s : State) (i : Instr) (b : Bool) (t : State) → life_of s ≡ Lives → s.dying ≡ None →
    instr_at p (innermost s.frames) ≡ Some i → IsAtOnce s i b t → b ≡ true → step_row p s ≡ Ret (Done, t)
done_here p s i true t l d e h q = at_is p s (Some i) l d e ∙ h p
done_here p s i false t l d e h q = absurd (let r : false ≡ true = q in cc)

module _ {X : Type 0} (u : Sense State X) (p : Program) (s : State) where
  pub over : (f : Frame) (fs : List Frame) (v : X) → Run u (step_at p s f fs None) v (Ended, with_frames s []) v
  unfolding step_at
  over f fs v = run_ret u (Ended, with_frames s []) v

-- ---- one part after another

pub bind_bind : {S A B C : Type 0} (r : Row S A) (f : A → Row S B) (g : B → Row S C) →
    bind (bind r f) g ≡ bind r (λ a. bind (f a) g)
unfolding bind
bind_bind (Ret a) f g = refl
bind_bind (Do c k) f g = λ i. Do c (λ r. bind_bind (k r) f g i)

-- a row that is this part, and what follows
module _ {X A : Type 0} (u : Sense State X) (row : Row State (Outcome × State)) (part : Row State A)
    (more : A → Row State (Outcome × State)) (e : row ≡ bind part more) where
  pub part_safe : (h : Heap) → Safe u.partial row h → Safe u.partial part h
  part_safe h z = safe_first u.partial part more h (subst (λ r. Safe u.partial r h) e z)

  pub more_safe : (L : Lawful u) (v w : X) (a : A) → Safe u.partial row (u.heap v) → Meets u part v w (Ok a) →
      Safe u.partial (more a) (u.heap w)
  more_safe L v w a z m = safe_then u L part more v w a (subst (λ r. Safe u.partial r (u.heap v)) e z) m

  pub part_moved : (s : State) (v w : X) (x : Stop) (r : Result Outcome Stop) → Meets u part v w (Err x) →
      IsErrAnd r (λ y. y ≡ x) → Moves u row v s w s r
  unfolding Meets
  part_moved s v w x r m q = subst (λ z. Moves u row v s w s z) (sym (as_err r x q))
      (subst (λ z. Stopped u z v x w) (sym e) (stop_first u part more v w x m), refl)

  pub more_moved : (s t : State) (v m w : X) (a : A) (r : Result Outcome Stop) → Meets u part v m (Ok a) →
      Moves u (more a) m s w t r → Moves u row v s w t r
  unfolding Meets
  more_moved s t v m w a (Ok o) h g =
      subst (λ z. Run u z v (o, t) w) (sym e) (run_bind u part more v m w a (o, t) h g)
  more_moved s t v m w a (Err x) h g =
      (subst (λ z. Stopped u z v x w) (sym e) (stop_then u part more v m w a x h g.0), g.1)

-- the same where the row is written so
pub as_part : {A : Type 0} (part : Row State A) (more : A → Row State (Outcome × State)) →
    bind part more ≡ bind part more
as_part part more = refl

-- ---- what an instruction leads to that takes n operands
module _ {X : Type 0} (u : Sense State X) (p : Program) (s : State) (n : ℕ) where
  -- it was done to the state, or there was no memory for it
  pub settle_moved : (next : Next) (v : X) (t : State) (r : Result Outcome Stop) → 0 < length s.frames →
      IfOk r (λ o. Settles (settled_in p s n next s.frames) o t) → IfErr r (λ e. e ≡ OutOfMemory) →
      OnErr r (t ≡ s) → Moves u (ending p s n next) v s v t r
  settle_moved next v t (Ok o) l h c k =
      subst (λ z. Run u (ending p s n next) v z v)
      (sym (h ∙ settled_there p s n next (innermost s.frames) (drop 1 s.frames) (there_is s.frames l)))
      (run_ret u (settled p s n (innermost s.frames) (drop 1 s.frames) next) v)
  settle_moved next v t (Err x) l h c k =
      (subst (λ z. Stopped u (ending p s n next) v z v) (sym c) (own_memory u (ending p s n next) v), k)

  -- by a call that knows no program
  pub give_moved : (next : Next) (v : X) (t : State) (r : Result Outcome Stop) → 0 < length s.frames →
      IfOk r (λ o. (p : Program) → Settles (settled_in p s n next s.frames) o t) → IfErr r (λ e. e ≡ OutOfMemory) →
      OnErr r (t ≡ s) → Moves u (ending p s n next) v s v t r
  give_moved next v t (Ok o) l h c k = settle_moved next v t (Ok o) l (h p) c k
  give_moved next v t (Err x) l h c k = settle_moved next v t (Err x) l h c k

-- what is left of its instruction is safe where what is left of the step is
pub still_safe : (q : Bool) (p : Program) (s : State) (n : ℕ) (row : Row State Next) (h : Heap) →
    Safe q (ended p s n row) h → Safe q row h
still_safe q p s n row h z = safe_first q row (ending p s n) h z

-- the step of an instruction by its row
pub by_row_is : (p : Program) (s : State) (f : Frame) (fs : List Frame) (i : Instr) (n : ℕ) → n ≡ pops p f i →
    step_at p s f fs (Some i)
    ≡ bind (guarded_row (site_of p s fs) f (operands n f) i) (λ next. Ret (settled p s n f fs next))
unfolding step_at
by_row_is p s f fs i n e =
    ap (λ m. bind (guarded_row (site_of p s fs) f (operands m f) i) (λ next. Ret (settled p s m f fs next))) (sym e)

-- ---- a thread that dies
module _ {X : Type 0} (u : Sense State X) (s : State) (d : Dying) where
  abbrev last : Unit {0} → Row State (Outcome × State)
  last x = Ret (Ended, with_frames s [])

  pub words_safe : (h : Heap) → Safe u.partial (dying_step s d) h → Safe u.partial (dying_words {S = State} s d) h
  words_safe h z = safe_first u.partial (dying_words {S = State} s d) last h z

  pub words_stopped : (v w : X) (x : Stop) → Meets u (dying_words s d) v w (Err x) → Stopped u (dying_step s d) v x w
  unfolding Meets
  words_stopped v w x m = stop_first u (dying_words s d) last v w x m

  pub words_said : (v w : X) (z : Outcome × State) → Meets u (dying_words s d) v w (Ok tt) →
      z ≡ (Ended, with_frames s []) → Run u (dying_step s d) v z w
  unfolding Meets
  words_said v w z m e =
      run_bind u (dying_words s d) last v w w tt z m
      (subst (λ y. Run u (last tt) w y w) (sym e) (run_ret u (Ended, with_frames s []) w))

  pub words_moved : (v w : X) (x : Stop) (r : Result Outcome Stop) → Meets u (dying_words s d) v w (Err x) →
      IsErrAnd r (λ y. y ≡ x) → Moves u (dying_step s d) v s w s r
  words_moved v w x r m q = subst (λ z. Moves u (dying_step s d) v s w s z) (sym (as_err r x q))
      (words_stopped v w x m, refl)

-- two parts that are the same
pub both : (o q : Outcome) (s t : State) → o ≡ q → s ≡ t → ◌≡◌ {A = Outcome × State} (o, s) (q, t)
both o q s t e f = λ i. (e i, f i)

pub safe_as : {X A : Type 0} (u : Sense State X) (row other : Row State A) (h : Heap) → row ≡ other →
    Safe u.partial row h → Safe u.partial other h
safe_as u row other h e z = subst (λ r. Safe u.partial r h) e z

module _ {X : Type 0} (u : Sense State X) (row other : Row State (Outcome × State)) where
  pub moves_as : (v w : X) (s t : State) (r : Result Outcome Stop) → row ≡ other → Moves u other v s w t r →
      Moves u row v s w t r
  moves_as v w s t r e z = subst (λ q. Moves u q v s w t r) (sym e) z

  pub run_as : (v : X) (y z : Outcome × State) (w : X) → row ≡ other → y ≡ z → Run u other v z w → Run u row v y w
  run_as v y z w e q m = subst (λ a. Run u row v a w) (sym q) (subst (λ r. Run u r v z w) (sym e) m)
