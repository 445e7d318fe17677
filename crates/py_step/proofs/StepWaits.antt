-- When an instruction waits, and a step: it is a call without keywords, of operands that are set, in a thread that
-- doesn't die.
use Rattle.std.proofs.Common.{arith, ◌≡◌, ℕ, ◌≤◌, Bool, true, false, cond, List, [], ◌∷◌, length, drop, get_or, Option, Some, None, refl, sym, ap, subst, ◌∙◌}
use Rattle.py_data.specs.declared.value.Value.{Value}
use Rattle.py_data.specs.declared.value.Value.TheVariants.{Unset}
use Rattle.py_data.specs.Fault.{operand_fault}
use Rattle.py_data.specs.Heap.{Heap, value_at}
use Rattle.py_data.specs.Row.{Row, Ret}
use Rattle.py_code.specs.declared.instr.Instr.{Instr}
use Rattle.py_code.specs.declared.instr.Instr.TheVariants.{Call, CallMethod}
use Rattle.py_code.specs.declared.program.Program.{Program}
use Rattle.lock_run.specs.declared.client.Life.TheVariants.{Lives, Ended as HasEnded, Failed}
use Rattle.lock_run.specs.declared.client.Outcome.{Outcome}
use Rattle.lock_run.specs.declared.client.Outcome.TheVariants.{Ended, Waits as WaitsNow}
use Rattle.py_frames.specs.declared.next.Next.{Next}
use Rattle.py_frames.specs.declared.state.Dying.{Dying}
use Rattle.py_frames.specs.declared.state.Frame.{Frame}
use Rattle.py_frames.specs.CallRows.{value_call}
use Rattle.py_frames.specs.ClassCalls.{Site}
use Rattle.py_frames.specs.PrintRows.{dying_row}
use Rattle.py_frames.specs.Raising.{place_of, raise_row}
use Rattle.py_frames.specs.State.{State, code_at, instr_at, pops, operands, settled, life_by, life_of}
use Rattle.py_frames.specs.Steps.{given_in, wanted, has_unset, instr_row, guarded_row, site_of, step_at, step_by, step_row}
use Rattle.py_states.specs.Innermost.{innermost}
use Rattle.py_step.specs.inner.Peeked.{Comes, Avoids, Tells, LeadsToWait, EndsInWait}
use Rattle.py_step.proofs.CallWaits.{keyed_works}
use Rattle.py_frames.proofs.QuietSteps.{is_call, instr_works, settled_waits}
use Rattle.py_step.proofs.PeekedRows.{never_avoids, tells_after}
use Rattle.py_frames.proofs.WorkingRows.{never_ret, never_bind, raises}

-- the keywords of a call of a frame's code
abbrev pub keywords : Program → ℕ → ℕ → List ℕ
keywords p c l = get_or (code_at p c).keys l []

-- a list that has an item
some_of : (xs : List ℕ) → 1 ≤ length xs → (x : ℕ) × (ys : List ℕ) × xs ≡ x ∷ ys
some_of [] i = absurd (let e : ⊥ = omega (arith, i) in e)
some_of (x ∷ xs) i = (x, xs, refl)

-- an instruction that is neither of the two calls
pub no_call : (i : Instr) → ((m l : ℕ) → i ≡ Call m l → ⊥) → ((m l : ℕ) → i ≡ CallMethod m l → ⊥) → is_call i ≡ false
no_call (Call m l) n k = absurd (n m l refl)
no_call (CallMethod m l) n k = absurd (k m l refl)
no_call _ n k = refl

-- a thread that lives has a frame
framed : (s : State) → life_of s ≡ Lives → (f : Frame) × (fs : List Frame) × s.frames ≡ f ∷ fs
framed s l = by s.dying s.frames l
  where
    by : (d : Option Dying) (fs : List Frame) → life_by d fs ≡ Lives → (f : Frame) × (gs : List Frame) × fs ≡ f ∷ gs
    by d (f ∷ fs) e = (f, fs, refl)
    by (Some x) [] e = absurd (let q : Failed ≡ Lives = e in cc)
    by None [] e = absurd (let q : HasEnded ≡ Lives = e in cc)

module _ (h : Heap) where
  abbrev Told : Bool → Row State Next → Type 0
  Told b row = Tells b LeadsToWait h row

  -- ---- the guard
  pub set_tells : (b : Bool) (s : Site) (f : Frame) (xs : List Value) (i : Instr) → has_unset (wanted i xs) ≡ false →
      Told b (instr_row s f xs i) → Told b (guarded_row s f xs i)
  unfolding guarded_row
  set_tells b s f xs i e t = subst (λ q. Told b (cond q (raise_row s.roots operand_fault) (instr_row s f xs i)))
      (sym e) t

  pub unset_goes : (s : Site) (f : Frame) (xs : List Value) (i : Instr) → has_unset (wanted i xs) ≡ true →
      Told false (guarded_row s f xs i)
  unfolding guarded_row
  unset_goes s f xs i e = subst (λ q. Told false (cond q (raise_row s.roots operand_fault) (instr_row s f xs i)))
      (sym e) (never_avoids LeadsToWait h _ (raises State s.roots _))

  -- ---- instructions
  pub other_goes : (s : Site) (f : Frame) (xs : List Value) (i : Instr) → is_call i ≡ false →
      Told false (instr_row s f xs i)
  other_goes s f xs i e = never_avoids LeadsToWait h _ (instr_works s f xs i e)

  -- with a keyword
  pub keyed_call : (s : Site) (f : Frame) (xs : List Value) (m l : ℕ) → 1 ≤ length (keywords s.program f.code l) →
      Told false (instr_row s f xs (Call m l))
  unfolding instr_row
  keyed_call s f xs m l n = let e = some_of (keywords s.program f.code l) n in
      never_avoids LeadsToWait h _ (keyed_works h s _ _ (given_in s f m l (drop 1 xs)) e.0 e.1 e.2)

  pub keyed_method : (s : Site) (f : Frame) (xs : List Value) (m l : ℕ) → 1 ≤ length (keywords s.program f.code l) →
      Told false (instr_row s f xs (CallMethod m l))
  unfolding instr_row
  keyed_method s f xs m l n = let e = some_of (keywords s.program f.code l) n in
      never_avoids LeadsToWait h _ (keyed_works h s _ _ (given_in s f m l (drop 2 xs)) e.0 e.1 e.2)

  -- the call of a value that waits or not
  pub call_tells : (b : Bool) (s : Site) (f : Frame) (xs : List Value) (m l : ℕ) →
      Told b (value_call s Unset (given_in s f m l (drop 1 xs)) (value_at xs 0)) → Told b (instr_row s f xs (Call m l))
  unfolding instr_row
  call_tells b s f xs m l t = t

  pub method_tells : (b : Bool) (s : Site) (f : Frame) (xs : List Value) (m l : ℕ) →
      Told b (value_call s (value_at xs 1) (given_in s f m l (drop 2 xs)) (value_at xs 0)) →
      Told b (instr_row s f xs (CallMethod m l))
  unfolding instr_row
  method_tells b s f xs m l t = t

  -- ---- a step
  abbrev Ends : Bool → Row State (Outcome × State) → Type 0
  Ends b row = Tells b EndsInWait h row

  ended_not : (s : State) → Tells {S = State} false EndsInWait h (Ret (Ended, s))
  unfolding Avoids
  ended_not s e = let q : Ended ≡ WaitsNow = e in cc

  -- of a frame
  pub step_tells : (b : Bool) (p : Program) (s : State) (f : Frame) (fs : List Frame) (i : Instr) → s.dying ≡ None →
      s.frames ≡ f ∷ fs → instr_at p f ≡ Some i
      → Told b (guarded_row (site_of p s fs) f (operands (pops p f i) f) i) → Ends b (step_row p s)
  unfolding step_row step_by step_at Comes settled
  step_tells b p s f fs i d e o t =
      let last : Next → Row State (Outcome × State) = λ next. Ret (settled p s (pops p f i) f fs next) in
      let row = guarded_row (site_of p s fs) f (operands (pops p f i) f) i in
      let told : Ends b (step_at p s f fs (Some i)) = tells_after h b LeadsToWait EndsInWait row last t
      (λ next w. (settled p s (pops p f i) f fs next, ap (λ z. (settled p s (pops p f i) f fs z).0) w, refl))
      (λ next n. never_ret State EndsInWait (settled p s (pops p f i) f fs next)
      (λ q. n (settled_waits p s (pops p f i) f fs next q))) in
      subst (λ d. Ends b (step_by p s d s.frames)) (sym d)
      (subst (λ gs. Ends b (step_by p s None gs)) (sym e) (subst (λ o. Ends b (step_at p s f fs o)) (sym o) told))

  -- where there is no instruction
  pub nowhere_goes : (p : Program) (s : State) (f : Frame) (fs : List Frame) → s.dying ≡ None → s.frames ≡ f ∷ fs →
      instr_at p f ≡ None → Ends false (step_row p s)
  unfolding step_row step_by step_at
  nowhere_goes p s f fs d e o =
      subst (λ d. Ends false (step_by p s d s.frames)) (sym d)
      (subst (λ gs. Ends false (step_by p s None gs)) (sym e)
      (subst (λ o. Ends false (step_at p s f fs o)) (sym o) (ended_not _)))

  -- of a thread that lives
  pub living_tells : (b : Bool) (p : Program) (s : State) (i : Instr) → life_of s ≡ Lives → s.dying ≡ None →
      instr_at p (innermost s.frames) ≡ Some i
      → ((fs : List Frame) → let f = innermost s.frames in
      Told b (guarded_row (site_of p s fs) f (operands (pops p f i) f) i)) → Ends b (step_row p s)
  living_tells b p s i l d o t =
      let z = framed s l in
      let e : innermost s.frames ≡ z.0 = ap innermost z.2 in
      step_tells b p s z.0 z.1 i d z.2 (ap (instr_at p) (sym e) ∙ o)
      (subst (λ f. Told b (guarded_row (site_of p s z.1) f (operands (pops p f i) f) i)) e (t z.1))

  pub lost_goes : (p : Program) (s : State) → life_of s ≡ Lives → s.dying ≡ None →
      instr_at p (innermost s.frames) ≡ None → Ends false (step_row p s)
  lost_goes p s l d o =
      let z = framed s l in
      let e : innermost s.frames ≡ z.0 = ap innermost z.2 in
      nowhere_goes p s z.0 z.1 d z.2 (ap (instr_at p) (sym e) ∙ o)

  -- of a thread that dies
  pub dying_goes : (p : Program) (s : State) (d : Dying) → s.dying ≡ Some d → Ends false (step_row p s)
  unfolding step_row step_by
  dying_goes p s d e = subst (λ d. Ends false (step_by p s d s.frames)) (sym e) (by s.frames)
    where
      by : (fs : List Frame) → Ends false (step_by p s (Some d) fs)
      by [] = ended_not s
      by (f ∷ fs) = never_avoids EndsInWait h _
          (never_bind State EndsInWait (dying_row (place_of s.roots) s.number s.thread d) _
          (λ u. never_ret State EndsInWait _ (λ e. let q : Ended ≡ WaitsNow = e in cc)))
