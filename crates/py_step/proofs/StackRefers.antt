-- What a call looks at is there: what stands on the stack of a thread that may stand over a heap.
use Rattle.std.proofs.Common.{◌≡◌, ℕ, zero, suc, List, [], ◌∷◌, drop, Option, Some, None, inl, inr, sym, ap, subst, ◌∙◌}
use Rattle.std.specs.Prelude.{slice_get}
use Rattle.py_data.specs.declared.value.Value.{Value}
use Rattle.py_data.specs.Closed.{Refers}
use Rattle.py_data.specs.Every.{Every}
use Rattle.py_data.specs.Heap.{Rec, Heap, value_at}
use Rattle.py_code.specs.declared.program.Program.{Program}
use Rattle.lock_run.specs.Client.{Standing}
use Rattle.py_frames.specs.declared.state.Frame.{Frame}
use Rattle.py_frames.specs.Sound.{CanGoOn, AreFrames, IsState, first_state, Sound}
use Rattle.py_frames.specs.State.{State}
use Rattle.py_states.specs.Innermost.{innermost}
use Rattle.py_step.specs.inner.Peeked.{AreClosed}

pub every_skip : {A : Type 0} (P : A → Type 0) (n : ℕ) (xs : List A) → Every P xs → Every P (drop n xs)
every_skip P zero xs e = e
every_skip P (suc n) [] e = tt
every_skip P (suc n) (x ∷ xs) e = every_skip P n xs e.1

-- a value of a list, or Unset
pub value_refers : (h : Heap) (xs : List Value) (i : ℕ) → Every (Refers h) xs → Refers h (value_at xs i)
value_refers h [] zero e = tt
value_refers h [] (suc i) e = tt
value_refers h (x ∷ xs) zero e = e.0
value_refers h (x ∷ xs) (suc i) e = value_refers h xs i e.1

found_in : {A : Type 0} (P : A → Type 0) (ss : List A) (t : ℕ) (s : A) → Every P ss → slice_get ss t ≡ Some s → P s
found_in {A} P [] t s i e = absurd (let q : ◌≡◌ {A = Option A} None (Some s) = e in cc)
found_in P (x ∷ ss) zero s i e = let q : x ≡ s = cc in subst P q i.0
found_in P (x ∷ ss) (suc t) s i e = found_in P ss t s i.1 e

module _ (p : Program) (h : Heap) (s : State) where
  pub closed_over : Standing (Sound p h) s → AreClosed h
  closed_over w = elim w.3.1 [
    | inl b ↦ record {
      each = λ a r e. absurd (let q : ◌≡◌ {A = Option Rec} None (Some r) = sym (ap (λ g. g a) b.heap)
          ∙ e in cc);
    }
    | inr a ↦ record { each = λ n r e. (a.order.each n r e).closed }
  ]

  -- the first state has nothing on its stack
  begun : (ss : List State) (t : ℕ) → ss ≡ first_state p ∷ [] → slice_get ss t ≡ Some s →
      Every (Refers h) (innermost s.frames).stack
  begun ss t e i =
      let all : Every (λ s. Every (Refers h) (innermost s.frames).stack) (first_state p ∷ []) = (tt, tt) in
      found_in (λ s. Every (Refers h) (innermost s.frames).stack) ss t s
      (subst (Every (λ s. Every (Refers h) (innermost s.frames).stack)) (sym e) all) i

  frames_refer : (fs : List Frame) → AreFrames p h 0 fs → Every (Refers h) (innermost fs).stack
  frames_refer [] a = tt
  frames_refer (f ∷ fs) a = a.0.stacked

  pub stack_refers : Standing (Sound p h) s → s.dying ≡ None → Every (Refers h) (innermost s.frames).stack
  stack_refers w d = elim w.3.1 [
    | inl b ↦ begun w.0 w.1 b.states w.2
    | inr a ↦ let i = found_in (IsState p a.roots h) w.0 w.1 s a.each w.2 in
        frames_refer s.frames (subst (λ d. CanGoOn p h d s.frames) d i.goes)
  ]
