-- A thread that may stand over a heap: what its step needs is there.
use Rattle.std.proofs.Common.{◌≡◌, ℕ, List, ◌∷◌, Option, Some, None, Ok, Err, sym, subst, ◌∙◌, slice_get}
use Rattle.py_data.specs.declared.stop.Stop.{Stop}
use Rattle.py_data.specs.Heap.{Heap}
use Rattle.py_data.specs.Row.{Row}
use Rattle.py_data.specs.Sense.{Sense, Bracket, IsBracket, Safe, IsLive}
use Rattle.py_data.proofs.Parts.{safe_shown}
use Rattle.py_code.specs.declared.instr.Instr.{Instr}
use Rattle.py_code.specs.declared.instr.Instr.TheVariants.{Unary, Binary, InPlace, Compare}
use Rattle.py_code.specs.declared.program.Program.{Program}
use Rattle.py_code.specs.Effects.{Limits, IsKnown}
use Rattle.lock_run.specs.declared.client.Outcome.{Outcome}
use Rattle.lock_run.specs.declared.client.Life.TheVariants.{Lives}
use Rattle.lock_run.specs.Client.{StandsIn, Stepped, StepStopped}
use Rattle.py_frames.specs.declared.state.Frame.{Frame}
use Rattle.py_frames.specs.Sound.{Sound}
use Rattle.py_frames.specs.State.{State, limits, instr_at, life_of}
use Rattle.py_frames.specs.Steps.{step_row}
use Rattle.py_frames.proofs.SoundLaws.{safe_law, never_lacks_law}
use Rattle.py_step.specs.inner.Moves.{Moves}
use Rattle.py_step.specs.inner.Operators.{HasOperator, IsOperable}

-- what an instruction names is there, its operator too
operator_of : (k : Limits) (i : Instr) → IsKnown k i → HasOperator i
operator_of k (Unary o) h = h
operator_of k (Binary o) h = h
operator_of k (InPlace o) h = h
operator_of k (Compare o) h = h
operator_of k _ h = tt

one_instr : (o : Option Instr) (i j : Instr) → o ≡ Some i → o ≡ Some j → i ≡ j
one_instr o i j e f = let q : Some i ≡ Some j = sym e ∙ f in cc

pub operable : (p : Program) (partial : _) (g : Heap) (s : State) → StandsIn (Sound p) partial g s → IsOperable p s
operable p partial g s st = record {
  each = λ f fs i dying frames at.
      let z = st.standing in
      let q = never_lacks_law p st.heap z.0 z.1 s f fs z.3 z.2 dying frames in
      operator_of (limits p f) i (subst (IsKnown (limits p f)) (one_instr (instr_at p f) q.instr i q.at at)
      q.fine.known);
}

module _ {X : Type 0} (u : Sense State X) (b : Bracket State X) (is : IsBracket u b) (p : Program) (s : State)
    (v v1 : X) (opens : b.opens v v1) where
  pub opened_live : IsLive u v1
  opened_live = (is.opened v v1 opens).2

  pub opened_safe : StandsIn (Sound p) u.partial (u.heap v) s → life_of s ≡ Lives →
      Safe u.partial (step_row p s) (u.heap v1)
  opened_safe st l =
      let z = st.standing in
      let safe = safe_law p z.0 z.1 s st.heap z.3 z.2 l in
      subst (λ h. Safe u.partial (step_row p s) h) (sym (is.opened v v1 opens).0)
      (safe_shown u.partial (step_row p s) (u.heap v) st.heap st.shown safe)

  pub stepped : (w : X) (t : State) (o : Outcome) → Moves u (step_row p s) v1 s w t (Ok o) →
      Stepped u b (step_row p s) v o t w
  stepped w t o m = (v1, opens, m)

  pub step_stopped : (w w1 : X) (t : State) (e : Stop) → Moves u (step_row p s) v1 s w t (Err e) → b.undoes w w1 →
      StepStopped u b (step_row p s) v e w1
  step_stopped w w1 t e m un = (v1, w, opens, m.0, un)
