-- What was done or stopped over a view that says more was done or stopped over one that says less.
use Rattle.std.proofs.Common.{ℕ, Option, inl, inr, Result, Ok, Err, IfOk, IfErr}
use Rattle.py_data.specs.declared.stop.Side.{Side}
use Rattle.py_data.specs.declared.stop.Stop.{Stop}
use Rattle.py_data.specs.Row.{Call, Reply, Row, Ret, Do}
use Rattle.py_data.specs.Sense.{Sense, Bracket, Run, Stopped}
use Rattle.lock_run.specs.Client.{Stepped, StepStopped}
use Rattle.lock_run.specs.declared.client.Outcome.{Outcome}
use Rattle.stm_segment.specs.Devices.{DeviceState}
use Rattle.stm_segment.specs.inner.Hold.{Hold}
use Rattle.stm_segment.specs.inner.SegSense.{with_more, with_both, seg_sense, seg_bracket, SamePeaks, Tells, TellsRefused, told_sense, told_bracket}

module _ {S X : Type 0} (u : Sense S X) (more : (c : Call S) → X → Reply c → X → Type 0)
    (refused : Call S → X → Stop → X → Type 0) where
  run_poorer : {A : Type 0} (row : Row S A) (v : X) (y : A) (w : X) → Run (with_more u more refused) row v y w →
      Run u row v y w
  unfolding Run
  run_poorer (Ret a) v y w d = d
  run_poorer (Do c k) v y w d = (d.0, d.1, d.2.0, run_poorer (k d.0) d.1 y w d.3)

  stopped_poorer : {A : Type 0} (row : Row S A) (v : X) (e : Stop) (w : X) →
      Stopped (with_more u more refused) row v e w → Stopped u row v e w
  unfolding Stopped
  stopped_poorer (Ret a) v e w d = d
  stopped_poorer (Do c k) v e w d = elim d [
    | inl x ↦ inl x
    | inr y ↦ elim y [
      | inl r ↦ inr (inl r.0)
      | inr z ↦ inr (inr (z.0, z.1, z.2.0, stopped_poorer (k z.0) z.1 e w z.3))
    ]
  ]

  module _ (b : Bracket S X) (both : X → X → Type 0) (row : Row S (Outcome × S)) where
    pub step_poorer : (r : Result Outcome Stop) (v : X) (s : S) (w : X) →
        IfOk r (λ o. Stepped (with_more u more refused) (with_both b both) row v o s w) →
        IfOk r (λ o. Stepped u b row v o s w)
    step_poorer (Ok o) v s w d = (d.0, d.1.0, run_poorer row d.0 (o, s) w d.2)
    step_poorer (Err e) v s w d = tt

    pub cut_poorer : (r : Result Outcome Stop) (v w : X) →
        IfErr r (λ e. StepStopped (with_more u more refused) (with_both b both) row v e w) →
        IfErr r (λ e. StepStopped u b row v e w)
    cut_poorer (Ok o) v w d = tt
    cut_poorer (Err e) v w d = (d.0, d.1, d.2.0, stopped_poorer row d.0 e d.1 d.3, d.4.0)

-- of a segment's view, whose store may tell its peaks
module _ {S X : Type 0} (hold : X → Hold S) (devices : X → DeviceState) (segment : X → ℕ) (me : X → Side)
    (same : X → X → Type 0) (peaks : X → Option (ℕ → ℕ)) (row : Row S (Outcome × S)) where
  -- a step was done, by what the view says of its peaks too, and without that
  abbrev pub ToldDone : Result Outcome Stop → X → S → X → Type 0
  ToldDone r v s w = IfOk r (λ o. Stepped (told_sense hold devices segment me same peaks)
      (told_bracket hold devices segment me same peaks) row v o s w)

  abbrev pub SegDone : Result Outcome Stop → X → S → X → Type 0
  SegDone r v s w = IfOk r (λ o. Stepped (seg_sense hold devices segment me same)
      (seg_bracket hold devices segment me same) row v o s w)

  pub seg_done : (r : Result Outcome Stop) (v : X) (s : S) (w : X) → ToldDone r v s w → SegDone r v s w
  seg_done = step_poorer (seg_sense hold devices segment me same) (Tells hold devices segment me same peaks)
      (TellsRefused hold devices segment me same peaks) (seg_bracket hold devices segment me same)
      (SamePeaks hold devices segment me same peaks) row

  -- and one that was cut
  abbrev pub ToldCut : Result Outcome Stop → X → X → Type 0
  ToldCut r v w = IfErr r (λ e. StepStopped (told_sense hold devices segment me same peaks)
      (told_bracket hold devices segment me same peaks) row v e w)

  abbrev pub SegCut : Result Outcome Stop → X → X → Type 0
  SegCut r v w = IfErr r (λ e. StepStopped (seg_sense hold devices segment me same)
      (seg_bracket hold devices segment me same) row v e w)

  pub seg_cut : (r : Result Outcome Stop) (v w : X) → ToldCut r v w → SegCut r v w
  seg_cut = cut_poorer (seg_sense hold devices segment me same) (Tells hold devices segment me same peaks)
      (TellsRefused hold devices segment me same peaks) (seg_bracket hold devices segment me same)
      (SamePeaks hold devices segment me same peaks) row
