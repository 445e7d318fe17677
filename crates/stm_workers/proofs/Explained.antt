-- What a call of a core makes of what explains its peaks, by the laws of the bound on a full heap.
use Rattle.std.proofs.Common.{◌≡◌, ℕ, Option, Some, None, sym, subst}
use Rattle.stm_io.specs.Outside.{SourceState, SinkState}
use Rattle.lock_run.specs.Machine.{Machine, begin_with}
use Rattle.lock_run.specs.Prog.{Prog}
use Rattle.lock_run.specs.RunState.{first_world}
use Rattle.seg_store.specs.Meaning.{Meaning}
use Rattle.stm_segment.specs.declared.devices.Devices.{Devices}
use Rattle.stm_core.specs.declared.transactions.Core.{Core}
use Rattle.stm_core.specs.CoreHeld.{core_client, core_limits, core_store, first_devices, CoreStands, SameJob}
use Rattle.stm_segment.specs.CoreState.{CoreState}
use Rattle.stm_core.specs.Events.{Limits}
use Rattle.stm_core.specs.Good.{Good}
use Rattle.stm_segment.specs.InUse.{IfTold}
use Rattle.stm_core.specs.Outside.{Outer}
use Rattle.heap_bound.specs.Moments.{IsExplained, AreExplained}
use Rattle.stm_workers.specs.Growth.{HasExplained}

module _ {T : Type 0} (p : Prog T) (start : Machine T) (most segments : ℕ) (c c1 : CoreState T) where
  -- peaks that are left
  left_explained : (v : Option (ℕ → ℕ)) →
      ((f : ℕ → ℕ) → IsExplained p start most segments f c → IsExplained p start most segments f c1)
      → AreExplained p start most segments v c → AreExplained p start most segments v c1
  left_explained None law e = e
  left_explained (Some f) law e = law f e

  -- peaks of which this is told
  told_explained : (v w : Option (ℕ → ℕ)) (holds : (ℕ → ℕ) → (ℕ → ℕ) → Type 0) → IfTold v w holds →
      ((f g : ℕ → ℕ) → holds f g → IsExplained p start most segments f c → IsExplained p start most segments g c1)
      → AreExplained p start most segments v c → AreExplained p start most segments w c1
  told_explained None w holds told law e = absurd e
  told_explained (Some f) None holds told law e = absurd told
  told_explained (Some f) (Some g) holds told law e = law f g told e

module _ {C S I O E T : Type 0} (input : I → SourceState) (out : O → SinkState) (err : E → SinkState)
    (prog : C → Prog T) (meaning : S → Meaning) (peaks : S → Option (ℕ → ℕ)) (x y : Core C S I O E T)
    (job : SameJob meaning x y) where
  abbrev pub StartOf : Core C S I O E T → Machine T
  StartOf z = begin_with (prog (core_client z))
      (first_world (first_devices input out err z).input (first_devices input out err z).ends)

  abbrev pub Explained : (ℕ → ℕ) → CoreState T → Type 0
  Explained f c = IsExplained (prog (core_client x)) (StartOf x) (core_limits meaning x).length
      (core_limits meaning x).segments f c

  -- the same in the words of a core of the same job
  by_job : (v : Option (ℕ → ℕ)) (c : CoreState T) →
      AreExplained (prog (core_client x)) (StartOf x) (core_limits meaning x).length (core_limits meaning x).segments v
      c
      → AreExplained (prog (core_client y)) (StartOf y) (core_limits meaning y).length
      (core_limits meaning y).segments v c
  by_job v c e =
      let from = λ (l : Limits) (z : C) (d : Devices I O E).
      AreExplained (prog z) (begin_with (prog z) (first_world (input d.input).told (input d.input).ends)) l.length
      l.segments v c in
      subst (λ d. from (core_limits meaning y) (core_client y) d.value) (sym job.made_with)
      (subst (λ z. from (core_limits meaning y) z x.made_with.value) (sym job.client)
      (subst (λ l. from l (core_client x) x.made_with.value) (sym job.limits) e))

  module _ (o o1 : Outer T) where
    pub left : peaks (core_store y) ≡ peaks (core_store x) →
        ((f : ℕ → ℕ) → Explained f o.core → Explained f o1.core)
        → HasExplained input out err prog meaning peaks x o → HasExplained input out err prog meaning peaks y o1
    left same law e =
        by_job (peaks (core_store y)) o1.core (subst (λ v. AreExplained (prog (core_client x)) (StartOf x)
        (core_limits meaning x).length (core_limits meaning x).segments v o1.core) (sym same)
        (left_explained (prog (core_client x)) (StartOf x) (core_limits meaning x).length
        (core_limits meaning x).segments o.core o1.core (peaks (core_store x)) law e))

    pub told : (holds : (ℕ → ℕ) → (ℕ → ℕ) → Type 0) → IfTold (peaks (core_store x)) (peaks (core_store y)) holds →
        ((f g : ℕ → ℕ) → holds f g → Explained f o.core → Explained g o1.core)
        → HasExplained input out err prog meaning peaks x o → HasExplained input out err prog meaning peaks y o1
    told holds is law e =
        by_job (peaks (core_store y)) o1.core (told_explained (prog (core_client x)) (StartOf x)
        (core_limits meaning x).length (core_limits meaning x).segments o.core o1.core (peaks (core_store x))
        (peaks (core_store y)) holds is law e)

  -- a state for which a core stands is good
  pub stands_good : (o : Outer T) → CoreStands input out err prog meaning x o →
      Good (prog (core_client x)) (StartOf x) (core_limits meaning x).length o.core
  stands_good o stands = stands.kept.good
