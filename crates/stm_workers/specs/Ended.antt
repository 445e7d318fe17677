-- That the run of a core has ended, or goes on. States `docs/HEAP.md`, "Workers".
use Rattle.std.specs.Prelude.{◌≢◌}
use Rattle.stm_io.specs.Outside.{SourceState, SinkState}
use Rattle.lock_run.specs.Prog.{Prog}
use Rattle.seg_store.specs.Meaning.{Meaning}
use Rattle.stm_core.specs.declared.transactions.Core.{Core}
use Rattle.stm_core.specs.declared.standing.RunState.{RunState}
use Rattle.stm_core.specs.declared.standing.RunState.TheVariants.{Running}
use Rattle.stm_core.specs.CoreHeld.{core_client, core_limits, Says}
use Rattle.stm_core.specs.Standing.{IsOutcome}

-- how the run stands, where it doesn't go on
pub record HasEnded {C S I O E T : Type 0} (input : I → SourceState) (out : O → SinkState) (err : E → SinkState)
    (prog : C → Prog T) (meaning : S → Meaning) (x : Core C S I O E T) : Type 0 where
  pub state : RunState
  pub is : Says input out err prog meaning x
      (λ o. IsOutcome (prog (core_client x)) (core_limits meaning x).budget o.core state)
  pub over : state ≢ Running

-- the run goes on
abbrev pub GoesOn : {C S I O E T : Type 0} → (I → SourceState) → (O → SinkState) → (E → SinkState) → (C → Prog T) →
    (S → Meaning) → Core C S I O E T → Type 0
GoesOn input out err prog meaning x = Says input out err prog meaning x
    (λ o. IsOutcome (prog (core_client x)) (core_limits meaning x).budget o.core Running)
