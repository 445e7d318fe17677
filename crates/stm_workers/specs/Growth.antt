-- What a core's history, its conflicts and its store's peaks are to those of a core that comes of it.
-- States `docs/HEAP.md`, "Workers".
use Rattle.std.specs.Prelude.{◌≡◌, ℕ, List, ◌++◌, Option}
use Rattle.py_data.specs.declared.stop.Conflict.{Conflict}
use Rattle.stm_io.specs.Outside.{SourceState, SinkState}
use Rattle.lock_run.specs.declared.turn.Turn.{Turn}
use Rattle.lock_run.specs.Machine.{begin_with}
use Rattle.lock_run.specs.Prog.{Prog}
use Rattle.lock_run.specs.RunState.{first_world}
use Rattle.seg_store.specs.Meaning.{Meaning}
use Rattle.stm_core.specs.declared.transactions.Core.{Core}
use Rattle.stm_segment.specs.CoreState.{CoreState}
use Rattle.stm_core.specs.CoreHeld.{core_client, core_limits, core_store, first_devices, Leads}
use Rattle.stm_core.specs.Outside.{Outer}
use Rattle.heap_bound.specs.Moments.{AreExplained}

-- the history and the conflicts of the one are beginnings of the other's
pub record ListsGrow {T : Type 0} (c c1 : CoreState T) : Type 0 where
  pub turns : List Turn
  pub history : c1.history ≡ c.history ++ turns
  pub new : List Conflict
  pub conflicts : c1.conflicts ≡ c.conflicts ++ new

module _ {C S I O E T : Type 0} (input : I → SourceState) (out : O → SinkState) (err : E → SinkState)
    (prog : C → Prog T) (meaning : S → Meaning) (peaks : S → Option (ℕ → ℕ)) where
  -- in this state of a core the peaks of its store are explained, from the machine on with which its run began
  abbrev pub HasExplained : Core C S I O E T → Outer T → Type 0
  HasExplained x o = AreExplained (prog (core_client x))
      (begin_with (prog (core_client x))
      (first_world (first_devices input out err x).input (first_devices input out err x).ends))
      (core_limits meaning x).length (core_limits meaning x).segments (peaks (core_store x)) o.core

  -- Each state for which the one core stands leads so to one for which the other stands, in which the peaks are
  -- explained if they were.
  pub record Grows (x y : Core C S I O E T) : Type 0 where
    pub leads : Leads input out err prog meaning x y
        (λ o o1. ListsGrow o.core o1.core × (HasExplained x o → HasExplained y o1))
