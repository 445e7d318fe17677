-- The headline: what a run of threads leaves is what one interpreter under one lock leaves. States `docs/LANGUAGE.md`,
-- "The top call".
use Rattle.std.specs.Prelude.{◌≡◌, ◌≢◌, ℕ, ◌≤◌, List, Option, Some, slice_get, All, AllPairs}
use Rattle.py_data.specs.declared.stop.Conflict.{Conflict}
use Rattle.py_data.specs.World.{World, grown}
use Rattle.stm_io.specs.Outside.{SourceState}
use Rattle.lock_run.specs.declared.client.Life.TheVariants.{Failed}
use Rattle.lock_run.specs.declared.turn.Turn.{Turn}
use Rattle.lock_run.specs.RunState.{first_world}
use Rattle.lock_run.specs.Prog.{Prog}
use Rattle.lock_run.specs.Machine.{Machine, Runs, begin_with}
use Rattle.lock_run.specs.Cut.{Broken, Broke}
use Rattle.stm_segment.specs.declared.cause.Cause.{Cause}
use Rattle.stm_segment.specs.Conflict.{loser}
use Rattle.stm_core.specs.Outside.{FaultOf}
use Rattle.stm_core.specs.Stood.{Stood}

-- how the telling to the devices ended: with what the run left, or in the step that broke
pub data Ended {S : Type 0} (p : Prog S) (first : Machine S) (history : List Turn) (w told : World) : Type 0 where
  Whole : told ≡ w → Ended p first history w told
  Cut : (b : Broken) → Broke p first history w told b → Ended p first history w told

-- THE HEADLINE. The transactions in the history, run as turns one after another by one interpreter under one lock, from
-- its first state over this input, give `machine`. The outputs are those at entry, and then what that run wrote; where
-- a step broke, and then what a beginning of the next step of one thread writes, a thread that has no later turn. No
-- turn is longer than `length`. Each transaction that was aborted had lost a conflict that stood, once, and was not
-- inevitable.
pub record Serial {S : Type 0} (p : Prog S) (length : ℕ) (input : SourceState) (out err : Option (List ℕ))
    (history : List Turn) (conflicts : List Conflict) (input1 : SourceState) (out1 err1 : Option (List ℕ))
    : Type 0 where
  pub machine : Machine S
  pub run : Runs p (begin_with p (first_world input.told input.ends)) history machine
  pub told : World
  pub ended : Ended p (begin_with p (first_world input.told input.ends)) history machine.world told
  pub input_left : input1.told ≡ told.input
  pub ends : input1.ends ≡ told.ends
  pub output : out1 ≡ grown out told.out
  pub errors : err1 ≡ grown err told.err
  pub short : All (λ (t : Turn). t.steps ≤ length) history
  pub stood : All (Stood p (begin_with p (first_world input.told input.ends)) history) conflicts
  pub once : AllPairs (λ (f g : Conflict). (loser f).begun ≢ (loser g).begun) conflicts

-- ---- how it ended

abbrev pub IsWhole : {S : Type 0} {p : Prog S} {first : Machine S} {history : List Turn} {w told : World} →
    Ended p first history w told → Type 0
IsWhole (Whole e) = Unit {0}
IsWhole (Cut b h) = ⊥

-- the step that broke did so in a call of this device
abbrev pub IsCutBy : {S : Type 0} {p : Prog S} {first : Machine S} {history : List Turn} {w told : World} → Cause →
    Ended p first history w told → Type 0
IsCutBy e (Whole h) = ⊥
IsCutBy e (Cut b h) = FaultOf e h.cut.left

-- thread 0 ended by an exception
abbrev pub FirstFailed : {S : Type 0} → Prog S → Machine S → Type 0
FirstFailed {S} p m = (q : S) × (slice_get m.threads 0 ≡ Some q) × (p.life q ≡ Failed)
