-- What a core hands out at its end. States `docs/HEAP.md`, "How a core stands".
use Rattle.std.specs.Prelude.{◌≡◌, ◌⊎◌, ℕ, Bool, true, false, List, [], Some, Ok, slice_get}
use Rattle.py_data.specs.declared.stop.Conflict.{Conflict}
use Rattle.py_data.specs.Heap.{Heap}
use Rattle.lock_run.specs.declared.client.Life.TheVariants.{Failed}
use Rattle.lock_run.specs.declared.turn.Turn.{Turn}
use Rattle.lock_run.specs.RunState.{first_world}
use Rattle.lock_run.specs.Prog.{Prog}
use Rattle.lock_run.specs.Machine.{begin_with}
use Rattle.seg_store.specs.Meaning.{Part}
use Rattle.stm_core.specs.declared.commit.Commit.{Commit}
use Rattle.stm_core.specs.declared.standing.RunState.{RunState}
use Rattle.stm_segment.specs.CoreState.{Transaction, Idle, Running, CoreState}
use Rattle.stm_core.specs.Outside.{Outer, InCore, Kept}
use Rattle.stm_segment.specs.Devices.{DeviceState, Tells, CountsGrow}
use Rattle.stm_core.specs.SaneCore.{CauseRose}
use Rattle.stm_core.specs.Committed.{Committed}
use Rattle.stm_core.specs.Standing.{IsOutcome}

-- what runs is dropped
abbrev pub idle_core : {S : Type 0} → CoreState S → CoreState S
idle_core c = record c { segments = λ j. Idle }

-- a segment has nothing in hand in the store
abbrev pub IsUnused : Part → Type 0
IsUnused p = (p.changed ≡ []) × (p.made ≡ [])

-- thread 0 ended by an exception
abbrev pub HasFailed : {S : Type 0} → Prog S → CoreState S → Type 0
HasFailed {S} p c = (q : S) × (slice_get c.threads 0 ≡ Some q) × (p.life q ≡ Failed)

-- whether it did
abbrev pub HasFailedIf : {S : Type 0} → Prog S → CoreState S → Bool → Type 0
HasFailedIf p c true = HasFailed p c
HasFailedIf p c false = HasFailed p c → ⊥

-- The solo transaction, if there is one, is committed up to its last whole step.
abbrev pub SettlesSolo : {S : Type 0} → Prog S → ℕ → Outer S → Outer S → Type 0
SettlesSolo {S} p n o u =
    (((i : ℕ) (x : Transaction S) → o.core.segments i ≡ Running x → x.solo ≡ false) × (u ≡ o))
    ⊎ ((k : ℕ) × (x : Transaction S) × (o.core.segments k ≡ Running x) × (x.solo ≡ true) × (c : Commit) × InCore
    (Committed p k n (Ok c)) o u)

-- What a core of n segments that stood for o hands out: the solo transaction was committed, and what else ran dropped,
-- which led to o1. It keeps all that a core keeps; how it stands, its history, conflicts and image are told, and the
-- devices were told what it says.
pub record HandedOut {S : Type 0} (p : Prog S) (most budget n : ℕ) (first d : DeviceState) (state : RunState)
    (failed : Bool) (history : List Turn) (conflicts : List Conflict) (image : Heap) (o o1 : Outer S) : Type 0 where
  pub settled : Outer S
  pub settles : SettlesSolo p n o settled
  pub idle : o1 ≡ record settled { core = idle_core settled.core }
  pub kept : Kept p (begin_with p (first_world first.input first.ends)) most o1
  pub outcome : IsOutcome p budget o1.core state
  pub failed_is : HasFailedIf p o1.core failed
  pub history_is : o1.core.history ≡ history
  pub conflicts_are : o1.core.conflicts ≡ conflicts
  pub image_is : o1.core.image ≡ image
  pub tells : Tells first.out first.err d o1.told
  pub counts : CountsGrow first d
  pub rose : CauseRose o1.core.cause first d
