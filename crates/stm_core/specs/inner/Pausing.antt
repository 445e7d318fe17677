-- What code and proofs say to each other: nothing public rests on it.
-- Why steps of a transaction came to an end, as the core is then. States `docs/HEAP.md`, "Events".
use Rattle.std.specs.Prelude.{◌≡◌, ◌≢◌, ℕ, ◌+◌, ◌<◌, Bool, true, false, List, Option}
use Rattle.py_data.specs.Heap.{Heap}
use Rattle.py_data.specs.World.{World}
use Rattle.lock_run.specs.declared.client.Life.TheVariants.{Lives}
use Rattle.lock_run.specs.Prog.{Prog}
use Rattle.seg_store.specs.Meaning.{Meaning}
use Rattle.stm_segment.specs.declared.books.Work.{Work}
use Rattle.stm_segment.specs.declared.books.Books.{Books}
use Rattle.stm_segment.specs.declared.halt.Halt.{Halt}
use Rattle.stm_segment.specs.declared.halt.Halt.TheVariants.{Lost, NeedSolo, Full, OutOfMemory}
use Rattle.stm_core.specs.declared.steps.Pause.{Pause}
use Rattle.stm_core.specs.declared.steps.Pause.TheVariants.{Whole, Waits, Ended, Stopped}
use Rattle.stm_segment.specs.CoreState.{CoreState, sight_of}
use Rattle.stm_segment.specs.Asking.{WaitsThere, Reaches, AsksOutside, AsksRoom}
use Rattle.stm_segment.specs.Conflict.{IsStanding, AsksFrom}
use Rattle.stm_segment.specs.Devices.{DeviceState, Shown, IsLeftAlone, CountsGrow, StopRose}
use Rattle.stm_segment.specs.Books.{Worlds, with_own, transaction}
use Rattle.stm_core.specs.inner.Whole.{StepBroke}
use Rattle.stm_core.specs.inner.Pauses.{tried_by}
use Rattle.stm_core.specs.Advance.{Gone}
use Rattle.stm_core.specs.inner.Trying.{core_with, Sane, SaneShown}

-- The next step of the transaction x of segment k was cut at a call that it comes to: the call changes a record by
-- which x loses a conflict that stands, prints or reads, or wants words that the store doesn't have; or there was no
-- memory, or, of a solo one, a device failed.
abbrev pub StopWhy : {S : Type 0} → Prog S → Worlds → ℕ → Halt → Meaning → ℕ → Books S → Work S → Type 0
StopWhy p w k (Lost f) m reserved b x = IsStanding p (core_with w k m b x) f × AsksFrom k 1 f × (x.solo ≡ false)
StopWhy p w k NeedSolo m reserved b x = Reaches (p.row x.state)
    (sight_of m.image w.committed (transaction w.own (m.part k) x)) AsksOutside × (x.solo ≡ false)
StopWhy p w k (Full r n l) m reserved b x =
    Reaches (p.row x.state) (sight_of m.image w.committed (transaction w.own (m.part k) x)) (AsksRoom n) ×
    (r ≡ reserved) × (l ≡ m.limit) × (l < r + n)
StopWhy p w k OutOfMemory m reserved b x = Unit {0}
StopWhy p w k _ m reserved b x = x.solo ≡ true

-- The transaction x of segment k came to here. Either its thread lives no more; or it lives, and all steps that were
-- asked for were done, or the next step waits over what the transaction sees, or the next step was cut.
abbrev pub PauseWhy : {S : Type 0} → Prog S → Worlds → ℕ → Pause → Meaning → ℕ → Books S → Work S → Type 0
PauseWhy p w k Ended m reserved b x = p.life x.state ≢ Lives
PauseWhy p w k Whole m reserved b x = p.life x.state ≡ Lives
PauseWhy p w k Waits m reserved b x = (p.life x.state ≡ Lives) × WaitsThere p m.image w.committed
    (transaction w.own (m.part k) x)
PauseWhy p w k (Stopped stop) m reserved b x = (p.life x.state ≡ Lives) × StopWhy p w k stop m reserved b x

-- What a solo transaction has told the devices then: its world, and where its next step was cut a part of that step
-- besides.
abbrev pub HasTold : {S : Type 0} → Prog S → Option (List ℕ) → Option (List ℕ) → Worlds → ℕ → Pause → Meaning →
    Work S → DeviceState → Type 0
HasTold p t e w k (Stopped stop) m x d = x.solo ≡ true →
    StepBroke p t e m.image w.committed (transaction w.own (m.part k) x) stop d
HasTold p t e w k _ m x d = Shown x.solo t e d w.own

-- Steps of the transaction, from a state c of the core on, came to an end so: `done` of them were done, and the next
-- one was tried where one is left.
pub record Paused {S : Type 0} (p : Prog S) (length k : ℕ) (t e : Option (List ℕ)) (w : Worlds) (c : CoreState S)
    (done : ℕ) (pause : Pause) (m1 : Meaning) (r1 : ℕ) (b1 : Books S) (x1 : Work S) (d1 : DeviceState) : Type 0 where
  pub own : World
  pub mortal : x1.solo ≡ false → own ≡ w.own
  pub gone : Gone p length k done (tried_by pause) c (core_with (with_own own w) k m1 b1 x1)
  pub why : PauseWhy p (with_own own w) k pause m1 r1 b1 x1
  pub told : HasTold p t e (with_own own w) k pause m1 x1 d1

-- the fault of a device that a pause tells was counted
abbrev pub PauseRose : Pause → DeviceState → DeviceState → Type 0
PauseRose (Stopped stop) d d1 = StopRose stop d d1
PauseRose _ d d1 = Unit {0}

-- What steps leave of the devices: no count of faults falls, a fault that a pause tells was counted, and steps of a
-- transaction that isn't solo tell them nothing.
pub record DevicesGrow (solo : Bool) (pause : Pause) (d d1 : DeviceState) : Type 0 where
  pub counts : CountsGrow d d1
  pub rose : PauseRose pause d d1
  pub alone : solo ≡ false → IsLeftAlone d d1

-- the good core once steps came to an end so: after one that was cut the devices may have been told a part of it
abbrev pub SaneAfter : {S : Type 0} → Prog S → (Heap → List S → Type 0) → ℕ → ℕ → Pause → DeviceState → Meaning →
    Books S → Work S → Type 0
SaneAfter p sound most k (Stopped stop) d m b x = Sane p sound most k m b x
SaneAfter p sound most k _ d m b x = SaneShown p sound most k d m b x
