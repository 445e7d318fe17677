-- What code and proofs say to each other: nothing public rests on it. A transaction that was taken out of its hand, and
-- what came of it: the states of the core that store, books and devices stand for before and after.
-- States `docs/HEAP.md`, "Advance".
use Rattle.std.specs.Prelude.{◌≡◌, ◌⊎◌, ℕ, true, false, List, Option, None}
use Rattle.lock_run.specs.Prog.{Prog}
use Rattle.seg_store.specs.Meaning.{Meaning}
use Rattle.stm_segment.specs.declared.cause.Cause.{Cause}
use Rattle.stm_segment.specs.declared.books.Work.{Work}
use Rattle.stm_segment.specs.declared.books.Books.{Books}
use Rattle.stm_core.specs.declared.steps.Pause.{Pause}
use Rattle.stm_core.specs.Outside.{Outer}
use Rattle.stm_segment.specs.Devices.{DeviceState, Tells, Shown, CountsGrow}
use Rattle.stm_segment.specs.Books.{Worlds, broken_of, core_of}
use Rattle.stm_core.specs.inner.Trying.{core_with}
use Rattle.stm_core.specs.inner.Pausing.{PauseWhy, HasTold}
use Rattle.stm_core.specs.SaneCore.{CauseRose}

-- The state o, with the transaction x out of its hand: its world is that of the devices where it is solo, and where it
-- isn't, what was told is as it was.
pub record IsTakenOut {S : Type 0} (t e : Option (List ℕ)) (d : DeviceState) (w : Worlds) (k : ℕ) (m : Meaning)
    (b : Books S) (x : Work S) (o : Outer S) : Type 0 where
  pub core : o.core ≡ core_with w k m b x
  pub broken : o.broken ≡ broken_of b.broken
  pub tells : Tells t e d o.told
  pub mid : b.broken ≡ None → o.told.mid ≡ d.mid
  pub shown : Shown x.solo t e d w.own

-- The state o, in which steps of x came to an end so, with x out of its hand: what was told is the world of x where it
-- is solo, up to its last whole step, and where it isn't, what the devices were told.
pub record IsOut {S : Type 0} (p : Prog S) (t e : Option (List ℕ)) (d : DeviceState) (w : Worlds) (k : ℕ)
    (pause : Pause) (m : Meaning) (r : ℕ) (b : Books S) (x : Work S) (o : Outer S) : Type 0 where
  pub core : o.core ≡ core_with w k m b x
  pub broken : o.broken ≡ broken_of b.broken
  pub why : PauseWhy p w k pause m r b x
  pub told : HasTold p t e w k pause m x d
  pub own : x.solo ≡ true → o.told ≡ w.own
  pub tells : x.solo ≡ false → Tells t e d o.told
  pub mid : x.solo ≡ false → b.broken ≡ None → o.told.mid ≡ d.mid

-- A state to which this leads, for which store, books and devices stand.
pub record SettledTo {S : Type 0} (t e : Option (List ℕ)) (d : DeviceState) (m1 : Meaning) (b1 : Books S)
    (leads : Outer S → Type 0) : Type 0 where
  pub state : Outer S
  pub worlds : Worlds
  pub is : leads state
  pub core : state.core ≡ core_of worlds m1 b1
  pub broken : state.broken ≡ broken_of b1.broken
  pub tells : Tells t e d state.told
  pub mid : b1.broken ≡ None → state.told.mid ≡ d.mid

-- the cause that is kept is that of before, or the count of its device rose
abbrev pub KeepsOrRose : Option Cause → Option Cause → DeviceState → DeviceState → Type 0
KeepsOrRose cause cause1 d d1 = (cause1 ≡ cause) ⊎ CauseRose cause1 d d1

-- no count of faults falls, and where a cause is kept now and none was, that of its device rose
pub record Rises (cause cause1 : Option Cause) (d d1 : DeviceState) : Type 0 where
  pub counts : CountsGrow d d1
  pub rose : KeepsOrRose cause cause1 d d1
