-- A core with a transaction that was taken out of its segment.
-- What code and proofs say to each other: nothing public rests on it.
use Rattle.std.specs.Prelude.{ℕ, Option, List}
use Rattle.py_data.specs.declared.stop.Side.{Side}
use Rattle.py_data.specs.Heap.{Heap}
use Rattle.lock_run.specs.Prog.{Prog}
use Rattle.lock_run.specs.Machine.{Machine}
use Rattle.seg_store.specs.Meaning.{Meaning}
use Rattle.stm_segment.specs.declared.books.Progress.{Progress}
use Rattle.stm_segment.specs.declared.books.Work.{Work}
use Rattle.stm_segment.specs.declared.books.Books.{Books}
use Rattle.stm_segment.specs.CoreState.{Running, CoreState, with_segment}
use Rattle.stm_core.specs.Good.{Good}
use Rattle.stm_segment.specs.Books.{Worlds, transaction, core_of}
use Rattle.stm_segment.specs.Devices.{DeviceState, Shown}

-- the transaction of this side, which has done so many steps, has this state then, and made and started that
abbrev pub work_of : {S : Type 0} → Side → ℕ → S → Progress S → Work S
work_of s n q p = record {
  thread = s.thread;
  begun = s.begun;
  steps = n;
  solo = s.solo;
  state = q;
  progress = p;
}

-- the core with the transaction that was taken out of segment k
abbrev pub core_with : {S : Type 0} → Worlds → ℕ → Meaning → Books S → Work S → CoreState S
core_with w k m b x = with_segment k (Running (transaction w.own (m.part k) x)) (core_of w m b)

-- a good core, in some worlds, with the transaction that was taken out of segment k, from a first state that may stand
pub record Sane {S : Type 0} (p : Prog S) (sound : Heap → List S → Type 0) (most k : ℕ) (m : Meaning) (b : Books S)
    (x : Work S) : Type 0 where
  pub worlds : Worlds
  pub start : Machine S
  pub first : sound start.heap start.threads
  pub good : Good p start most (core_with worlds k m b x)

-- and the devices show the world of the transaction, where it is solo
pub record SaneShown {S : Type 0} (p : Prog S) (sound : Heap → List S → Type 0) (most k : ℕ) (d : DeviceState)
    (m : Meaning) (b : Books S) (x : Work S) : Type 0 where
  pub sane : Sane p sound most k m b x
  pub out : Option (List ℕ)
  pub err : Option (List ℕ)
  pub shown : Shown x.solo out err d sane.worlds.own
