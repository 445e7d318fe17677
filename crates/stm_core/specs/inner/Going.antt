-- What code and proofs say to each other: nothing public rests on it.
-- A core from which a transaction was taken out of its hand to go on, and what a call leaves in which it went on.
-- States `docs/HEAP.md`, "Advance".
use Rattle.std.specs.Prelude.{◌≡◌, ℕ, ◌≤◌, List, Option, Some, Result, slice_get}
use Rattle.py_data.specs.Heap.{Heap}
use Rattle.stm_io.specs.Outside.{SourceState, SinkState}
use Rattle.lock_run.specs.Prog.{Prog}
use Rattle.seg_store.specs.Meaning.{Meaning}
use Rattle.seg_store.specs.Store.{IsStore}
use Rattle.stm_core.specs.declared.answers.Advance.{Advance}
use Rattle.stm_core.specs.declared.answers.AdvanceError.{AdvanceError}
use Rattle.stm_segment.specs.declared.books.Hand.TheVariants.{Idle}
use Rattle.stm_segment.specs.declared.books.Work.{Work}
use Rattle.stm_core.specs.declared.transactions.Core.{Core}
use Rattle.stm_core.specs.Begun.{CountsSteps}
use Rattle.stm_segment.specs.Books.{Fit, Worlds}
use Rattle.stm_core.specs.Counted.{FaultRose}
use Rattle.stm_segment.specs.Devices.{Shown, device_state}
use Rattle.stm_segment.specs.InUse.{IfTold}
use Rattle.stm_core.specs.inner.Rising.{RisesOut}
use Rattle.stm_core.specs.inner.Settled.{Rises}
use Rattle.stm_core.specs.inner.Trying.{SaneShown, core_with}
use Rattle.stm_core.specs.inner.Whole.{Whole, SameShape}

module _ {C S I O E T : Type 0} (input : I → SourceState) (out : O → SinkState) (err : E → SinkState)
    (prog : C → Prog T) (meaning : S → Meaning) (taken : S → ℕ) where
  -- The transaction x is out of the hand of segment k, and with it in its hand the core is good.
  pub record MayGoOn (sound : C → Heap → List T → Type 0) (most k : ℕ) (x : Work T) (c : Core C S I O E T) :
      Type 0 where
    pub fit : Fit k (meaning c.store) c.books x.progress
    pub store : IsStore (taken c.store) (meaning c.store)
    pub idle : slice_get c.books.hands.items k ≡ Some Idle
    pub count : CountsSteps c.spent c.books.history.entries
    pub sane : SaneShown (prog c.client.now) (sound c.client.now) most k (device_state input out err c.devices)
        (meaning c.store) c.books x

  -- The transaction x went on and is in its hand again, or was dropped or committed: the job stays, no peak and no
  -- count of faults rises but by its steps, and store and books fit together.
  pub record GoneOn (told : S → Option (ℕ → ℕ)) (most k : ℕ) (x : Work T) (result : Result Advance AdvanceError)
      (c c1 : Core C S I O E T) : Type 0 where
    pub rest : c1 ≡ record c { store = c1.store; books = c1.books; devices = c1.devices; spent = c1.spent }
    pub shape : SameShape (meaning c.store) (meaning c1.store)
    pub reserved : taken c.store ≤ taken c1.store
    pub peaks : (t e : Option (List ℕ)) (w : Worlds) →
        Shown x.solo t e (device_state input out err c.devices) w.own → IfTold (told c.store) (told c1.store)
        (RisesOut (prog c.client.now) most k (meaning c.store) (core_with w k (meaning c.store) c.books x))
    pub whole : Whole (meaning c1.store) c1.books
    pub count : CountsSteps c1.spent c1.books.history.entries
    pub rises : Rises c.books.cause c1.books.cause (device_state input out err c.devices)
        (device_state input out err c1.devices)
    pub fault : FaultRose result (device_state input out err c.devices) (device_state input out err c1.devices)
