-- What a core is to its callers: the states for which it stands, what stays the same, and when it is good.
-- States `docs/HEAP.md`, "The transactional core" and "A good core".
use Rattle.std.specs.Prelude.{◌≡◌, ℕ, ◌+◌, ◌<◌, ◌≤◌, List, Option, Some}
use Rattle.py_data.specs.Heap.{Heap}
use Rattle.stm_io.specs.Outside.{SourceState, SinkState}
use Rattle.lock_run.specs.Prog.{Prog}
use Rattle.seg_store.specs.Meaning.{Meaning}
use Rattle.seg_store.specs.Store.{IsStore}
use Rattle.stm_segment.specs.declared.cause.Cause.{Cause}
use Rattle.stm_segment.specs.declared.cause.Cause.TheVariants.{Full}
use Rattle.stm_core.specs.declared.transactions.Core.{Core}
use Rattle.stm_core.specs.Outside.{Outer}
use Rattle.stm_segment.specs.Devices.{DeviceState, device_state}
use Rattle.stm_core.specs.inner.Whole.{Whole}
use Rattle.stm_core.specs.SaneCore.{StandsFor, SaneCore, LeadsBetween}
use Rattle.stm_core.specs.Begun.{CountsSteps}
use Rattle.stm_core.specs.Events.{Limits}

abbrev pub core_store : {C S I O E T : Type 0} → Core C S I O E T → S
core_store x = x.store

-- the client whose threads it runs
abbrev pub core_client : {C S I O E T : Type 0} → Core C S I O E T → C
core_client x = x.client.now

abbrev pub core_limits : {C S I O E T : Type 0} → (S → Meaning) → Core C S I O E T → Limits
core_limits meaning x = record {
  length = x.length;
  budget = x.budget;
  segments = (meaning x.store).segments;
  words =
      (meaning x.store).limit;
}

-- a kept Full: by the store's numbers its need wasn't there, of which what is reserved never falls
abbrev pub IsFullKept : ℕ → ℕ → Option Cause → Type 0
IsFullKept reserved limit (Some (Full r n l)) = (l ≡ limit) × (r ≤ reserved) × (l < r + n)
IsFullKept reserved limit _ = Unit {0}

module _ {C S I O E T : Type 0} (input : I → SourceState) (out : O → SinkState) (err : E → SinkState) where
  -- its devices, and as they were when it was made
  abbrev pub core_devices : Core C S I O E T → DeviceState
  core_devices x = device_state input out err x.devices

  abbrev pub first_devices : Core C S I O E T → DeviceState
  first_devices x = device_state input out err x.made_with.value

  -- it stands for this state
  abbrev pub CoreStands : (C → Prog T) → (S → Meaning) → Core C S I O E T → Outer T → Type 0
  CoreStands prog meaning x o = StandsFor (prog x.client.now) x.length (first_devices x) (core_devices x)
      (meaning x.store) x.books o

  -- of each state for which it stands this holds
  abbrev pub Says : (C → Prog T) → (S → Meaning) → Core C S I O E T → (Outer T → Type 0) → Type 0
  Says prog meaning x says = (o : Outer T) → CoreStands prog meaning x o → says o

  -- each state for which a core stood leads so to one for which it stands after a call
  abbrev pub Leads : (C → Prog T) → (S → Meaning) → Core C S I O E T → Core C S I O E T → (Outer T → Outer T → Type 0)
      → Type 0
  Leads prog meaning x y leads = LeadsBetween (CoreStands prog meaning x) (CoreStands prog meaning y) leads

  -- Store and books fit together, a kept Full was one, and the core stands for a state that keeps what a core keeps.
  pub record IsGoodCore (prog : C → Prog T) (sound : C → Heap → List T → Type 0) (reserved : S → ℕ)
      (meaning : S → Meaning) (x : Core C S I O E T) : Type 0 where
    pub store : IsStore (reserved x.store) (meaning x.store)
    pub whole : Whole (meaning x.store) x.books
    pub count : CountsSteps x.spent x.books.history.entries
    pub kept : IsFullKept (reserved x.store) (meaning x.store).limit x.books.cause
    pub sane : SaneCore (prog x.client.now) (sound x.client.now) x.length (first_devices x) (core_devices x)
        (meaning x.store) x.books

-- the job stays: the same client and limits, and the devices with which the core was made
pub record SameJob {C S I O E T : Type 0} (meaning : S → Meaning) (x y : Core C S I O E T) : Type 0 where
  pub client : core_client y ≡ core_client x
  pub limits : core_limits meaning y ≡ core_limits meaning x
  pub made_with : y.made_with ≡ x.made_with

-- it was made with these devices
pub record HasDevices {C S I O E T : Type 0} (input : I) (out : O) (err : E) (x : Core C S I O E T) : Type 0 where
  pub input_is : x.made_with.value.input ≡ input
  pub out_is : x.made_with.value.out ≡ out
  pub err_is : x.made_with.value.err ≡ err
