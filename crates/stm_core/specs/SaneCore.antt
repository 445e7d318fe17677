-- The states that a core stands for, and when it is good. States `docs/HEAP.md`, "A good core" and "What the devices
-- were told".
use Rattle.std.specs.Prelude.{◌≡◌, ℕ, List, Option, Some, None, [], ◌∷◌}
use Rattle.py_data.specs.Heap.{Heap, no_records}
use Rattle.stm_io.specs.Outside.{Rose}
use Rattle.lock_run.specs.RunState.{first_world}
use Rattle.lock_run.specs.Prog.{Prog}
use Rattle.lock_run.specs.Machine.{begin_with}
use Rattle.seg_store.specs.Meaning.{Meaning}
use Rattle.stm_segment.specs.declared.cause.Cause.{Cause}
use Rattle.stm_segment.specs.declared.cause.Cause.TheVariants.{ReadFault, WriteFault, ErrFault}
use Rattle.stm_segment.specs.declared.books.Books.{Books}
use Rattle.stm_core.specs.Outside.{Outer, Kept}
use Rattle.stm_segment.specs.Devices.{DeviceState, Tells, CountsGrow}
use Rattle.stm_segment.specs.Books.{Worlds, broken_of, core_of}

-- Store and books stand for this state of the core, and the devices, which were `first` when the core was made, were
-- told what it says. The state keeps all that a core keeps, from the machine's first state over that input on.
pub record StandsFor {S : Type 0} (p : Prog S) (most : ℕ) (first d : DeviceState) (m : Meaning) (b : Books S)
    (o : Outer S) : Type 0 where
  pub worlds : Worlds
  pub core : o.core ≡ core_of worlds m b
  pub broken : o.broken ≡ broken_of b.broken
  pub tells : Tells first.out first.err d o.told
  pub mid : b.broken ≡ None → o.told.mid ≡ d.mid
  pub kept : Kept p (begin_with p (first_world first.input first.ends)) most o

-- of a kept fault of a device: its count rose since
abbrev pub CauseRose : Option Cause → DeviceState → DeviceState → Type 0
CauseRose (Some ReadFault) d d1 = Rose d.reads d1.reads
CauseRose (Some WriteFault) d d1 = Rose d.writes d1.writes
CauseRose (Some ErrFault) d d1 = Rose d.errs d1.errs
CauseRose _ d d1 = Unit {0}

-- The client's first state may stand over the empty heap. There is a state for which the core stands, no count of
-- faults fell since it was made, and that of a kept fault rose.
pub record SaneCore {S : Type 0} (p : Prog S) (sound : Heap → List S → Type 0) (most : ℕ) (first d : DeviceState)
    (m : Meaning) (b : Books S) : Type 0 where
  pub first_sound : sound no_records (p.first ∷ [])
  pub state : Outer S
  pub stands : StandsFor p most first d m b state
  pub counts : CountsGrow first d
  pub rose : CauseRose b.cause first d

-- A call: each state for which the core stood leads so to one for which it stands then.
abbrev pub LeadsBetween : {S : Type 0} → (Outer S → Type 0) → (Outer S → Type 0) → (Outer S → Outer S → Type 0) → Type 0
LeadsBetween {S} before after leads = (o : Outer S) → before o → (o1 : Outer S) × after o1 × leads o o1
