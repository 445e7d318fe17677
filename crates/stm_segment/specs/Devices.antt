-- The devices of a core as values, and the world that they show. States `docs/HEAP.md`, "What the devices were told".
use Rattle.std.specs.Prelude.{◌≡◌, ℕ, ◌≤◌, Bool, true, List, Option}
use Rattle.py_data.specs.World.{World, grown}
use Rattle.stm_io.specs.Outside.{SourceState, SinkState, Rose}
use Rattle.stm_segment.specs.declared.devices.Devices.{Devices}
use Rattle.stm_segment.specs.declared.halt.Halt.{Halt}
use Rattle.stm_segment.specs.declared.halt.Halt.TheVariants.{ReadFault, WriteFault, ErrFault}

-- what they tell, how often the input came to its end, whether the output is in the middle of a line, whether it was
-- when the open step began, and the counts of faults
pub record DeviceState : Type 0 where
  pub input : Option (List ℕ)
  pub ends : ℕ
  pub out : Option (List ℕ)
  pub err : Option (List ℕ)
  pub mid : Bool
  pub was_mid : Bool
  pub reads : ℕ
  pub writes : ℕ
  pub errs : ℕ

abbrev pub device_state : {I O E : Type 0} → (I → SourceState) → (O → SinkState) → (E → SinkState) → Devices I O E →
    DeviceState
device_state input out err d = record {
  input = (input d.input).told;
  ends = (input d.input).ends;
  out = (out d.out).told;
  err = (err d.err).told;
  mid = d.mid;
  was_mid = d.was_mid;
  reads = (input d.input).faults;
  writes = (out d.out).faults;
  errs = (err d.err).faults;
}

-- They were told the world w, whose outputs were empty when theirs stood at t and e.
pub record Tells (t e : Option (List ℕ)) (d : DeviceState) (w : World) : Type 0 where
  pub input : w.input ≡ d.input
  pub ends : w.ends ≡ d.ends
  pub out : d.out ≡ grown t w.out
  pub err : d.err ≡ grown e w.err

-- and the flag is its
pub record ShowsWorld (t e : Option (List ℕ)) (d : DeviceState) (w : World) : Type 0 where
  pub tells : Tells t e d w
  pub mid : w.mid ≡ d.mid

-- they show the world of a transaction, where it is solo
abbrev pub Shown : Bool → Option (List ℕ) → Option (List ℕ) → DeviceState → World → Type 0
Shown solo t e d w = solo ≡ true → ShowsWorld t e d w

-- nothing was told, and no fault was counted
abbrev pub IsLeftAlone : DeviceState → DeviceState → Type 0
IsLeftAlone d d1 = d1 ≡ record d { was_mid = d1.was_mid }

-- no count of faults falls
pub record CountsGrow (d d1 : DeviceState) : Type 0 where
  pub reads : d.reads ≤ d1.reads
  pub writes : d.writes ≤ d1.writes
  pub errs : d.errs ≤ d1.errs

-- the count of the device whose fault a Halt tells rose, or stands at its last number
abbrev pub StopRose : Halt → DeviceState → DeviceState → Type 0
StopRose ReadFault d d1 = Rose d.reads d1.reads
StopRose WriteFault d d1 = Rose d.writes d1.writes
StopRose ErrFault d d1 = Rose d.errs d1.errs
StopRose _ d d1 = Unit {0}
