-- What a call of `advance` leaves of the devices' counts. States `docs/HEAP.md`, "What the devices were told".
use Rattle.std.specs.Prelude.{Some, Result, Err}
use Rattle.stm_core.specs.declared.answers.Advance.{Advance}
use Rattle.stm_core.specs.declared.answers.AdvanceError.{AdvanceError}
use Rattle.stm_core.specs.declared.answers.AdvanceError.TheVariants.{Failed}
use Rattle.stm_segment.specs.Devices.{DeviceState, CountsGrow}
use Rattle.stm_core.specs.SaneCore.{CauseRose}

-- at a fault of a device that device's count rose, or stands at its last number, whichever cause is kept
abbrev pub FaultRose : Result Advance AdvanceError → DeviceState → DeviceState → Type 0
FaultRose (Err (Failed e)) d d1 = CauseRose (Some e) d d1
FaultRose _ d d1 = Unit {0}

-- no count of faults fell, and that of a fault that is told rose
pub record HasCounted (result : Result Advance AdvanceError) (d d1 : DeviceState) : Type 0 where
  pub counts : CountsGrow d d1
  pub rose : FaultRose result d d1
