-- What code and proofs say to each other: nothing public rests on it.
-- Why a step was cut, and the word in which a view's answers say it. States `docs/HEAP.md`, "The view of a segment".
use Rattle.std.specs.Prelude.{None, Some, Result, Ok, Err}
use Rattle.py_data.specs.declared.stop.Stop.{Stop}
use Rattle.py_data.specs.declared.stop.Stop.TheVariants as word
use Rattle.stm_segment.specs.declared.halt.Halt.{Halt}
use Rattle.stm_segment.specs.declared.halt.Halt.TheVariants.{Lost, NeedSolo, Full, ReadFault, WriteFault, ErrFault, OutOfMemory}
use Rattle.stm_segment.specs.declared.halt.LastStop.{LastStop}

-- the word for it
abbrev pub stop_of : Halt → Stop
stop_of (Lost f) = word.Lost
stop_of NeedSolo = word.NeedSolo
stop_of (Full r n l) = word.Full
stop_of ReadFault = word.ReadFault
stop_of WriteFault = word.WriteFault
stop_of ErrFault = word.ErrFault
stop_of OutOfMemory = word.OutOfMemory

-- Why a step over a view was cut that gave this Halt last: its code may have found no memory of its own.
abbrev pub halt_for : Stop → Halt → Halt
halt_for word.OutOfMemory h = OutOfMemory
halt_for _ h = h

-- the Halt that is told once such a step answered: the one that was told before, where it wasn't cut
abbrev pub told : {A : Type 0} → Result A Stop → Halt → Halt → Halt
told (Ok a) before h = before
told (Err e) before h = halt_for e h

-- a view that gave no Stop yet
abbrev pub gave_none : LastStop
gave_none = record { stopped = None; halt = OutOfMemory }

-- one that gave a Stop just now
abbrev pub gave : Halt → LastStop
gave h = record { stopped = Some (stop_of h); halt = h }

-- one whose step was opened or taken back
abbrev pub goes_on : LastStop → LastStop
goes_on o = record o { stopped = None }
