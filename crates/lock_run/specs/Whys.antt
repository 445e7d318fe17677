-- Why a turn was cut, by the Stop of its step. States `docs/HEAP.md`, "Turns and runs".
use Rattle.std.specs.Prelude.{Bool, true, false}
use Rattle.lock_run.specs.declared.turn.TurnWhy.{TurnWhy}
use Rattle.lock_run.specs.declared.turn.TurnWhy.TheVariants.{BadNames, ReadFault, WriteFault, ErrFault, OutOfMemory}
use Rattle.py_data.specs.declared.stop.Stop.{Stop}
use Rattle.py_data.specs.declared.stop.Stop.TheVariants.{ReadFault as ReadStop, WriteFault as WriteStop, ErrFault as ErrStop, OutOfMemory as MemoryStop}

-- want of memory, or of a name
abbrev pub memory_why : Bool → TurnWhy
memory_why true = BadNames
memory_why false = OutOfMemory

-- a fault of a device is the turn's; the other Stops a plain view doesn't give
abbrev pub why_of_stop : Stop → Bool → TurnWhy
why_of_stop ReadStop b = ReadFault
why_of_stop WriteStop b = WriteFault
why_of_stop ErrStop b = ErrFault
why_of_stop MemoryStop b = memory_why b
why_of_stop _ b = OutOfMemory
