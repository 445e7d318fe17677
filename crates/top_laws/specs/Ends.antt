-- Which statuses a call may have, by what is known of it from outside. States `docs/LANGUAGE.md`, "The top call".
use Rattle.std.specs.Prelude.{◌≡◌, ◌⊎◌, ℕ, ◌≤◌, List, []}
use Rattle.py_base.specs.declared.refusal.Refusal.{Refusal}
use Rattle.py_data.specs.World.{grown}
use Rattle.stm_io.specs.Outside.{SinkState, Rose}
use Rattle.lock_run.specs.declared.turn.Turn.{Turn}
use Rattle.lock_run.specs.Prog.{Prog}
use Rattle.lock_run.specs.RunState.{steps_done, SomeLives, IsDone, IsStuck, IsSpent}
use Rattle.lock_run.specs.Machine.{Machine}
use Rattle.stm_core.specs.Events.{Limits}
use Rattle.heap_bound.specs.Growth.{IsNearlyFull}
use Rattle.stm_top.specs.declared.status.Status.{Status}
use Rattle.stm_top.specs.declared.status.Status.TheVariants.{Done, Failed, Usage, Refused, LoaderFailed, InputFailed, OutputFailed, ErrorOutputFailed, HeapFull, Stuck, BudgetSpent, OutOfMemory, ScriptTooLong}
use Rattle.stm_top.specs.Answer.{refusal_text}
use Rattle.stm_top.specs.Serial.{FirstFailed}
use Rattle.stm_top.specs.TopCall.{Devices, TextPut}

-- ---- by the report's store

-- nothing ran: 2, 3, 4, 5, 11 or 12
abbrev pub MayBeIdle : Status → Type 0
MayBeIdle Usage = Unit {0}
MayBeIdle Refused = Unit {0}
MayBeIdle LoaderFailed = Unit {0}
MayBeIdle InputFailed = Unit {0}
MayBeIdle OutOfMemory = Unit {0}
MayBeIdle ScriptTooLong = Unit {0}
MayBeIdle _ = ⊥

-- threads ran: 0, 1, or 5 to 11
abbrev pub MayHaveRun : Status → Type 0
MayHaveRun Usage = ⊥
MayHaveRun Refused = ⊥
MayHaveRun LoaderFailed = ⊥
MayHaveRun ScriptTooLong = ⊥
MayHaveRun _ = Unit {0}

-- ---- by the words and the script

-- words that give no options: 2, or 11
abbrev pub AtNoOptions : Status → Type 0
AtNoOptions Usage = Unit {0}
AtNoOptions OutOfMemory = Unit {0}
AtNoOptions _ = ⊥

-- a script that is refused: 3, whose text tells that refusal, or is empty; 11; or 4 or 5, with a failure
abbrev pub AtRefused : Refusal → List ℕ → Devices → Devices → Status → Type 0
AtRefused refusal text a b Refused = (text ≡ refusal_text refusal) ⊎ (text ≡ [])
AtRefused refusal text a b LoaderFailed = Rose a.loader.faults b.loader.faults
AtRefused refusal text a b InputFailed = Rose a.input.faults b.input.faults
AtRefused refusal text a b OutOfMemory = Unit {0}
AtRefused refusal text a b _ = ⊥

-- a script that is too long: 12; 11; or 4 or 5, with a failure
abbrev pub AtTooLong : Devices → Devices → Status → Type 0
AtTooLong a b ScriptTooLong = Unit {0}
AtTooLong a b LoaderFailed = Rose a.loader.faults b.loader.faults
AtTooLong a b InputFailed = Rose a.input.faults b.input.faults
AtTooLong a b OutOfMemory = Unit {0}
AtTooLong a b _ = ⊥

-- a script that has a program, and nothing ran: 11; or 4 or 5, with a failure
abbrev pub AtUntaken : Devices → Devices → Status → Type 0
AtUntaken a b LoaderFailed = Rose a.loader.faults b.loader.faults
AtUntaken a b InputFailed = Rose a.input.faults b.input.faults
AtUntaken a b OutOfMemory = Unit {0}
AtUntaken a b _ = ⊥

-- ---- by the machine to which the history leads

-- how it stands at each status of a call in which threads ran
abbrev pub StandsAt : {S : Type 0} → Prog S → ℕ → List Turn → Machine S → Status → Type 0
StandsAt p budget history m Done = IsDone p m × (FirstFailed p m → ⊥)
StandsAt p budget history m Failed = IsDone p m × FirstFailed p m
StandsAt p budget history m InputFailed = SomeLives p m
StandsAt p budget history m OutputFailed = SomeLives p m
StandsAt p budget history m ErrorOutputFailed = SomeLives p m
StandsAt p budget history m HeapFull = SomeLives p m
StandsAt p budget history m Stuck = IsStuck p m
StandsAt p budget history m BudgetSpent = IsSpent p budget history m
StandsAt p budget history m OutOfMemory = SomeLives p m
StandsAt p budget history m _ = ⊥

-- the run came to its end by itself: 0, 1, 9 or 10
abbrev pub EndsItself : Status → Type 0
EndsItself Done = Unit {0}
EndsItself Failed = Unit {0}
EndsItself Stuck = Unit {0}
EndsItself BudgetSpent = Unit {0}
EndsItself _ = ⊥

-- a thread lives: 8, 11, or 5, 6 or 7 with a failure; so not 0 and not 1
abbrev pub IsBrokenOff : Devices → Devices → Status → Type 0
IsBrokenOff a b InputFailed = Rose a.input.faults b.input.faults
IsBrokenOff a b OutputFailed = Rose a.out.faults b.out.faults
IsBrokenOff a b ErrorOutputFailed = Rose a.err.faults b.err.faults
IsBrokenOff a b HeapFull = Unit {0}
IsBrokenOff a b OutOfMemory = Unit {0}
IsBrokenOff a b _ = ⊥

-- all threads have ended: 1 where the first one failed, else 0
abbrev pub AtDone : {S : Type 0} → Prog S → Machine S → Status → Type 0
AtDone p m Done = FirstFailed p m → ⊥
AtDone p m Failed = FirstFailed p m
AtDone p m _ = ⊥

-- threads live, and each one waits: 9, or the run was broken off
abbrev pub AtStuck : Devices → Devices → Status → Type 0
AtStuck a b Stuck = Unit {0}
AtStuck a b status = IsBrokenOff a b status

-- a thread can go on: 10 where the turns have the budget's steps, or the run was broken off
abbrev pub AtReady : ℕ → List Turn → Devices → Devices → Status → Type 0
AtReady budget history a b BudgetSpent = budget ≤ steps_done history
AtReady budget history a b status = IsBrokenOff a b status

-- Nothing stands in the way: all threads have ended, and it is 0 or 1; or 11; or 8, while a thread lives, and then the
-- heap to which the history led from its first machine was nearly full.
abbrev pub AtFinished : {S : Type 0} → Prog S → Limits → Machine S → List Turn → Machine S → Status → Type 0
AtFinished p l first history m Done = IsDone p m × (FirstFailed p m → ⊥)
AtFinished p l first history m Failed = IsDone p m × FirstFailed p m
AtFinished p l first history m HeapFull = SomeLives p m × IsNearlyFull p first l.length l.segments l.words history
    m.heap
AtFinished p l first history m OutOfMemory = Unit {0}
AtFinished p l first history m _ = ⊥

-- and there is room for all: 0 or 1, and all threads have ended; or 11
abbrev pub AtComplete : {S : Type 0} → Prog S → Machine S → Status → Type 0
AtComplete p m Done = IsDone p m × (FirstFailed p m → ⊥)
AtComplete p m Failed = IsDone p m × FirstFailed p m
AtComplete p m OutOfMemory = Unit {0}
AtComplete p m _ = ⊥

-- ---- what the devices are left with

-- The devices are left as the machine says: the input with its count of ends, the output, and the error output, to
-- which the text was put last.
pub record LeftBy {S : Type 0} (a : Devices) (text : List ℕ) (b : Devices) (m : Machine S) : Type 0 where
  pub input : b.input.told ≡ m.world.input
  pub ends : b.input.ends ≡ m.world.ends
  pub out : b.out.told ≡ grown a.out.told m.world.out
  pub err_before : SinkState
  pub errors : err_before.told ≡ grown a.err.told m.world.err
  pub put : TextPut text err_before b.err

-- at 9 and 10 all is as the machine left it, but for the text; at 0 and 1 there is no text
abbrev pub LeftAt : {S : Type 0} → Devices → List ℕ → Devices → Machine S → Status → Type 0
LeftAt a text b m Done = LeftBy a text b m × (b.err.told ≡ grown a.err.told m.world.err)
LeftAt a text b m Failed = LeftBy a text b m × (b.err.told ≡ grown a.err.told m.world.err)
LeftAt a text b m Stuck = LeftBy a text b m
LeftAt a text b m BudgetSpent = LeftBy a text b m
LeftAt a text b m _ = Unit {0}
