-- How a call comes to its end, as code and proofs say it to each other: nothing public rests on it.
use Rattle.std.specs.Prelude.{◌≡◌, ◌⊎◌, ℕ, Bool, true, false, List}
use Rattle.py_base.specs.declared.refusal.Refusal.{Refusal}
use Rattle.lock_run.specs.declared.turn.Turn.{Turn}
use Rattle.lock_run.specs.Prog.{Prog}
use Rattle.lock_run.specs.RunState.{steps_done}
use Rattle.stm_segment.specs.declared.cause.Cause.{Cause}
use Rattle.stm_segment.specs.declared.cause.Cause.TheVariants as cause
use Rattle.stm_core.specs.declared.standing.RunState.{RunState}
use Rattle.stm_core.specs.declared.standing.RunState.TheVariants as state
use Rattle.stm_core.specs.Events.{Limits}
use Rattle.stm_words.specs.declared.call.Options.{Options}
use Rattle.stm_words.specs.declared.call.Script.{Script}
use Rattle.stm_top.specs.declared.answer.Answer.{Answer}
use Rattle.stm_top.specs.declared.answer.Answer.TheVariants.{Done, Failed, Refused, LoaderFailed, InputFailed, OutputFailed, ErrorOutputFailed, HeapFull, Stuck, BudgetSpent, OutOfMemory, ScriptTooLong}
use Rattle.stm_top.specs.Script.{Origin, TooLong, NotLoaded, NotTaken, Untaken}
use Rattle.stm_top.specs.Serial.{Serial}
use Rattle.stm_top.specs.TopCall.{Devices, Told, limits_of, IsLeft, faults_of, NoneFell, RunEnded, NothingRan, NothingTaken}

-- ---- the script

-- why no script was taken
abbrev pub NoScript : Answer → Script → Origin → Origin → Type 0
NoScript LoaderFailed script a b = NotLoaded script a b
NoScript InputFailed script a b = NotTaken script a b
NoScript ScriptTooLong script a b = TooLong script a b
NoScript OutOfMemory script a b = Untaken script a b
NoScript _ script a b = ⊥

-- ---- the run

-- what is told of a cause that a core kept
abbrev pub answer_to : Cause → Answer
answer_to (cause.Full reserved need limit) = HeapFull reserved need limit
answer_to cause.ReadFault = InputFailed
answer_to cause.WriteFault = OutputFailed
answer_to cause.ErrFault = ErrorOutputFailed
answer_to cause.OutOfMemory = OutOfMemory

-- What is told of a run, by how it stands and whether thread 0 failed. No run is handed out that could go on.
abbrev pub AnswerTo : RunState → Bool → List Turn → Answer → Type 0
AnswerTo state.Done false history answer = answer ≡ Done
AnswerTo state.Done true history answer = answer ≡ Failed
AnswerTo state.Stuck failed history answer = answer ≡ Stuck
AnswerTo state.Spent failed history answer =
    ((steps : ℕ) × (answer ≡ BudgetSpent steps) × (steps ≡ steps_done history)) ⊎ (answer ≡ OutOfMemory)
AnswerTo state.Running failed history answer = ⊥
AnswerTo (state.Faulted e) failed history answer = answer ≡ answer_to e

-- threads ran over these devices, and came to their end
pub record RunEnds {S : Type 0} (p : Prog S) (l : Limits) (answer : Answer) (a : Devices) (t : Told)
    (b : Devices) : Type 0 where
  pub serial : Serial p l.length a.input a.out.told a.err.told t.history t.conflicts b.input b.out.told b.err.told
  pub store : IsLeft l serial.machine.heap t.store
  pub ended : RunEnded l t.reserved answer (faults_of a) (faults_of b) serial
  pub counts : NoneFell (faults_of a) (faults_of b)

-- there was no memory for the core, or the threads ran; the loader was left alone
abbrev pub ThreadsEnded : {S : Type 0} → Prog S → Options → Answer → Devices → Told → Devices → Type 0
ThreadsEnded p o answer a t b = (b.loader ≡ a.loader) ×
    ((NothingRan a t b × (b.input ≡ a.input) × (answer ≡ OutOfMemory)) ⊎ RunEnds p (limits_of o) answer a t b)

module _ {P S : Type 0} (is_code : List ℕ → P → Type 0) (refused : List ℕ → Refusal → Type 0) (rows : P → Prog S) where
  -- why a text has no program; want of memory is free
  abbrev pub NoProgram : List ℕ → Answer → Type 0
  NoProgram text (Refused refusal) = refused text refusal
  NoProgram text OutOfMemory = Unit {0}
  NoProgram text _ = ⊥

  -- a text: it has no program, or its program's threads came to their end
  abbrev pub TextEnded : List ℕ → Options → Answer → Devices → Told → Devices → Type 0
  TextEnded text o answer a t b = (NothingRan a t b × NothingTaken a b × NoProgram text answer) ⊎
      ((program : P) × is_code text program × ThreadsEnded (rows program) o answer a t b)
