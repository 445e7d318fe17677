-- What the top call does, and why it answers as it does. States `docs/LANGUAGE.md`, "The top call".
use Rattle.std.specs.String.{string_bytes}
use Rattle.std.specs.Prelude.{◌≡◌, ◌⊎◌, String, ℕ, ◌+◌, ◌*◌, ◌<◌, ◌≤◌, map, List, [], Option, Some, None, option_map, Result}
use Rattle.py_data.specs.declared.stop.Conflict.{Conflict}
use Rattle.py_data.specs.Heap.{Heap}
use Rattle.py_base.specs.declared.refusal.Refusal.{Refusal}
use Rattle.stm_io.specs.declared.error.PutError.{PutError}
use Rattle.stm_io.specs.Outside.{LoaderState, SourceState, SinkState, Rose, Puts, PutCause}
use Rattle.lock_run.specs.declared.turn.Turn.{Turn}
use Rattle.lock_run.specs.Prog.{Prog}
use Rattle.lock_run.specs.Machine.{begin_with}
use Rattle.lock_run.specs.RunState.{first_world, steps_done, SomeLives, IsDone, IsStuck, IsSpent}
use Rattle.seg_store.specs.Meaning.{Meaning}
use Rattle.stm_segment.specs.declared.cause.Cause.TheVariants.{ReadFault, WriteFault, ErrFault}
use Rattle.stm_core.specs.Events.{Limits}
use Rattle.stm_core.specs.Finishing.{IsUnused}
use Rattle.heap_bound.specs.Growth.{IsNearlyFull}
use Rattle.heap_bound.specs.Moments.{IsWanted, Once}
use Rattle.stm_words.specs.declared.call.Options.{Options}
use Rattle.stm_words.specs.Options.{options_of}
use Rattle.stm_top.specs.declared.status.Status.{Status}
use Rattle.stm_top.specs.declared.answer.Answer.{Answer}
use Rattle.stm_top.specs.declared.answer.Answer.TheVariants.{Done, Failed, Usage, Refused, LoaderFailed, InputFailed, OutputFailed, ErrorOutputFailed, HeapFull, Stuck, BudgetSpent, OutOfMemory, ScriptTooLong}
use Rattle.stm_top.specs.Answer.{status_of, IsText}
use Rattle.stm_top.specs.Script.{Origin, Taken, TooLong, NotLoaded, NotTaken, AskedAtMost}
use Rattle.stm_top.specs.Serial.{Serial, IsWhole, IsCutBy, FirstFailed}

-- the devices of a call, as far as they tell of themselves
pub record Devices : Type 0 where
  pub loader : LoaderState
  pub input : SourceState
  pub out : SinkState
  pub err : SinkState

abbrev pub devices_of : {L I O E : Type 0} → (L → LoaderState) → (I → SourceState) → (O → SinkState) →
    (E → SinkState) → L → I → O → E → Devices
devices_of loader_of source sink error_sink loader input out err =
    record { loader = loader_of loader; input = source input; out = sink out; err = error_sink err }

-- those of them from which a script may come
abbrev pub origin : Devices → Origin
origin d = record { loader = d.loader; input = d.input }

-- what a call reports beside its status and its text: of the store what it means, and how many words it has reserved
pub record Told : Type 0 where
  pub history : List Turn
  pub conflicts : List Conflict
  pub store : Option Meaning
  pub reserved : Option ℕ

abbrev pub told_of : {S : Type 0} → (S → Meaning) → (S → ℕ) → List Turn → List Conflict → Option S → Told
told_of meaning words history conflicts store = record {
  history = history;
  conflicts = conflicts;
  store = option_map meaning store;
  reserved = option_map words store;
}

-- the bytes of words
abbrev pub bytes_of : {Z : Type 0} → List (String Z) → List (List ℕ)
bytes_of words = map string_bytes words

-- ---- where threads ran

-- how many words a store of so many pages has at most
abbrev pub store_words : ℕ → ℕ
store_words pages = 512 * pages

-- what stays the same in a run: the most steps of a turn, the steps at which no turn begins any more, the segments, and
-- the words
abbrev pub limits_of : Options → Limits
limits_of o = record { length = o.length; budget = o.budget; segments = o.segments; words = store_words o.pages }

-- the report's store has this heap, so many segments and words, and no changes
pub record IsLeft (l : Limits) (heap : Heap) (store : Option Meaning) : Type 0 where
  pub meaning : Meaning
  pub is : store ≡ Some meaning
  pub image : meaning.image ≡ heap
  pub segments : meaning.segments ≡ l.segments
  pub words : meaning.limit ≡ l.words
  pub unused : (j : ℕ) → IsUnused (meaning.part j)

-- how many failures each device has counted
pub record Faults : Type 0 where
  pub input : ℕ
  pub out : ℕ
  pub err : ℕ

abbrev pub faults_of : Devices → Faults
faults_of d = record { input = d.input.faults; out = d.out.faults; err = d.err.faults }

-- no count of failures fell
pub record NoneFell (a b : Faults) : Type 0 where
  pub input : a.input ≤ b.input
  pub out : a.out ≤ b.out
  pub err : a.err ≤ b.err

-- the report's store has reserved at least so many words
abbrev pub HasReserved : ℕ → Option ℕ → Type 0
HasReserved words reserved = (most : ℕ) × (reserved ≡ Some most) × (words ≤ most)

-- why a run came to its end, with the words that the report's store has reserved, and the counts of failures before the
-- run and after it
abbrev pub RunEnded : {S : Type 0} {p : Prog S} {length : ℕ} {input : SourceState} {out err : Option (List ℕ)}
    {history : List Turn} {conflicts : List Conflict} {input1 : SourceState} {out1 err1 : Option (List ℕ)} → Limits →
    Option ℕ → Answer → Faults → Faults
    → Serial p length input out err history conflicts input1 out1 err1 → Type 0
RunEnded {p = p} l w Done a b r = IsWhole r.ended × IsDone p r.machine × (FirstFailed p r.machine → ⊥)
RunEnded {p = p} l w Failed a b r = IsWhole r.ended × IsDone p r.machine × FirstFailed p r.machine
RunEnded l w InputFailed a b r = IsCutBy ReadFault r.ended × Rose a.input b.input
RunEnded l w OutputFailed a b r = IsCutBy WriteFault r.ended × Rose a.out b.out
RunEnded l w ErrorOutputFailed a b r = IsCutBy ErrFault r.ended × Rose a.err b.err
RunEnded {p = p} {input = input} {history = history} l w (HeapFull reserved need limit) a b r =
    SomeLives p r.machine × (limit ≡ l.words) × (limit < reserved + need) × HasReserved reserved w
    × IsNearlyFull p (begin_with p (first_world input.told input.ends)) l.length l.segments limit history r.machine.heap
    × Once p (begin_with p (first_world input.told input.ends)) history r.machine (λ m. IsWanted p l.length m need)
RunEnded {p = p} l w Stuck a b r = IsWhole r.ended × IsStuck p r.machine
RunEnded {p = p} {history = history} l w (BudgetSpent steps) a b r =
    IsWhole r.ended × IsSpent p l.budget history r.machine × (steps ≡ steps_done history)
RunEnded {p = p} l w OutOfMemory a b r = SomeLives p r.machine
RunEnded l w _ a b r = ⊥

-- ---- the whole call

-- no thread ran, and nothing was written
pub record NothingRan (a : Devices) (t : Told) (b : Devices) : Type 0 where
  pub history : t.history ≡ []
  pub conflicts : t.conflicts ≡ []
  pub store : t.store ≡ None
  pub out : b.out ≡ a.out
  pub err : b.err ≡ a.err

-- neither the loader nor the source was asked for anything
abbrev pub NothingTaken : Devices → Devices → Type 0
NothingTaken a b = origin b ≡ origin a

-- A text was put to an output, whole, or as far as a counted failure or want of memory let it. An empty one wasn't put.
pub record TextPut (text : List ℕ) (before now : SinkState) : Type 0 where
  pub result : Result (Unit {0}) PutError
  pub puts : Puts before.told text result now.told
  pub cause : PutCause before.faults now.faults result
  pub empty : text ≡ [] → now ≡ before

-- P: programs; `is_code` says which program a text has, `refused` why it has none, and `rows` what a program's threads
-- do
module _ {P S : Type 0} (is_code : List ℕ → P → Type 0) (refused : List ℕ → Refusal → Type 0) (rows : P → Prog S) where
  -- A script was taken that has a program, and transactions of its threads ran. The report's store has the heap that
  -- the history gives.
  pub record Ran (o : Options) (a : Devices) (t : Told) (b : Devices) : Type 0 where
    pub text : List ℕ
    pub source : SourceState
    pub taken : Taken o.script text (origin a) (record { loader = b.loader; input = source })
    pub program : P
    pub is : is_code text program
    pub serial : Serial (rows program) o.length source a.out.told a.err.told t.history t.conflicts b.input
        b.out.told b.err.told
    pub store : IsLeft (limits_of o) serial.machine.heap t.store
    pub counts : NoneFell (faults_of a) (faults_of b)

  -- and the run came to its end so
  abbrev pub RanTo : Answer → Options → Devices → Told → Devices → Type 0
  RanTo answer o a t b = (r : Ran o a t b) ×
      RunEnded (limits_of o) t.reserved answer (faults_of a) (faults_of b) r.serial

  -- the cause of each answer, with these options
  abbrev pub CausedBy : Answer → Options → Devices → Told → Devices → Type 0
  CausedBy Usage o a t b = ⊥
  CausedBy (Refused refusal) o a t b = NothingRan a t b × (text : List ℕ) × Taken o.script text (origin a) (origin b) ×
      refused text refusal
  CausedBy LoaderFailed o a t b = NothingRan a t b × NotLoaded o.script (origin a) (origin b)
  CausedBy ScriptTooLong o a t b = NothingRan a t b × TooLong o.script (origin a) (origin b)
  CausedBy InputFailed o a t b = (NothingRan a t b × NotTaken o.script (origin a) (origin b)) ⊎ RanTo InputFailed o a t
      b
  CausedBy OutOfMemory o a t b = (NothingRan a t b × AskedAtMost o.script (origin a) (origin b)) ⊎ RanTo OutOfMemory o
      a t b
  CausedBy answer o a t b = RanTo answer o a t b

  -- the words give options, and with them the answer has its cause
  abbrev pub CausedWith : Answer → List (List ℕ) → Devices → Told → Devices → Type 0
  CausedWith answer words a t b = (o : Options) × (options_of words ≡ Some o) × CausedBy answer o a t b

  -- the cause of each answer; there may be no memory for reading the words
  abbrev pub Caused : Answer → List (List ℕ) → Devices → Told → Devices → Type 0
  Caused Usage words a t b = (options_of words ≡ None) × NothingRan a t b × NothingTaken a b
  Caused OutOfMemory words a t b = (NothingRan a t b × NothingTaken a b) ⊎ CausedWith OutOfMemory words a t b
  Caused answer words a t b = CausedWith answer words a t b

  -- What a call answers: its status, its cause, and its text, which was put to the error output last.
  pub record Answered (words : List (List ℕ)) (a : Devices) (status : Status) (text : List ℕ) (t : Told)
      (b : Devices) : Type 0 where
    pub answer : Answer
    pub is : status ≡ status_of answer
    pub err_before : SinkState
    pub cause : Caused answer words a t (record b { err = err_before })
    pub says : IsText answer text
    pub put : TextPut text err_before b.err
