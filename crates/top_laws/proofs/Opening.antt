-- What each status says of its cause. An answer is a thing of `stm_top` alone: what tells the answers apart is their
-- status.
use Rattle.std.proofs.Common.{◌≡◌, ◌⊎◌, inl, inr, ℕ, List, [], false, Option, Some, None, refl, ap, subst, arith, rules}
use Rattle.py_base.specs.declared.refusal.Refusal.{Refusal}
use Rattle.py_data.specs.declared.stop.Conflict.{Conflict}
use Rattle.stm_io.specs.Outside.{SourceState, Rose}
use Rattle.lock_run.specs.declared.turn.Turn.{Turn}
use Rattle.lock_run.specs.Prog.{Prog}
use Rattle.lock_run.specs.Machine.{begin_with}
use Rattle.lock_run.specs.RunState.{first_world, SomeLives, IsDone, IsStuck, IsSpent}
use Rattle.stm_segment.specs.declared.cause.Cause.TheVariants.{ReadFault, WriteFault, ErrFault}
use Rattle.stm_core.specs.Events.{Limits}
use Rattle.heap_bound.specs.Growth.{IsNearlyFull}
use Rattle.stm_words.specs.declared.call.Options.{Options}
use Rattle.stm_words.specs.Options.{options_of}
use Rattle.stm_top.specs.declared.status.Status.{Status}
use Rattle.stm_top.specs.declared.status.Status.TheVariants.{Done, Failed, Usage, Refused, LoaderFailed, InputFailed, OutputFailed, ErrorOutputFailed, HeapFull, Stuck, BudgetSpent, OutOfMemory, ScriptTooLong}
use Rattle.stm_top.specs.Answer.{status_of, refusal_text, IsText}
use Rattle.stm_top.specs.Script.{Taken, TooLong, NotLoaded, NotTaken, AskedAtMost}
use Rattle.stm_top.specs.Serial.{Serial, IsWhole, IsCutBy, FirstFailed}
use Rattle.stm_core.specs.declared.standing.RunState.TheVariants as state
use Rattle.stm_top.specs.inner.Ending.{AnswerTo}
use Rattle.stm_top.specs.TopCall.{Devices, Told, origin, limits_of, Faults, faults_of, NothingRan, NothingTaken, Ran, Caused}

-- a fact that a search takes as a whole, and not apart
data Fact (A : Type 0) : Type 0 where
  Holds : A → Fact A

fact : {A : Type 0} → Fact A → A
fact (Holds x) = x

-- ---- the end of a run

-- at each status
abbrev pub EndedAt : {S : Type 0} {p : Prog S} {length : ℕ} {input : SourceState} {out err : Option (List ℕ)}
    {history : List Turn}
    {conflicts : List Conflict} {input1 : SourceState} {out1 err1 : Option (List ℕ)} → Status → Limits →
    Faults → Faults →
    Serial p length input out err history conflicts input1 out1 err1 → Type 0
EndedAt {p = p} Done l a b r = IsWhole r.ended × IsDone p r.machine × (FirstFailed p r.machine → ⊥)
EndedAt {p = p} Failed l a b r = IsWhole r.ended × IsDone p r.machine × FirstFailed p r.machine
EndedAt InputFailed l a b r = IsCutBy ReadFault r.ended × Rose a.input b.input
EndedAt OutputFailed l a b r = IsCutBy WriteFault r.ended × Rose a.out b.out
EndedAt ErrorOutputFailed l a b r = IsCutBy ErrFault r.ended × Rose a.err b.err
EndedAt {p = p} {input = input} {history = history} HeapFull l a b r = SomeLives p r.machine × IsNearlyFull p
    (begin_with p (first_world input.told input.ends)) l.length l.segments l.words history r.machine.heap
EndedAt {p = p} Stuck l a b r = IsWhole r.ended × IsStuck p r.machine
EndedAt {p = p} {history = history} BudgetSpent l a b r = IsWhole r.ended × IsSpent p l.budget history r.machine
EndedAt {p = p} OutOfMemory l a b r = SomeLives p r.machine
EndedAt _ l a b r = ⊥

-- ---- the cause

module _ {P S : Type 0} (is_code : List ℕ → P → Type 0) (refused : List ℕ → Refusal → Type 0) (rows : P → Prog S) where
  -- transactions ran, and the run came to its end as that status says
  abbrev pub RanAt : Status → Options → Devices → Told → Devices → Type 0
  RanAt x o a t b = (r : Ran is_code refused rows o a t b) ×
      EndedAt x (limits_of o) (faults_of a) (faults_of b) r.serial

  -- a script was taken that is refused
  abbrev pub RefusedFor : Refusal → Options → Devices → Told → Devices → Type 0
  RefusedFor refusal o a t b = NothingRan a t b × (text : List ℕ) × Taken o.script text (origin a) (origin b) ×
      refused text refusal

  -- the cause at each status, with these options and this text
  abbrev pub CausedAt : Status → List ℕ → Options → Devices → Told → Devices → Type 0
  CausedAt Usage text o a t b = ⊥
  CausedAt Refused text o a t b = (refusal : Refusal) × RefusedFor refusal o a t b ×
      ((text ≡ refusal_text refusal) ⊎ (text ≡ []))
  CausedAt LoaderFailed text o a t b = NothingRan a t b × NotLoaded o.script (origin a) (origin b)
  CausedAt ScriptTooLong text o a t b = NothingRan a t b × TooLong o.script (origin a) (origin b)
  CausedAt InputFailed text o a t b = (NothingRan a t b × NotTaken o.script (origin a) (origin b)) ⊎ RanAt InputFailed
      o a t b
  CausedAt OutOfMemory text o a t b = (NothingRan a t b × AskedAtMost o.script (origin a) (origin b)) ⊎ RanAt
      OutOfMemory o a t b
  CausedAt x text o a t b = RanAt x o a t b

  -- and with the options that the words give
  abbrev pub CausedIn : Status → List (List ℕ) → List ℕ → Devices → Told → Devices → Type 0
  CausedIn x words text a t b = (o : Options) × (options_of words ≡ Some o) × CausedAt x text o a t b

  module _ (words : List (List ℕ)) (a : Devices) (t : Told) (b : Devices) (text : List ℕ) where
    -- each status has one answer, up to its numbers; so a search that splits the answer finds its cause
    why : (o : Options) (r : Refusal) → options_of words ≡ Some o → RefusedFor r o a t b →
        (text ≡ refusal_text r) ⊎ (text ≡ []) → Fact (CausedIn Refused words text a t b)
    why o r e h says = Holds (o, e, (r, h, says))

    full : (o : Options) (r : Ran is_code refused rows o a t b) (limit : ℕ) → options_of words ≡ Some o →
        SomeLives (rows r.program) r.serial.machine → limit ≡ (limits_of o).words →
        IsNearlyFull (rows r.program) (begin_with (rows r.program) (first_world r.source.told r.source.ends))
        o.length o.segments
        limit t.history r.serial.machine.heap → Fact (CausedIn HeapFull words text a t b)
    full o r limit e lives is nearly = Holds (
      o,
      e,
      (
        r,
        (
          lives,
          subst (λ n. IsNearlyFull (rows r.program)
              (begin_with (rows r.program) (first_world r.source.told r.source.ends)) o.length
              o.segments n t.history r.serial.machine.heap) is nearly,
        ),
      ),
    )

    -- at 10 the answer is told by its steps, which are those of the history
    spent : (answer : _) → status_of answer ≡ BudgetSpent → Caused is_code refused rows answer words a t b →
        AnswerTo state.Spent false t.history answer
    spent answer e h = grind arith

    at_spent_by : (answer : _) → status_of answer ≡ BudgetSpent → AnswerTo state.Spent false t.history answer →
        Caused is_code refused rows answer words a t b → CausedIn BudgetSpent words text a t b
    at_spent_by answer e (inl s) h =
        let k = subst (λ x. Caused is_code refused rows x words a t b) s.1 h in
        (k.0, k.1, (k.2.0, (k.2.1.0, k.2.1.1)))
    at_spent_by answer e (inr s) h = let k = ap status_of s in absurd (cc)

    at_spent : (answer : _) → status_of answer ≡ BudgetSpent → Caused is_code refused rows answer words a t b →
        Fact (CausedIn BudgetSpent words text a t b)
    at_spent answer e h = Holds (at_spent_by answer e (spent answer e h) h)

    at_done : (answer : _) → status_of answer ≡ Done → Caused is_code refused rows answer words a t b →
        Fact (CausedIn Done words text a t b)
    at_done answer e h = search (rules, Holds)

    at_failed : (answer : _) → status_of answer ≡ Failed → Caused is_code refused rows answer words a t b →
        Fact (CausedIn Failed words text a t b)
    at_failed answer e h = search (rules, Holds)

    at_loader : (answer : _) → status_of answer ≡ LoaderFailed → Caused is_code refused rows answer words a t b →
        Fact (CausedIn LoaderFailed words text a t b)
    at_loader answer e h = search (rules, Holds)

    at_input : (answer : _) → status_of answer ≡ InputFailed → Caused is_code refused rows answer words a t b →
        Fact (CausedIn InputFailed words text a t b)
    at_input answer e h = search (rules, Holds)

    at_output : (answer : _) → status_of answer ≡ OutputFailed → Caused is_code refused rows answer words a t b →
        Fact (CausedIn OutputFailed words text a t b)
    at_output answer e h = search (rules, Holds)

    at_error : (answer : _) → status_of answer ≡ ErrorOutputFailed → Caused is_code refused rows answer words a t b →
        Fact (CausedIn ErrorOutputFailed words text a t b)
    at_error answer e h = search (rules, Holds)

    at_full : (answer : _) → status_of answer ≡ HeapFull → Caused is_code refused rows answer words a t b →
        Fact (CausedIn HeapFull words text a t b)
    at_full answer e h = search (rules, full)

    at_stuck : (answer : _) → status_of answer ≡ Stuck → Caused is_code refused rows answer words a t b →
        Fact (CausedIn Stuck words text a t b)
    at_stuck answer e h = search (rules, Holds)

    at_long : (answer : _) → status_of answer ≡ ScriptTooLong → Caused is_code refused rows answer words a t b →
        Fact (CausedIn ScriptTooLong words text a t b)
    at_long answer e h = search (rules, Holds)

    at_usage : (answer : _) → status_of answer ≡ Usage → Caused is_code refused rows answer words a t b →
        Fact ((options_of words ≡ None) × NothingRan a t b × NothingTaken a b)
    at_usage answer e h = search (rules, Holds)

    at_memory : (answer : _) → status_of answer ≡ OutOfMemory → Caused is_code refused rows answer words a t b →
        Fact ((NothingRan a t b × NothingTaken a b) ⊎ CausedIn OutOfMemory words text a t b)
    at_memory answer e h = search (rules, Holds)

    at_refused : (answer : _) → status_of answer ≡ Refused → Caused is_code refused rows answer words a t b →
        IsText answer text → Fact (CausedIn Refused words text a t b)
    at_refused answer e h says = search (rules, why)

    -- what the cause of an answer says at its status
    pub data Cause (x : Status) : Type 0 where
      NoOptions : x ≡ Usage → options_of words ≡ None → NothingRan a t b → Cause x
      NoMemory : x ≡ OutOfMemory → NothingRan a t b → Cause x
      With : CausedIn x words text a t b → Cause x

    of_memory : (NothingRan a t b × NothingTaken a b) ⊎ CausedIn OutOfMemory words text a t b → Cause OutOfMemory
    of_memory (inl h) = NoMemory refl h.0
    of_memory (inr h) = With h

    of_usage : (options_of words ≡ None) × NothingRan a t b × NothingTaken a b → Cause Usage
    of_usage h = NoOptions refl h.0 h.1

    pub opened : (x : Status) (answer : _) → status_of answer ≡ x → Caused is_code refused rows answer words a t b →
        IsText answer text → Cause x
    opened Usage answer e h says = of_usage (fact (at_usage answer e h))
    opened OutOfMemory answer e h says = of_memory (fact (at_memory answer e h))
    opened Refused answer e h says = With (fact (at_refused answer e h says))
    opened Done answer e h says = With (fact (at_done answer e h))
    opened Failed answer e h says = With (fact (at_failed answer e h))
    opened LoaderFailed answer e h says = With (fact (at_loader answer e h))
    opened InputFailed answer e h says = With (fact (at_input answer e h))
    opened OutputFailed answer e h says = With (fact (at_output answer e h))
    opened ErrorOutputFailed answer e h says = With (fact (at_error answer e h))
    opened HeapFull answer e h says = With (fact (at_full answer e h))
    opened Stuck answer e h says = With (fact (at_stuck answer e h))
    opened BudgetSpent answer e h says = With (fact (at_spent answer e h))
    opened ScriptTooLong answer e h says = With (fact (at_long answer e h))

-- ---- the text

pub no_text : (text : List ℕ) (answer : _) → status_of answer ≡ Done → IsText answer text → text ≡ []
no_text text answer e h = grind arith

pub no_text_failed : (text : List ℕ) (answer : _) → status_of answer ≡ Failed → IsText answer text → text ≡ []
no_text_failed text answer e h = grind arith
