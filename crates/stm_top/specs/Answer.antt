-- What a call has to say. States `docs/LANGUAGE.md`, "The top call".
use Rattle.std.specs.Prelude.{◌≡◌, ◌⊎◌, ℕ, List, [], ◌++◌, codes, pos}
use Rattle.std.specs.Fmt.{signed_decimal}
use Rattle.py_base.specs.declared.refusal.Refusal.{Refusal}
use Rattle.py_base.specs.declared.refusal.Refusal.TheVariants.{BadCharacter, BadDedent, OpenString, NumberWide, Unexpected, LeftOut, Deep, Misplaced, Doubled, Closure, TooLarge, BadEscape}
use Rattle.py_base.specs.Refusal.{refusal_number, refusal_line}
use Rattle.stm_top.specs.declared.status.Status.{Status}
use Rattle.stm_top.specs.declared.status.Status.TheVariants.{Done, Failed, Usage, Refused, LoaderFailed, InputFailed, OutputFailed, ErrorOutputFailed, HeapFull, Stuck, BudgetSpent, OutOfMemory, ScriptTooLong}
use Rattle.stm_top.specs.declared.answer.Answer.{Answer}
use Rattle.stm_top.specs.declared.answer.Answer.TheVariants.{Done as IsDone, Failed as HasFailed, Usage as IsUsage, Refused as IsRefused, LoaderFailed as IsLoaderFailed, InputFailed as IsInputFailed, OutputFailed as IsOutputFailed, ErrorOutputFailed as IsErrorOutputFailed, HeapFull as IsHeapFull, Stuck as IsStuck, BudgetSpent as IsBudgetSpent, OutOfMemory as IsOutOfMemory, ScriptTooLong as IsScriptTooLong}

-- the exit status
abbrev pub number_of : Status → ℕ
number_of Done = 0
number_of Failed = 1
number_of Usage = 2
number_of Refused = 3
number_of LoaderFailed = 4
number_of InputFailed = 5
number_of OutputFailed = 6
number_of ErrorOutputFailed = 7
number_of HeapFull = 8
number_of Stuck = 9
number_of BudgetSpent = 10
number_of OutOfMemory = 11
number_of ScriptTooLong = 12

abbrev pub status_of : Answer → Status
status_of IsDone = Done
status_of HasFailed = Failed
status_of IsUsage = Usage
status_of (IsRefused refusal) = Refused
status_of IsLoaderFailed = LoaderFailed
status_of IsInputFailed = InputFailed
status_of IsOutputFailed = OutputFailed
status_of IsErrorOutputFailed = ErrorOutputFailed
status_of (IsHeapFull reserved need limit) = HeapFull
status_of IsStuck = Stuck
status_of (IsBudgetSpent steps) = BudgetSpent
status_of IsOutOfMemory = OutOfMemory
status_of IsScriptTooLong = ScriptTooLong

abbrev pub refusal_name : Refusal → List ℕ
refusal_name (BadCharacter line) = codes "bad character"
refusal_name (BadDedent line) = codes "bad dedent"
refusal_name (OpenString line) = codes "open string"
refusal_name (NumberWide line) = codes "number wide"
refusal_name (Unexpected line) = codes "unexpected"
refusal_name (LeftOut construct line) = codes "left out"
refusal_name (Deep line) = codes "deep"
refusal_name (Misplaced line) = codes "misplaced"
refusal_name (Doubled line) = codes "doubled"
refusal_name (Closure line) = codes "closure"
refusal_name (TooLarge line) = codes "too large"
refusal_name (BadEscape line) = codes "bad escape"

abbrev pub refusal_text : Refusal → List ℕ
refusal_text refusal =
    codes "pystm: line " ++ signed_decimal (pos (refusal_line refusal)) ++ codes ": refusal " ++ signed_decimal
    (pos (refusal_number refusal)) ++ codes ": " ++ refusal_name refusal ++ codes "\n"

abbrev pub spent_text : ℕ → List ℕ
spent_text steps = codes "pystm: budget spent: " ++ signed_decimal (pos steps) ++ codes " steps\n"

abbrev pub full_text : (reserved need limit : ℕ) → List ℕ
full_text reserved need limit =
    codes "pystm: heap full: reserved " ++ signed_decimal (pos reserved) ++ codes ", needed " ++ signed_decimal
    (pos need) ++ codes ", limit " ++ signed_decimal (pos limit) ++ codes " words\n"

-- what it writes to the error output: a line, or nothing
abbrev pub text_of : Answer → List ℕ
text_of IsDone = []
text_of HasFailed = []
text_of IsUsage = codes "pystm: usage: pystm [--segments N] [--length N] [--pages N] [--budget N] FILE, - or --demo N\n"
text_of (IsRefused refusal) = refusal_text refusal
text_of IsLoaderFailed = codes "pystm: cannot load the script\n"
text_of IsInputFailed = codes "pystm: cannot read the input\n"
text_of IsOutputFailed = codes "pystm: cannot write the output\n"
text_of IsErrorOutputFailed = []
text_of (IsHeapFull reserved need limit) = full_text reserved need limit
text_of IsStuck = codes "pystm: stuck\n"
text_of (IsBudgetSpent steps) = spent_text steps
text_of IsOutOfMemory = codes "pystm: out of memory\n"
text_of IsScriptTooLong = codes "pystm: script longer than 4194304 bytes\n"

-- its text, or none where there was no memory for it
abbrev pub IsText : Answer → List ℕ → Type 0
IsText answer text = (text ≡ text_of answer) ⊎ (text ≡ [])
