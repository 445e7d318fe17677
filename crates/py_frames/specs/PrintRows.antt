-- The rows that write: PRINT_ITEM, PRINT_NEWLINE, and the last step of a thread that dies. States `docs/LANGUAGE.md`,
-- "Print" and "Exceptions".
use Rattle.std.specs.Prelude.{ℕ, pos, Bool, false, cond, not, ◌||◌, ◌==◌, List, [], ◌∷◌, ◌++◌, Option, Some, None, codes}
use Rattle.std.specs.Fmt.{signed_decimal}
use Rattle.std.specs.List.{last_or}
use Rattle.py_data.specs.declared.value.Addr.{Addr}
use Rattle.py_data.specs.declared.value.Value.{Value}
use Rattle.py_data.specs.declared.record.Got.{Got}
use Rattle.py_data.specs.declared.record.Got.TheVariants.{Is, Raise}
use Rattle.py_data.specs.declared.stop.Out.TheVariants.{Output, ErrorOutput}
use Rattle.py_data.specs.Looking.{look_row, bytes_row}
use Rattle.py_data.specs.Row.{Row, Ret, Do, Put, MidLine, SetMidLine, bind}
use Rattle.obj_class.specs.Telling.{told_row}
use Rattle.py_frames.specs.declared.next.Next.{Next}
use Rattle.py_frames.specs.declared.next.Next.TheVariants.{Goes}
use Rattle.py_frames.specs.declared.state.Dying.{Dying}
use Rattle.py_frames.specs.FunctionRows.{ended_row}
use Rattle.py_frames.specs.Raising.{place_in, raise_row}

-- ---- PRINT_ITEM

-- a tab, newline, vertical tab, form feed or carriage return
abbrev pub is_line_end : ℕ → Bool
is_line_end b = (b == 9) || ((b == 10) || ((b == 11) || ((b == 12) || (b == 13))))

abbrev pub ends_line : Option ℕ → Bool
ends_line (Some b) = is_line_end b
ends_line None = false

-- whether the output is in the middle of a line behind a text; behind an empty one it is
abbrev pub stays_mid : List ℕ → Bool
stays_mid t = not (ends_line (last_or None t))

-- a space before it, in the middle of a line
abbrev pub spaced : Bool → List ℕ → List ℕ
spaced mid t = cond mid (codes " " ++ t) t

unfoldable pub put_row : {S : Type 0} → List ℕ → Bool → Row S Next
put_row t mid = Do (Put Output (spaced mid t)) (λ _. Do (SetMidLine (stays_mid t)) (λ _. Ret (Goes [])))

unfoldable pub written_row : {S : Type 0} → List ℕ → Row S Next
written_row t = Do MidLine (λ mid. put_row t mid)

unfoldable pub write_or_raise : {S : Type 0} → ℕ → Got (List ℕ) → Row S Next
write_or_raise roots (Is t) = written_row t
write_or_raise roots (Raise e) = raise_row roots e

unfoldable pub print_item_row : {S : Type 0} → ℕ → Value → Row S Next
print_item_row roots x = bind (told_row roots x false) (λ g. write_or_raise roots g)

-- ---- PRINT_NEWLINE

unfoldable pub print_newline_row : {S : Type 0} → Row S Next
print_newline_row = Do (Put Output (10 ∷ [])) (λ _. Do (SetMidLine false) (λ _. Ret (Goes [])))

-- ---- the last step of a thread that dies: the line of its exception, and its Thread record is marked as ended

-- an exception without a text has no colon behind its name; one whose text raises counts as one without
abbrev pub told_text : Got (List ℕ) → List ℕ
told_text (Is []) = []
told_text (Is (b ∷ t)) = codes ": " ++ b ∷ t
told_text (Raise e) = []

abbrev pub error_line : ℕ → ℕ → List ℕ → Got (List ℕ) → List ℕ
error_line number line name text =
    codes "thread " ++ (signed_decimal (pos number) ++
    (codes ", line " ++ (signed_decimal (pos line) ++ (codes ": " ++ (name ++ (told_text text ++ 10 ∷ []))))))

-- the name of the class of an instance
unfoldable pub name_of_class : {S : Type 0} → ℕ → Row S (List ℕ)
name_of_class c = bind (look_row c 0) (λ name. bytes_row (place_in name))

unfoldable pub class_name_row : {S : Type 0} → ℕ → Row S (List ℕ)
class_name_row a = bind (look_row a 0) (λ c. name_of_class (place_in c))

unfoldable pub last_words : {S : Type 0} → ℕ → ℕ → Option Addr → List ℕ → Got (List ℕ) → Row S (Unit {0})
last_words number line thread name text = Do (Put ErrorOutput (error_line number line name text))
    (λ _. ended_row thread)

unfoldable pub named_words : {S : Type 0} → ℕ → ℕ → Option Addr → Dying → List ℕ → Row S (Unit {0})
named_words roots number thread d name =
    bind (told_row roots d.exc false) (λ text. last_words number d.line thread name text)

-- by the roots, the number of the thread, its Thread record, and its exception
unfoldable pub dying_row : {S : Type 0} → ℕ → ℕ → Option Addr → Dying → Row S (Unit {0})
dying_row roots number thread d = bind (class_name_row (place_in d.exc))
    (λ name. named_words roots number thread d name)
