-- `raw_input`: the prompt, and the line that is taken. States `docs/LANGUAGE.md`, "Builtins" and "Reading the input".
use Rattle.std.specs.Prelude.{ℕ, Bool, true, false, cond, codes, List, [], ◌∷◌}
use Rattle.std.specs.Io.BufRead.{strip_last}
use Rattle.py_base.specs.Numbers.{class_number}
use Rattle.py_data.specs.declared.stop.Out.TheVariants.{Output}
use Rattle.py_data.specs.declared.value.Value.{Value}
use Rattle.py_data.specs.declared.record.Fault.{Fault}
use Rattle.py_data.specs.declared.record.Got.{Got}
use Rattle.py_data.specs.declared.record.Got.TheVariants.{Raise}
use Rattle.py_data.specs.Fault.{argument_fault, text_fault}
use Rattle.py_data.specs.Looking.{got_row}
use Rattle.py_data.specs.Row.{Row, Ret, Do, Put, Take, SetMidLine, bind}
use Rattle.obj_class.specs.Telling.{told_row}
use Rattle.obj_str.specs.Strings.{new_text}

-- the most bytes that are taken at once
abbrev pub line_limit : ℕ
line_limit = 65_536

-- the input is at its end
abbrev pub end_fault : Fault
end_fault = text_fault (class_number (codes "EOFError")) (codes "EOF when reading a line")

abbrev pub is_end : List ℕ → Bool
is_end [] = true
is_end (x ∷ xs) = false

-- a new string of a line without the newline at its end, if it has one; nothing that was taken is the input's end
unfoldable pub line_row : {S : Type 0} → List ℕ → Row S (Got Value)
line_row l = cond (is_end l) (Ret (Raise end_fault)) (new_text (strip_last 10 l))

unfoldable pub take_row : {S : Type 0} → Row S (Got Value)
take_row = Do (Take line_limit) (λ l. line_row l)

-- A prompt is written as it is and in one piece, also where it is empty. From then on the output isn't in the middle of
-- a line.
unfoldable pub prompt_row : {S : Type 0} → List ℕ → Row S (Got Value)
prompt_row text = Do (Put Output text) (λ u. Do (SetMidLine false) (λ v. take_row))

-- the prompt's text, by itself; where it raises, nothing is written or taken
unfoldable pub ask_row : {S : Type 0} → ℕ → Value → Row S (Got Value)
ask_row roots x = bind (told_row roots x false) (got_row prompt_row)

-- with one argument at most; without one nothing is written
unfoldable pub input_row : {S : Type 0} → ℕ → List Value → Row S (Got Value)
input_row roots [] = take_row
input_row roots (x ∷ []) = ask_row roots x
input_row roots (x ∷ y ∷ zs) = Ret (Raise argument_fault)
