-- The number and the line of a refusal. States `docs/LANGUAGE.md`, "Refusals".
use Rattle.std.specs.Prelude.{ℕ}
use Rattle.py_base.specs.declared.refusal.Refusal.{Refusal}
use Rattle.py_base.specs.declared.refusal.Refusal.TheVariants.{BadCharacter, BadDedent, OpenString, NumberWide, Unexpected, LeftOut, Deep, Misplaced, Doubled, Closure, TooLarge, BadEscape}

-- the number of a refusal, from 1 to 12
abbrev pub refusal_number : Refusal → ℕ
refusal_number (BadCharacter line) = 1
refusal_number (BadDedent line) = 2
refusal_number (OpenString line) = 3
refusal_number (NumberWide line) = 4
refusal_number (Unexpected line) = 5
refusal_number (LeftOut construct line) = 6
refusal_number (Deep line) = 7
refusal_number (Misplaced line) = 8
refusal_number (Doubled line) = 9
refusal_number (Closure line) = 10
refusal_number (TooLarge line) = 11
refusal_number (BadEscape line) = 12

-- the line of the refused place, from 1
abbrev pub refusal_line : Refusal → ℕ
refusal_line (BadCharacter line) = line
refusal_line (BadDedent line) = line
refusal_line (OpenString line) = line
refusal_line (NumberWide line) = line
refusal_line (Unexpected line) = line
refusal_line (LeftOut construct line) = line
refusal_line (Deep line) = line
refusal_line (Misplaced line) = line
refusal_line (Doubled line) = line
refusal_line (Closure line) = line
refusal_line (TooLarge line) = line
refusal_line (BadEscape line) = line
