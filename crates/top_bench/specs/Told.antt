-- What a row of a test compares: a call's status and what it wrote, as one text. For tests: nothing public rests on it.
use Rattle.std.specs.Prelude.{ℕ, List, ◌++◌, ◌==◌, if◌then◌else◌, codes}
use Rattle.std.specs.List.{flat_map}
use Rattle.std.specs.Char.{encode_utf8}
use Rattle.std.specs.Fmt.{decimal}
use Rattle.lock_run.specs.declared.turn.Turn.{Turn}

-- The character of this number, and `;` for a newline, in UTF-8. So a byte from 128 on is one character, and two bytes.
abbrev pub shown_byte : ℕ → List ℕ
shown_byte byte = encode_utf8 (if byte == 10 then 59 else byte)

abbrev pub line_of_bytes : List ℕ → List ℕ
line_of_bytes bytes = flat_map shown_byte bytes

-- The digits of the status, the output and the error output, with `~` between them.
abbrev pub told_text : ℕ → List ℕ → List ℕ → List ℕ
told_text number out err = decimal number ++ codes "~" ++ line_of_bytes out ++ codes "~" ++ line_of_bytes err

-- A byte of a script as a row writes it: `;` is a newline.
abbrev pub meant_byte : ℕ → ℕ
meant_byte byte = if byte == 59 then 10 else byte

-- The steps of each turn, with a space before each.
abbrev pub turn_text : Turn → List ℕ
turn_text turn = codes " " ++ decimal turn.steps

abbrev pub steps_text : List Turn → List ℕ
steps_text turns = flat_map turn_text turns

-- What was told, the number of conflicts and the steps of the turns, with `~` between them.
abbrev pub turns_text : List ℕ → ℕ → List Turn → List ℕ
turns_text told conflicts turns = told ++ codes "~" ++ decimal conflicts ++ codes "~" ++ steps_text turns
