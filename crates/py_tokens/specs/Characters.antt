-- The characters of a text: its bytes, where CR LF and CR count as LF, each with its place and its line.
-- States `docs/LANGUAGE.md`, "Characters".
use Rattle.std.specs.Prelude.{ℕ, ◌+◌, Bool, false, ◌==◌, ◌&&◌, if◌then◌else◌, List, [], ◌∷◌, drop}
use Rattle.py_tokens.specs.declared.character.Character.{Character}

abbrev pub character : ℕ → ℕ → ℕ → ℕ → Character
character byte from to line = record { byte = byte; from = from; to = to; line = line }

abbrev pub byte_of : Character → ℕ
byte_of c = c.byte

abbrev pub line_end : ℕ → ℕ
line_end b = if b == 13 then 10 else b

-- how many bytes a character has, by what follows its first byte
abbrev pub line_end_size : ℕ → List ℕ → ℕ
line_end_size b [] = 1
line_end_size b (c ∷ bs) = if b == 13 && c == 10 then 2 else 1

-- Each line end begins a further line.
abbrev pub line_after : ℕ → ℕ → ℕ
line_after byte line = if byte == 10 then line + 1 else line

-- the characters of these bytes, the first of which stands at this place and on this line
abbrev pub characters : ℕ → ℕ → List ℕ → List Character
characters at line [] = []
characters at line (b ∷ []) = character (line_end b) at (at + 1) line ∷ []
characters at line (b ∷ c ∷ bs) =
    if b == 13 && c == 10 then character 10 at (at + 2) line ∷ characters (at + 2) (line + 1) bs
    else character (line_end b) at (at + 1) line ∷ characters (at + 1) (line_after (line_end b) line) (c ∷ bs)

-- the byte order mark of UTF-8
abbrev pub has_mark : List ℕ → Bool
has_mark (a ∷ b ∷ c ∷ bs) = a == 239 && b == 187 && c == 191
has_mark _ = false

-- A byte order mark at the start is skipped. Lines are counted from 1.
unfoldable pub text_characters : List ℕ → List Character
text_characters text = if has_mark text then characters 3 1 (drop 3 text) else characters 0 1 text

-- the text's last line: a line end at the text's end begins no further line
abbrev pub last_line : ℕ → List Character → ℕ
last_line line [] = line
last_line line (c ∷ cs) = last_line c.line cs
