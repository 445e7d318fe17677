-- The string literal at the front of a text. States `docs/LANGUAGE.md`, "Strings".
use Rattle.std.specs.Prelude.{ℕ, suc, Bool, true, false, ◌==◌, ◌&&◌, ◌||◌, not, if◌then◌else◌, List, [], ◌∷◌, map, take, drop, Option, Some, None, Ok, Err}
use Rattle.py_base.specs.declared.refusal.Refusal.TheVariants.{OpenString, BadEscape}
use Rattle.py_text.specs.Escape.{unescaped}
use Rattle.py_tokens.specs.declared.character.Character.{Character}
use Rattle.py_tokens.specs.declared.class.Base.TheVariants.{Sixteen}
use Rattle.py_tokens.specs.declared.class.Class.TheVariants.{Byte, Letter, Digit}
use Rattle.py_tokens.specs.declared.literal.Prefix.{Prefix}
use Rattle.py_tokens.specs.declared.literal.Quoting.{Quoting}
use Rattle.py_tokens.specs.declared.token.Other.TheVariants as other
use Rattle.py_tokens.specs.declared.token.TokenKind.TheVariants as k
use Rattle.py_tokens.specs.Characters.{byte_of}
use Rattle.py_tokens.specs.Classes.{holds, next_is}
use Rattle.py_tokens.specs.Numbers.{Read}

-- ---- prefixes

abbrev pub prefix : Bool → Bool → Prefix
prefix raw unicode = record { raw = raw; unicode = unicode }

-- `r`, `b` and `u`, in either case
abbrev pub prefix_letter : Character → Option Prefix
prefix_letter a =
    if holds (Letter 114) a.byte then Some (prefix true false) else
    (if holds (Letter 98) a.byte then Some (prefix false false) else
    (if holds (Letter 117) a.byte then Some (prefix false true) else None))

-- `br` and `ur`
abbrev pub prefix_pair : Character → Character → Option Prefix
prefix_pair a b =
    if not (holds (Letter 114) b.byte) then None else
    (if holds (Letter 98) a.byte then Some (prefix true false) else
    (if holds (Letter 117) a.byte then Some (prefix true true) else None))

-- the prefix that a name before quotes is, if it is one
abbrev pub prefix_of : List Character → Option Prefix
prefix_of [] = None
prefix_of (a ∷ []) = prefix_letter a
prefix_of (a ∷ b ∷ []) = prefix_pair a b
prefix_of (a ∷ b ∷ c ∷ cs) = None

-- ---- quotes

-- such quotes are at the front
abbrev pub quotes : Quoting → List Character → Bool
quotes q cs = next_is (Byte q.mark) cs &&
    (not q.triple || (next_is (Byte q.mark) (drop 1 cs) && next_is (Byte q.mark) (drop 2 cs)))

abbrev pub quotes_len : Quoting → ℕ
quotes_len q = if q.triple then 3 else 1

-- how the string at the front is quoted
abbrev pub quotes_at : List Character → Quoting
quotes_at [] = record { mark = 0; triple = false }
quotes_at (c ∷ cs) = record { mark = c.byte; triple = next_is (Byte c.byte) cs && next_is (Byte c.byte) (drop 1 cs) }

-- ---- bodies

-- The closing quotes end a string, and so does a line end, but for triple quotes.
abbrev pub ends : Quoting → List Character → Bool
ends q cs = quotes q cs || (not q.triple && next_is (Byte 10) cs)

-- how many characters its body has, where a backslash keeps the next character from ending it, and `kept` says whether
-- the first character is so kept
abbrev pub body_len : Quoting → Bool → List Character → ℕ
body_len q kept [] = 0
body_len q kept (c ∷ cs) = if not kept && ends q (c ∷ cs) then 0 else suc (body_len q (not kept && c.byte == 92) cs)

abbrev pub two_hex : List Character → Bool
two_hex cs = next_is (Digit Sixteen) cs && next_is (Digit Sixteen) (drop 1 cs)

-- the line of the first `\x` without two hexadecimal digits
abbrev pub bad_line : List Character → Option ℕ
bad_line [] = None
bad_line (c ∷ []) = None
bad_line (c ∷ d ∷ cs) =
    if c.byte == 92 then (if d.byte == 120 && not (two_hex cs) then Some c.line else bad_line cs) else bad_line (d ∷ cs)

-- ---- literals

-- No escape is read in a raw string, nor in one that is left out.
abbrev pub escape_fault : Prefix → List Character → Option ℕ
escape_fault p body = if p.raw || p.unicode then None else bad_line body

abbrev pub text_of : ℕ → Option (List ℕ) → List Character → Read
text_of line (Some bs) rest = Ok (k.Str bs, rest)
text_of line None rest = Err (BadEscape line)

abbrev pub closed : ℕ → Prefix → List Character → List Character → Read
closed line p body rest = if p.unicode then Ok (k.Other other.Unicode, rest) else text_of line
    (unescaped p.raw (map byte_of body)) rest

-- An escape without meaning comes before the end of a string that isn't closed.
abbrev pub literal : ℕ → Prefix → Quoting → List Character → List Character → Option ℕ → Read
literal line p q body rest (Some bad) = Err (BadEscape bad)
literal line p q body rest None = if quotes q rest then closed line p body (drop (quotes_len q) rest) else Err
    (OpenString line)

abbrev pub quoted : ℕ → Prefix → Quoting → List Character → Read
quoted line p q inner =
    let n = body_len q false inner in
    literal line p q (take n inner) (drop n inner) (escape_fault p (take n inner))

-- the string whose quotes are at the front, and that begins on this line
unfoldable pub string_at : ℕ → Prefix → List Character → Read
string_at line p cs = let q = quotes_at cs in quoted line p q (drop (quotes_len q) cs)
