-- The longest number at the front of a text. States `docs/LANGUAGE.md`, "Numbers".
use Rattle.std.specs.Prelude.{ℕ, pos, ◌^◌, nat_lt, ◌==◌, ◌&&◌, if◌then◌else◌, List, length, map, drop, Result, Ok, Err}
use Rattle.std.specs.Str.Parse.{digits_value}
use Rattle.py_base.specs.declared.refusal.Refusal.{Refusal}
use Rattle.py_base.specs.declared.refusal.Refusal.TheVariants.{BadCharacter, NumberWide}
use Rattle.py_tokens.specs.declared.character.Character.{Character}
use Rattle.py_tokens.specs.declared.class.Base.{Base}
use Rattle.py_tokens.specs.declared.class.Base.TheVariants.{Two, Eight, Ten, Sixteen}
use Rattle.py_tokens.specs.declared.class.Class.{Class}
use Rattle.py_tokens.specs.declared.class.Class.TheVariants.{Byte, Letter, Digit, Sign}
use Rattle.py_tokens.specs.declared.token.Other.TheVariants as other
use Rattle.py_tokens.specs.declared.token.TokenKind.{TokenKind}
use Rattle.py_tokens.specs.declared.token.TokenKind.TheVariants as k
use Rattle.py_tokens.specs.Characters.{byte_of}
use Rattle.py_tokens.specs.Classes.{base_of, next_is, run_len, run, after}

-- the kind of the token at the front and what follows it, or why there is none
abbrev pub Read : Type 0
Read = Result (TokenKind × List Character) Refusal

abbrev pub ten : Class
ten = Digit Ten

abbrev pub int_of : ℕ → ℕ → List Character → Read
int_of line v rest = if nat_lt v (2 ^ 63) then Ok (k.Int (pos v), rest) else Err (NumberWide line)

-- digits of a base; a suffix `l` comes before any test of width
abbrev pub suffixed : ℕ → Base → List Character → List Character → Read
suffixed line base digits rest =
    if next_is (Letter 108) rest then Ok (k.Other other.Long, drop 1 rest) else int_of line
    (digits_value (base_of base) (map byte_of digits)) rest

-- after a prefix such as `0x`, which needs a digit
abbrev pub prefixed : ℕ → Base → List Character → Read
prefixed line base cs = if next_is (Digit base) cs then suffixed line base (run (Digit base) cs)
    (after (Digit base) cs) else Err (BadCharacter line)

abbrev pub after_point : List Character → List Character
after_point cs = if next_is (Byte 46) cs then after ten (drop 1 cs) else cs

-- what follows an exponent's letter with its digits; all, where it has none
abbrev pub exponent : List Character → List Character → List Character
exponent all cs = if next_is ten cs then after ten cs else
    (if next_is Sign cs && next_is ten (drop 1 cs) then after ten (drop 1 cs) else all)

abbrev pub after_exponent : List Character → List Character
after_exponent cs = if next_is (Letter 101) cs then exponent cs (drop 1 cs) else cs

-- after a point or an exponent: a suffix `j` may follow
abbrev pub float : List Character → Read
float cs = Ok (k.Other other.Float, if next_is (Letter 106) cs then drop 1 cs else cs)

-- Digits that begin with 0 are octal, but for 0 itself.
abbrev pub whole : ℕ → List Character → List Character → Read
whole line digits rest =
    if length digits == 0 then Err (BadCharacter line) else
    (if next_is (Byte 48) digits && nat_lt 1 (length digits) then
    (if run_len (Digit Eight) digits == length digits then suffixed line Eight digits rest else Err
    (BadCharacter line))
    else suffixed line Ten digits rest)

-- a number without a base's prefix: a float where a point, an exponent or `j` continues its digits
abbrev pub unprefixed : ℕ → List Character → Read
unprefixed line cs =
    let rest = after ten cs in
    let more = after_exponent (after_point rest) in
    if nat_lt (length more) (length rest) then float more else
    (if next_is (Letter 106) rest then float rest else whole line (run ten cs) rest)

abbrev pub after_zero : ℕ → List Character → List Character → Read
after_zero line all cs =
    if next_is (Letter 120) cs then prefixed line Sixteen (drop 1 cs) else
    (if next_is (Letter 98) cs then prefixed line Two (drop 1 cs) else
    (if next_is (Letter 111) cs then prefixed line Eight (drop 1 cs) else unprefixed line all))

-- the number at the front, on this line
unfoldable pub number_at : ℕ → List Character → Read
number_at line cs = if next_is (Byte 48) cs then after_zero line cs (drop 1 cs) else unprefixed line cs
