-- The bytes that the body of a string literal stands for. States `docs/LANGUAGE.md`, "Strings".
use Rattle.std.specs.Prelude.{◌≡◌, ℕ, zero, suc, ◌+◌, ◌*◌, ◌%◌, Bool, nat_lt, ◌==◌, ◌&&◌, ◌||◌, if◌then◌else◌, List, [], ◌∷◌, ◌++◌, length, take, option_map, Option, Some, None, Result, Ok, Err}
use Rattle.std.specs.Char.{digit_value}
use Rattle.std.specs.List.{take_while}
use Rattle.std.specs.Str.Parse.{digits_value}
use Rattle.py_text.specs.declared.error.TextError.{TextError}
use Rattle.py_text.specs.declared.error.TextError.TheVariants as error
use Rattle.py_text.specs.declared.literal.Escape.{Escape}

-- ---- line ends

-- CR LF and CR count as LF.
abbrev pub line_ends : List ℕ → List ℕ
line_ends [] = []
line_ends (b ∷ []) = (if b == 13 then 10 else b) ∷ []
line_ends (b ∷ c ∷ bs) = if b == 13 then (if c == 10 then 10 ∷ line_ends bs else 10 ∷ line_ends (c ∷ bs)) else b ∷
    line_ends (c ∷ bs)

-- what follows a byte, where a line feed after a carriage return belongs to the same line end
abbrev pub after_line_end : ℕ → List ℕ → List ℕ
after_line_end b [] = []
after_line_end b (c ∷ bs) = if b == 13 && c == 10 then bs else c ∷ bs

-- ---- escapes

-- these bytes belong to the escape, after its backslash, and stand for this byte, if any
abbrev pub escape_of : Option ℕ → ℕ → Escape
escape_of byte size = record { byte = byte; size = size }

-- the byte that a letter or a sign after a backslash stands for
abbrev pub sign : ℕ → Option ℕ
sign b =
    if b == 92 || (b == 39 || b == 34) then Some b else
    (if b == 97 then Some 7 else
    (if b == 98 then Some 8 else
    (if b == 102 then Some 12 else
    (if b == 110 then Some 10 else
    (if b == 114 then Some 13 else
    (if b == 116 then Some 9 else
    (if b == 118 then Some 11 else None)))))))

abbrev pub is_octal : ℕ → Bool
is_octal b = nat_lt (digit_value b) 8

abbrev pub is_hex : ℕ → Bool
is_hex b = nat_lt (digit_value b) 16

-- one to three octal digits: the low eight bits of what they write
abbrev pub octal_digits : List ℕ → List ℕ
octal_digits bs = take_while is_octal (take 3 bs)

abbrev pub octal : List ℕ → Escape
octal bs = escape_of (Some (digits_value 8 (octal_digits bs) % 256)) (length (octal_digits bs))

-- after `\x`: two hexadecimal digits
abbrev pub hex : List ℕ → Option Escape
hex (a ∷ b ∷ bs) = if is_hex a && is_hex b then Some (escape_of (Some (digit_value a * 16 + digit_value b)) 3) else None
hex bs = None

-- Another backslash stands for itself.
abbrev pub signed : Option ℕ → Escape
signed (Some b) = escape_of (Some b) 1
signed None = escape_of (Some 92) 0

-- what a backslash stands for, by what comes after it; none where it has no meaning
abbrev pub escape_at : List ℕ → Option Escape
escape_at [] = None
escape_at (b ∷ bs) =
    if b == 10 then Some (escape_of None 1) else
    (if b == 120 then hex bs else
    (if is_octal b then Some (octal (b ∷ bs)) else Some (signed (sign b))))

-- ---- bodies

abbrev pub written : Option ℕ → List ℕ
written None = []
written (Some b) = b ∷ []

abbrev pub then_spelled : Option Escape → (ℕ → Option (List ℕ)) → Option (List ℕ)
then_spelled None rest = None
then_spelled (Some e) rest = option_map (λ t. written e.byte ++ t) (rest e.size)

-- what a body stands for, of which the first n bytes belong to the escape before; none where an escape has no meaning
abbrev pub spelled : ℕ → List ℕ → Option (List ℕ)
spelled n [] = Some []
spelled (suc n) (b ∷ bs) = spelled n bs
spelled zero (b ∷ bs) = if b == 92 then then_spelled (escape_at bs) (λ n. spelled n bs) else option_map (λ t. b ∷ t)
    (spelled zero bs)

-- In a raw string all stays.
abbrev pub unescaped : Bool → List ℕ → Option (List ℕ)
unescaped raw body = if raw then Some (line_ends body) else spelled 0 (line_ends body)

abbrev pub Unescapes : Result (List ℕ) TextError → Option (List ℕ) → Type 0
Unescapes (Ok text) r = r ≡ Some text
Unescapes (Err error.BadEscape) r = r ≡ None
Unescapes (Err error.OutOfMemory) r = Unit {0}
Unescapes (Err error.Wide) r = ⊥
