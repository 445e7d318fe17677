-- The text that stands for a string in `repr`. States `docs/LANGUAGE.md`, "Texts of values".
use Rattle.std.specs.Prelude.{ℕ, ◌-◌, ◌/◌, ◌%◌, nat_lt, ◌==◌, ◌&&◌, ◌||◌, not, if◌then◌else◌, List, [], ◌∷◌, ◌++◌, length, take, drop}
use Rattle.std.specs.List.{list_any, flat_map}
use Rattle.std.specs.Char.{digit_char}

-- Single quotes, unless the bytes hold a single and no double quote.
abbrev pub quote_of : List ℕ → ℕ
quote_of bs = if list_any (λ b. b == 39) bs && not (list_any (λ b. b == 34) bs) then 34 else 39

-- One byte: the backslash, the quote, tab, line feed and carriage return after a backslash, others below 32 or above
-- 126 by two hexadecimal digits.
abbrev pub shown : ℕ → ℕ → List ℕ
shown quote b =
    if b == 92 || b == quote then 92 ∷ b ∷ [] else
    (if b == 9 then 92 ∷ 116 ∷ [] else
    (if b == 10 then 92 ∷ 110 ∷ [] else
    (if b == 13 then 92 ∷ 114 ∷ [] else
    (if nat_lt b 32 || nat_lt 126 b then 92 ∷ 120 ∷ digit_char (b / 16) ∷ digit_char (b % 16) ∷ [] else b ∷ []))))

abbrev pub repr_body : List ℕ → List ℕ
repr_body bs = flat_map (shown (quote_of bs)) bs

abbrev pub repr_of : List ℕ → List ℕ
repr_of bs = quote_of bs ∷ repr_body bs ++ quote_of bs ∷ []

-- a literal without its quotes
abbrev pub between_quotes : List ℕ → List ℕ
between_quotes text = drop 1 (take (length text - 1) text)
