-- Integers as digits. States `docs/LANGUAGE.md`, "Numbers".
use Rattle.std.specs.Prelude.{◌≡◌, ℕ, ℤ, pos, negsuc, suc, ◌^◌, ◌≤◌, List, [], ◌∷◌, Result, Ok, Err}
use Rattle.std.specs.Str.Parse.{IsNumeral, digits_value}
use Rattle.py_text.specs.declared.error.TextError.{TextError}
use Rattle.py_text.specs.declared.error.TextError.TheVariants.{Wide}

-- The number that the digits write, which is an integer of the language, or the error exactly where it is above the
-- largest one.
abbrev pub ReadsInt : Result ℤ TextError → ℕ → List ℕ → Type 0
ReadsInt (Ok n) base digits = n ≡ pos (digits_value base digits)
ReadsInt (Err e) base digits = (e ≡ Wide) × (2 ^ 63 ≤ digits_value base digits)

-- one decimal digit or more, which write this number
abbrev pub IsDecimalOf : ℕ → List ℕ → Type 0
IsDecimalOf n digits = IsNumeral 10 digits × (digits_value 10 digits ≡ n)

-- Below zero a minus sign, and then the decimal digits of the number without its sign.
abbrev pub IsWrittenAs : ℤ → List ℕ → Type 0
IsWrittenAs (pos n) text = IsDecimalOf n text
IsWrittenAs (negsuc n) [] = ⊥
IsWrittenAs (negsuc n) (b ∷ digits) = (b ≡ 45) × IsDecimalOf (suc n) digits
