-- What `int` reads of a text. States `docs/LANGUAGE.md`, "Builtins".
use Rattle.std.specs.Prelude.{ℕ, ℤ, pos, neg_ℤ, ◌+◌, ◌-◌, ◌*◌, ◌==◌, ◌&&◌, Bool, true, false, cond, leb, List, [], ◌∷◌, ◌++◌, codes}
use Rattle.py_base.specs.Numbers.{class_number}
use Rattle.py_text.specs.Repr.{repr_of}
use Rattle.py_data.specs.declared.value.Value.{Value}
use Rattle.py_data.specs.declared.record.Fault.{Fault}
use Rattle.py_data.specs.declared.record.Got.{Got}
use Rattle.py_data.specs.declared.record.Got.TheVariants.{Raise}
use Rattle.py_data.specs.Fault.{text_fault}
use Rattle.obj_ops.specs.Numbers.{narrowed}
use Rattle.obj_str.specs.Pieces.{strip}

-- a text that is no number, with its `repr`
abbrev pub literal_fault : List ℕ → Fault
literal_fault text = text_fault (class_number (codes "ValueError"))
    (codes "invalid literal for int() with base 10: " ++ repr_of text)

-- from `0` to `9`
abbrev pub is_digit : ℕ → Bool
is_digit b = leb 48 b && leb b 57

abbrev pub are_digits : List ℕ → Bool
are_digits [] = true
are_digits (b ∷ bs) = is_digit b && are_digits bs

-- one digit or more
abbrev pub is_numeral : List ℕ → Bool
is_numeral [] = false
is_numeral (b ∷ bs) = are_digits (b ∷ bs)

-- the number that digits write behind those of n
abbrev pub value_after : ℕ → List ℕ → ℕ
value_after n [] = n
value_after n (b ∷ bs) = value_after (n * 10 + (b - 48)) bs

abbrev pub with_sign : Bool → ℕ → ℤ
with_sign true n = neg_ℤ (pos n)
with_sign false n = pos n

-- digits behind a sign: a number, if 64 bits hold it
unfoldable pub signed_number : List ℕ → Bool → List ℕ → Got Value
signed_number text negative digits = cond (is_numeral digits) (narrowed (with_sign negative (value_after 0 digits)))
    (Raise (literal_fault text))

-- a sign or none, and digits: nothing stands between them
unfoldable pub stripped_number : List ℕ → List ℕ → Got Value
stripped_number text [] = Raise (literal_fault text)
stripped_number text (b ∷ bs) = cond (b == 45) (signed_number text true bs)
    (cond (b == 43) (signed_number text false bs) (signed_number text false (b ∷ bs)))

-- blanks may stand at both ends
abbrev pub text_number : List ℕ → Got Value
text_number text = stripped_number text (strip text)
