-- An integer is read as that number.
use Rattle.std.proofs.Common.{◌≡◌, ℕ, zero, suc, pos, ◌+◌, ◌^◌, ◌<◌, ◌≤◌, true, false, ◌==◌, ◌&&◌, nat_lt, if◌then◌else◌, List, [], ◌∷◌, ◌++◌, length, get_or, Ok, refl, sym, ap, ◌∙◌, subst, arith}
use Rattle.std.proofs.lemmas.Bool.{ne_eqb, lt-ltb, le-ltb, lt-leb}
use Rattle.std.proofs.lemmas.Fmt.{decimal_is_IsNumeral, first_decimal, decimal_digit}
use Rattle.std.proofs.lemmas.Str.Parse.{digit_from_value}
use Rattle.std.specs.Char.{digit_value}
use Rattle.std.specs.Fmt.{decimal}
use Rattle.std.specs.List.{list_all}
use Rattle.std.specs.Str.Parse.{AllDigits, digits_value}
use Rattle.py_tokens.specs.declared.character.Character.{Character}
use Rattle.py_tokens.specs.declared.class.Class.TheVariants as class
use Rattle.py_tokens.specs.declared.token.TokenKind.TheVariants as k
use Rattle.py_tokens.specs.Characters.{character}
use Rattle.py_tokens.specs.Classes.{holds, is_name_start, next_is}
use Rattle.py_tokens.specs.Numbers.{ten, int_of, after_point, after_exponent, float, whole, number_at}
use Rattle.py_tokens.specs.Words.{token_word}
use Rattle.py_tree.proofs.WrittenRows.{row, Spelt, entry, both}
use Rattle.py_tree.proofs.WrittenFronts.{skip, hit, front_number, quiet_by, bytes_row, run_row, after_row}

-- ---- digits

ten_digits : (ds : List ℕ) → AllDigits 10 ds → list_all (holds ten) ds ≡ true
ten_digits [] h = refl
ten_digits (d ∷ ds) h = rw (lt-ltb (digit_value d) 10 h.0) (ten_digits ds h.1)

no_letter : (d : ℕ) → 48 ≤ d → d ≤ 57 → is_name_start d ≡ false
no_letter d h l = rw (lt-leb 65 d (omega arith), lt-leb 97 d (omega arith), ne_eqb d 95 (λ e. omega arith)) refl

digit_range : (d : ℕ) → digit_value d < 10 → is_name_start d ≡ false
digit_range d h = let r = digit_from_value d h in no_letter d (omega (arith, r)) (omega (arith, r))

-- ---- what is read

int_small : (line v : ℕ) (rest : List Character) → v < 2 ^ 63 → int_of line v rest ≡ Ok (k.Int (pos v), rest)
int_small line v rest h = hit (nat_lt v 9223372036854775808) _ _ (lt-ltb v 9223372036854775808 h)

whole_row : (line' at line d : ℕ) (ds : List ℕ) (from to later : ℕ) (rest : List Character) → (d == 48) ≡ false →
    digits_value 10 (d ∷ ds) < 2 ^ 63 →
    whole line' (row at line (d ∷ ds)) (character 32 from to later ∷ rest) ≡ Ok
    (k.Int (pos (digits_value 10 (d ∷ ds))), character 32 from to later ∷ rest)
whole_row line' at line d ds from to later rest n small =
    skip (length (row at line (d ∷ ds)) == 0) _ _ (ne_eqb (length (row at line (d ∷ ds))) 0 (λ e. omega arith))
    ∙ (skip ((d == 48) && nat_lt 1 (length (row at line (d ∷ ds)))) _ _ (rw n refl)
    ∙ ap (λ z. int_of line' (digits_value 10 z) (character 32 from to later ∷ rest)) (bytes_row at line (d ∷ ds)) ∙
    int_small line' (digits_value 10 (d ∷ ds)) (character 32 from to later ∷ rest) small)

number_row : (line' at line d : ℕ) (ds : List ℕ) (from to later : ℕ) (rest : List Character) → (d == 48) ≡ false →
    list_all (holds ten) (d ∷ ds) ≡ true → digits_value 10 (d ∷ ds) < 2 ^ 63 →
    number_at line' (row at line (d ∷ ds) ++ character 32 from to later ∷ rest) ≡ Ok
    (k.Int (pos (digits_value 10 (d ∷ ds))), character 32 from to later ∷ rest)
unfolding number_at
number_row line' at line d ds from to later rest n all small =
    let blank : Character = character 32 from to later in
    let front = run_row ten at line (d ∷ ds) blank rest all refl in
    let behind = after_row ten at line (d ∷ ds) blank rest all refl in
    skip (d == 48) _ _ n
    ∙ ((λ i. if nat_lt (length (after_exponent (after_point (behind i)))) (length (behind i)) then float
    (after_exponent (after_point (behind i))) else
    (if next_is (class.Letter 106) (behind i) then float (behind i) else whole line' (front i) (behind i)))
    ∙ (skip (nat_lt (length (blank ∷ rest)) (length (blank ∷ rest))) _ _
    (le-ltb (length (blank ∷ rest)) (length (blank ∷ rest)) (omega arith))
    ∙ whole_row line' at line d ds from to later rest n small))

-- ---- integers

spelt_digits : (v d : ℕ) (ds : List ℕ) → AllDigits 10 (d ∷ ds) → digits_value 10 (d ∷ ds) ≡ v → v < 2 ^ 63 →
    (d == 48) ≡ false → Spelt (k.Int (pos v)) (d ∷ ds)
spelt_digits v d ds each is small n =
    let all = ten_digits (d ∷ ds) each in
    let below : digits_value 10 (d ∷ ds) < 2 ^ 63 = omega (arith, is) in
    entry (k.Int (pos v)) d ds (quiet_by (holds ten) refl refl refl (d ∷ ds) all)
    (λ size at line from to later rest.
    front_number size (character d at (at + 1) line) (row (at + 1) line ds ++ character 32 from to later ∷ rest)
    (digit_range d each.0) (both (holds ten d) (list_all (holds ten) ds) all).0
    ∙ ap (token_word size (character d at (at + 1) line)) (number_row line at line d ds from to later rest n all below
    ∙ ap (λ z. Ok (k.Int (pos z), character 32 from to later ∷ rest)) is))

zero_row : (line' at line from to later : ℕ) (rest : List Character) →
    number_at line' (row at line (48 ∷ []) ++ character 32 from to later ∷ rest) ≡ Ok
    (k.Int (pos 0), character 32 from to later ∷ rest)
unfolding number_at
zero_row line' at line from to later rest = skip (nat_lt (suc (length rest)) (suc (length rest))) _ _
    (le-ltb (suc (length rest)) (suc (length rest)) (omega arith))

spelt_zero : Spelt (k.Int (pos 0)) (48 ∷ [])
spelt_zero =
    entry (k.Int (pos 0)) 48 [] refl
    (λ size at line from to later rest.
    front_number size (character 48 at (at + 1) line) (character 32 from to later ∷ rest) refl refl ∙
    ap (token_word size (character 48 at (at + 1) line)) (zero_row line at line from to later rest))

spelt_list : (v : ℕ) (ds : List ℕ) → 0 < length ds → AllDigits 10 ds → digits_value 10 ds ≡ v → v < 2 ^ 63 →
    48 < get_or ds 0 0 → Spelt (k.Int (pos v)) ds
spelt_list v [] some each is small more = absurd (omega arith)
spelt_list v (d ∷ ds) some each is small more = spelt_digits v d ds each is small (ne_eqb d 48 (λ e. omega arith))

pub spelt_int : (v : ℕ) → v < 2 ^ 63 → Spelt (k.Int (pos v)) (decimal v)
spelt_int zero h = subst (Spelt (k.Int (pos 0))) (sym (decimal_digit 0 (omega arith))) spelt_zero
spelt_int (suc v) h =
    let numeral = decimal_is_IsNumeral (suc v) (omega arith) in
    spelt_list (suc v) (decimal (suc v)) numeral.0.0 numeral.0.1 numeral.1 h
    (first_decimal (suc v) (omega arith) (omega arith))
