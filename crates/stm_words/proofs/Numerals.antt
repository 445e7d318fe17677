-- The number that digits write, read by `parse`.
use Rattle.std.proofs.Common.{◌≡◌, ◌<◌, ◌≤◌, ◌^◌, ℕ, true, false, refl, ap, List, length, arith, rules, Some, None, Result, nat_le, ◌&&◌}
use Rattle.std.proofs.Common.{Bool, cond, ◌∙◌, sym, true≢false}
use Rattle.std.proofs.lemmas.Bool.Decides.{nat_tests}
use Rattle.std.specs.Result.{result_ok}
use Rattle.std.specs.Char.{is_ascii_digit}
use Rattle.std.specs.List.{list_all}
use Rattle.std.specs.Str.Parse.{ParsesUnsigned, digits_value}
use Rattle.std.proofs.lemmas.Str.Parse.{IsNumeralModel, digits_value_short, numerals_by_value, parse_gives}
use Rattle.stm_words.specs.Options.{is_numeral, numeral}

abbrev pub AreDigits : List ℕ → Type 0
AreDigits ds = list_all is_ascii_digit ds ≡ true

pub own : IsNumeralModel AreDigits (digits_value 10)
own = numerals_by_value _ (search rules)

both : (a b : Bool) → (a && b) ≡ true → (a ≡ true) × (b ≡ true)
both true b e = (refl, e)
both false b e = absurd (true≢false (sym e))

pub numeral_read : {E : Type 0} (text : List ℕ) (r : Result ℕ E) → ParsesUnsigned 64 10 text r
    → is_numeral text ≡ true → result_ok r ≡ numeral text
numeral_read text r h digits =
    let outer = both (list_all is_ascii_digit text && nat_le 1 (length text)) (nat_le (length text) 16) digits in
    let inner = both (list_all is_ascii_digit text) (nat_le 1 (length text)) outer.0 in
    let some : 0 < length text = grind (arith, nat_tests, inner.1) in
    let short : length text ≤ 16 = grind (arith, nat_tests, outer.1) in
    let small : digits_value 10 text < 10 ^ 16 = digits_value_short own text 16 inner.0 short in
    ap result_ok (parse_gives own 64 text r h inner.0 some (omega arith))
    ∙ ap (λ b. cond b (Some (digits_value 10 text)) None) (sym digits)
