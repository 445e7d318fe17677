-- Each choice of options has words that give it.
use Rattle.std.proofs.Common.{◌≡◌, ◌∙◌, ◌≤◌, ◌<◌, ◌^◌, ℕ, cond, true, false, refl, ap, List, [], ◌∷◌, ◌++◌, length, Some, None, codes, arith, decimal, nat_le}
use Rattle.std.specs.Prelude.{if◌then◌else◌, option_and_then, option_map}
use Rattle.std.specs.List.{list_all}
use Rattle.std.specs.Char.{is_ascii_digit}
use Rattle.std.specs.Str.Parse.{digits_value}
use Rattle.std.proofs.lemmas.Bool.Decides.{nat_tests}
use Rattle.std.proofs.lemmas.Fmt.{decimal_nonempty, digits_decimal, digits_value-decimal, length-decimal-le}
use Rattle.stm_words.specs.declared.call.Options.{Options}
use Rattle.stm_words.specs.declared.call.Script.{Script}
use Rattle.stm_words.specs.declared.call.Script.TheVariants.{Source, File, Demo}
use Rattle.stm_words.specs.Options.{Setting, Segments, Length, Pages, Budget, Workload, Use, Place, Value, IsWithin, IsScript, begins_with_dash, given_by, in_range, is_numeral, number, option_words, options_from, options_of, script_at, script_of, script_words, uses_from, with_use, words_for, ◌>>=◌}
use Rattle.std.specs.Int.{IsInRange}
use Rattle.std.proofs.lemmas.Str.Parse.{digit_at}
use Rattle.stm_words.proofs.Meaning.{options_by}
use Rattle.stm_words.proofs.Numerals.{AreDigits, own}

-- ---- numbers

no_dash : (ds : List ℕ) → AreDigits ds → begins_with_dash ds ≡ false
no_dash [] h = refl
no_dash (d ∷ ds) h =
    let digit : IsInRange 48 57 d = digit_at (d ∷ ds) 0 (own.to (d ∷ ds) h) (omega arith) in
    grind (arith, nat_tests)

at_least : (least n : ℕ) → least ≤ n → nat_le least n ≡ true
at_least least n h = grind (arith, nat_tests)

is_written : (n : ℕ) → n < 10 ^ 16 → is_numeral (decimal n) ≡ true
is_written n small =
    let fits : n < 2 ^ 64 = omega arith in
    let digits : list_all is_ascii_digit (decimal n) ≡ true = digits_decimal own n fits in
    let some : nat_le 1 (length (decimal n)) ≡ true = at_least 1 (length (decimal n)) (decimal_nonempty n fits) in
    let short : nat_le (length (decimal n)) 16
    ≡ true = at_least (length (decimal n)) 16 (length-decimal-le 16 n (omega arith) small fits) in
    rw (digits, some, short) refl

pub number_written : (least most n : ℕ) → least ≤ n → n ≤ most → n < 10 ^ 16 → number least most (decimal n) ≡ Some n
number_written least most n low high small =
    let fits : n < 2 ^ 64 = omega arith in
    ap (λ b. option_and_then (in_range least most) (cond b (Some (digits_value 10 (decimal n))) None))
    (is_written n small)
    ∙ ap (in_range least most) (digits_value-decimal own n fits)
    ∙ rw (at_least least n low, at_least n most high) refl

-- ---- words

option_read : (s : Setting) (n : ℕ) (ws : List (List ℕ)) → n < 10 ^ 16
    → uses_from (option_words s n ++ ws) None ≡ with_use (Value s (decimal n)) (uses_from ws None)
option_read s n ws small = alone s
    ∙ ap (λ b. if b then None else with_use (Value s (decimal n)) (uses_from ws None))
    (no_dash (decimal n) (digits_decimal own n (omega arith)))
  where
    alone : (t : Setting) → uses_from (option_words t n ++ ws) None ≡ uses_from (decimal n ∷ ws) (Some t)
    alone Segments = refl
    alone Length = refl
    alone Pages = refl
    alone Budget = refl
    alone Workload = refl

abbrev script_use : Script → Use
script_use Source = Place (codes "-")
script_use (File name) = Place name
script_use (Demo n) = Value Workload (decimal n)

script_read : (s : Script) → IsScript s → uses_from (script_words s) None ≡ Some (script_use s ∷ [])
script_read Source h = refl
script_read (File name) h = refl
script_read (Demo n) h = option_read Workload n [] (omega arith)

abbrev numbers_of : (s l p b : ℕ) → Use → List Use
numbers_of s l p b u = Value Segments (decimal s) ∷ Value Length (decimal l) ∷ Value Pages (decimal p) ∷ Value Budget
    (decimal b) ∷ u ∷ []

words_read : (o : Options) → IsWithin o
    → uses_from (words_for o) None ≡ Some (numbers_of o.segments o.length o.pages o.budget (script_use o.script))
words_read o h =
    let script = script_words o.script in
    let budget = option_words Budget o.budget ++ script in
    let pages = option_words Pages o.pages ++ budget in
    let steps = option_words Length o.length ++ pages in
    let segments_small : o.segments < 10 ^ 16 = omega (arith, h.segments.1) in
    let steps_small : o.length < 10 ^ 16 = omega (arith, h.steps.1) in
    let pages_small : o.pages < 10 ^ 16 = omega (arith, h.pages.1) in
    let budget_small : o.budget < 10 ^ 16 = omega (arith, h.budget.1) in
    option_read Segments o.segments steps segments_small
    ∙ ap (with_use (Value Segments (decimal o.segments))) (option_read Length o.length pages steps_small
    ∙ ap (with_use (Value Length (decimal o.length))) (option_read Pages o.pages budget pages_small
    ∙ ap (with_use (Value Pages (decimal o.pages))) (option_read Budget o.budget script budget_small
    ∙ ap (with_use (Value Budget (decimal o.budget))) (script_read o.script h.script))))

named : (name : List ℕ) → IsScript (File name) → script_at name ≡ Some (File name)
named [] h = absurd (omega (arith, h.0))
named (b ∷ bs) h = rw h.1 refl

-- which script the uses give
abbrev files_of : Script → List (List ℕ)
files_of Source = codes "-" ∷ []
files_of (File name) = name ∷ []
files_of (Demo n) = []

abbrev demos_of : Script → List (List ℕ)
demos_of Source = []
demos_of (File name) = []
demos_of (Demo n) = decimal n ∷ []

script_given : (s : Script) → IsScript s → script_of (files_of s) (demos_of s) ≡ Some s
script_given Source h = refl
script_given (File name) h = named name h
script_given (Demo n) h = ap (option_map Demo) (number_written 0 1000000 n (omega arith) h (omega arith))

given_is : (s : Script) (n l p b : ℕ) → given_by (numbers_of n l p b (script_use s))
    ≡ record {
      files = files_of s;
      segments = decimal n ∷ [];
      lengths = decimal l ∷ [];
      pages = decimal p ∷ [];
      budgets = decimal b ∷ [];
      demos = demos_of s;
    }
given_is Source n l p b = refl
given_is (File name) n l p b = refl
given_is (Demo m) n l p b = refl

-- Words that give the options, if each number is in its range.
pub reached : (o : Options) → IsWithin o → options_of (words_for o) ≡ Some o
reached o h =
    let script = script_given o.script h.script in
    let segments = number_written 1 8 o.segments h.segments.0 h.segments.1 (omega (arith, h.segments.1)) in
    let steps = number_written 1 1000000 o.length h.steps.0 h.steps.1 (omega (arith, h.steps.1)) in
    let pages = number_written 1 65536 o.pages h.pages.0 h.pages.1 (omega (arith, h.pages.1)) in
    let budget = number_written 1 1000000000000000 o.budget h.budget.0 h.budget.1 (omega (arith, h.budget.1)) in
    ap (λ us. us >>= (λ ws. options_from (given_by ws))) (words_read o h)
    ∙ ap options_from (given_is o.script o.segments o.length o.pages o.budget)
    ∙ ap (λ x. options_by x (number 1 8 (decimal o.segments)) (number 1 1000000 (decimal o.length))
    (number 1 65536 (decimal o.pages)) (number 1 1000000000000000 (decimal o.budget))) script
    ∙ ap (λ x. options_by (Some o.script) x (number 1 1000000 (decimal o.length)) (number 1 65536 (decimal o.pages))
    (number 1 1000000000000000 (decimal o.budget))) segments
    ∙ ap (λ x. options_by (Some o.script) (Some o.segments) x (number 1 65536 (decimal o.pages))
    (number 1 1000000000000000 (decimal o.budget))) steps
    ∙ ap (λ x. options_by (Some o.script) (Some o.segments)
    (Some o.length) x (number 1 1000000000000000 (decimal o.budget))) pages
    ∙ ap (λ x. options_by (Some o.script) (Some o.segments) (Some o.length) (Some o.pages) x) budget
