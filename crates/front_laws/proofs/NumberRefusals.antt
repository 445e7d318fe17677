-- Which refusals the reading of a number has.
use Rattle.std.proofs.Common.{◌≡◌, ℕ, ◌==◌, nat_lt, ◌&&◌, List, length, map, drop, Ok, Err, refl}
use Rattle.std.specs.Str.Parse.{digits_value}
use Rattle.py_base.specs.declared.refusal.Refusal.TheVariants.{BadCharacter, NumberWide}
use Rattle.py_tokens.specs.declared.character.Character.{Character}
use Rattle.py_tokens.specs.declared.class.Base.{Base}
use Rattle.py_tokens.specs.declared.class.Base.TheVariants.{Eight, Ten}
use Rattle.py_tokens.specs.declared.class.Class.TheVariants.{Byte, Letter, Digit}
use Rattle.py_tokens.specs.Characters.{byte_of}
use Rattle.py_tokens.specs.Classes.{base_of, next_is, run_len, run, after}
use Rattle.py_tokens.specs.Numbers.{Read, ten, suffixed, prefixed, after_point, after_exponent, whole, unprefixed, number_at}
use Rattle.front_laws.proofs.Reading.{read_cases}
use Rattle.front_laws.proofs.NumberReading.{number_cases}

abbrev pub NumberRefused : ℕ → Read → Type 0
NumberRefused line (Ok r) = Unit {0}
NumberRefused line (Err (BadCharacter l)) = l ≡ line
NumberRefused line (Err (NumberWide l)) = l ≡ line
NumberRefused line (Err _) = ⊥

suffixed_refused : (line : ℕ) (base : Base) (ds rest : List Character) → NumberRefused line (suffixed line base ds rest)
suffixed_refused line base ds rest =
    read_cases (NumberRefused line) (next_is (Letter 108) rest) _ _ (λ e. tt)
    (λ e. read_cases (NumberRefused line) (nat_lt (digits_value (base_of base) (map byte_of ds)) 9223372036854775808) _
    _ (λ f. tt) (λ f. refl))

prefixed_refused : (line : ℕ) (base : Base) (cs : List Character) → NumberRefused line (prefixed line base cs)
prefixed_refused line base cs =
    read_cases (NumberRefused line) (next_is (Digit base) cs) _ _
    (λ e. suffixed_refused line base (run (Digit base) cs) (after (Digit base) cs))
    (λ e. refl)

whole_refused : (line : ℕ) (ds rest : List Character) → NumberRefused line (whole line ds rest)
whole_refused line ds rest =
    let P : Read → Type 0 = NumberRefused line in
    read_cases P (length ds == 0) _ _ (λ e. refl)
    (λ e. read_cases P (next_is (Byte 48) ds && nat_lt 1 (length ds)) _ _
    (λ f. read_cases P (run_len (Digit Eight) ds == length ds) _ _ (λ g. suffixed_refused line Eight ds rest)
    (λ g. refl))
    (λ f. suffixed_refused line Ten ds rest))

unprefixed_refused : (line : ℕ) (cs : List Character) → NumberRefused line (unprefixed line cs)
unprefixed_refused line cs =
    let rest = after ten cs in
    let more = after_exponent (after_point rest) in
    let P : Read → Type 0 = NumberRefused line in
    read_cases P (nat_lt (length more) (length rest)) _ _ (λ e. tt)
    (λ e. read_cases P (next_is (Letter 106) rest) _ _ (λ f. tt) (λ f. whole_refused line (run ten cs) rest))

pub number_refused : (line : ℕ) (cs : List Character) → NumberRefused line (number_at line cs)
number_refused line cs =
    number_cases (NumberRefused line) line cs (λ base letter is z e. prefixed_refused line base (drop 1 (drop 1 cs)))
    (unprefixed_refused line cs)
