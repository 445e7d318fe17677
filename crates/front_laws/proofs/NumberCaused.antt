-- The reading of a number refuses a bad character only where the text begins as a number that is none.
use Rattle.std.proofs.Common.{◌≡◌, ℕ, suc, ◌+◌, true, false, cond, ◌==◌, nat_lt, ◌&&◌, List, [], ◌∷◌, ◌++◌, length, map, drop, Err, refl, sym, ap, ◌∙◌, subst, eq-eqb, eqb-true, arith}
use Rattle.std.proofs.lemmas.Bool.{and_parts}
use Rattle.std.specs.Str.Parse.{digits_value}
use Rattle.py_base.specs.declared.refusal.Refusal.{Refusal}
use Rattle.py_base.specs.declared.refusal.Refusal.TheVariants.{BadCharacter}
use Rattle.py_tokens.specs.declared.character.Character.{Character}
use Rattle.py_tokens.specs.declared.class.Base.{Base}
use Rattle.py_tokens.specs.declared.class.Base.TheVariants.{Eight, Ten}
use Rattle.py_tokens.specs.declared.class.Class.{Class}
use Rattle.py_tokens.specs.declared.class.Class.TheVariants.{Letter, Digit}
use Rattle.py_tokens.specs.declared.token.Other.TheVariants as other
use Rattle.py_tokens.specs.declared.token.TokenKind.TheVariants as k
use Rattle.py_tokens.specs.Characters.{byte_of}
use Rattle.py_tokens.specs.Classes.{base_of, holds, next_is, run_len, run, after}
use Rattle.py_tokens.specs.Numbers.{Read, ten, suffixed, prefixed, number_at}
use Rattle.front_laws.specs.Spells.{Each, BaseLetter, Spells}
use Rattle.front_laws.specs.Spells as s
use Rattle.front_laws.specs.Fronts.{no_digit, no_octal}
use Rattle.front_laws.proofs.Reading.{starts_number, Found, Caused, read_cases}
use Rattle.front_laws.proofs.NumberBytes.{contrary}
use Rattle.front_laws.proofs.NumberReading.{number_cases, more_of, split}
use Rattle.front_laws.proofs.NumberFound.{float_found, imaginary_found, imaginary_whole_found}
use Rattle.front_laws.proofs.NumberSpelled.{Start, digits, point, started, digits_split, point_float}

run_len_each : (c : Class) (xs : List Character) → Each c xs → run_len c xs ≡ length xs
run_len_each c [] h = refl
run_len_each c (x ∷ xs) h =
    let rest = run_len_each c xs h.1 in
    let more : 1 + run_len c xs ≡ suc (length xs) = omega arith in
    ap (λ b. cond b (1 + run_len c xs) 0) h.0 ∙ more

-- a text whose reading is refused has no float at its front
no_float : (line : ℕ) (e : Refusal) (front rest : List Character) → number_at line (front ++ rest) ≡ Err e →
    Spells front (k.Other other.Float) → ⊥
no_float line e front rest h (s.float f) = subst (Found (length rest)) h (float_found line front rest f)
no_float line e front rest h (s.imaginary {cs = cs} j f l) =
    subst (Found (length rest)) h (imaginary_found line j cs rest f l)
no_float line e front rest h (s.imaginary_whole d ds j each l) =
    subst (Found (length rest)) h (imaginary_whole_found line d ds j rest each l)

suffixed_caused : (line : ℕ) (base : Base) (ds rest all : List Character) → Caused line all (suffixed line base ds rest)
suffixed_caused line base ds rest all =
    read_cases (Caused line all) (next_is (Letter 108) rest) _ _ (λ e. tt)
    (λ e. read_cases (Caused line all) (nat_lt (digits_value (base_of base) (map byte_of ds)) 9223372036854775808) _ _
    (λ f. tt) (λ f. tt))

prefixed_caused : (line : ℕ) (base : Base) (letter : ℕ) (c : Character) (cs : List Character) → BaseLetter base letter
    → c.byte ≡ 48 →
    next_is (Letter letter) cs ≡ true → Caused line (c ∷ cs) (prefixed line base (drop 1 cs))
prefixed_caused line base letter c [] l e h = absurd (contrary h refl)
prefixed_caused line base letter c (x ∷ cs) l e h =
    read_cases (Caused line (c ∷ x ∷ cs)) (next_is (Digit base) cs) _ _
    (λ f. suffixed_caused line base (run (Digit base) cs) (after (Digit base) cs) (c ∷ x ∷ cs))
    (λ f. (refl, no_digit base letter l c x cs e h f))

octal_caused : (line : ℕ) (d : Character) (ds rest : List Character) → d.byte ≡ 48 → Each ten ds →
    next_is ten rest ≡ false →
    (run_len (Digit Eight) (d ∷ ds) == length (d ∷ ds)) ≡ false →
    number_at line ((d ∷ ds) ++ rest) ≡ Err (BadCharacter line) →
    Caused line ((d ∷ ds) ++ rest) (Err (BadCharacter line))
octal_caused line d ds rest e each stop short h =
    let all = (d ∷ ds) ++ rest in
    let zero : holds (Digit Eight) d.byte ≡ true = subst (λ b. holds (Digit Eight) b ≡ true) (sym e) refl in (
      refl,
      no_octal d ds rest e each
          (λ eight. contrary (eq-eqb (run_len (Digit Eight) (d ∷ ds)) (length (d ∷ ds))
          (run_len_each (Digit Eight) (d ∷ ds) (zero, eight))) short)
          stop
          (λ front after same spelled. no_float line (BadCharacter line) front after
          (ap (number_at line) (sym same) ∙ h) spelled),
    )

-- a reading that the text has is caused
abbrev CausedAt : ℕ → List Character → Read → Type 0
CausedAt line cs r = number_at line cs ≡ r → Caused line cs r

split_caused : (line : ℕ) (d : Character) (ds rest : List Character) → Each ten (d ∷ ds) → next_is ten rest ≡ false →
    CausedAt line ((d ∷ ds) ++ rest) (split line (d ∷ ds) rest)
split_caused line d ds rest each stop =
    let front = d ∷ ds in
    let all = front ++ rest in
    let P : Read → Type 0 = CausedAt line all in
    read_cases P (nat_lt (length (more_of rest)) (length rest)) _ _ (λ e h. tt)
    (λ e. read_cases P (next_is (Letter 106) rest) _ _ (λ f h. tt)
    (λ f. read_cases P (length front == 0) _ _ (λ g h. let none : length (d ∷ ds) ≡ 0 = eqb-true (length front) 0 g in
    absurd (omega arith))
    (λ g. read_cases P (d.byte == 48 && nat_lt 1 (length front)) _ _
    (λ m. read_cases P (run_len (Digit Eight) front == length front) _ _
    (λ n h. suffixed_caused line Eight front rest all)
    (λ n h. octal_caused line d ds rest (eqb-true d.byte 48 (and_parts _ _ m).0) each.1 stop n h))
    (λ m h. suffixed_caused line Ten front rest all))))

start_caused : (line : ℕ) (cs : List Character) → Start cs → Caused line cs (number_at line cs)
start_caused line cs (digits d ds rest each stop) =
    let all = (d ∷ ds) ++ rest in
    number_cases (CausedAt line all) line all
    (λ base letter l z f h. prefixed_caused line base letter d (ds ++ rest) l (eqb-true d.byte 48 z) f)
    (subst (CausedAt line all) (sym (digits_split line d ds rest each stop)) (split_caused line d ds rest each stop))
    refl
start_caused line cs (point p f rest e h) = subst (Caused line (p ∷ f ∷ rest)) (sym (point_float line p f rest e h)) tt

pub number_caused : (line : ℕ) (cs : List Character) → starts_number cs ≡ true → Caused line cs (number_at line cs)
number_caused line cs e = start_caused line cs (started cs e)
