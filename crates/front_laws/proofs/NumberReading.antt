-- How the reading of a number goes: after a base's prefix, or by its digits and what follows them.
use Rattle.std.proofs.Common.{◌≡◌, ℕ, ◌<◌, ◌≤◌, Bool, true, false, nat_lt, ◌&&◌, if◌then◌else◌, List, [], ◌∷◌, ◌++◌, length, drop, inl, inr, ◌⊎◌, refl, sym, ap, ◌∙◌, subst, append_assoc, eq-eqb, length-drop, arith}
use Rattle.std.proofs.lemmas.Bool.{and_from}
use Rattle.py_tokens.specs.declared.character.Character.{Character}
use Rattle.py_tokens.specs.declared.class.Base.{Base}
use Rattle.py_tokens.specs.declared.class.Base.TheVariants.{Two, Eight, Ten, Sixteen}
use Rattle.py_tokens.specs.declared.class.Class.TheVariants.{Byte, Letter, Sign}
use Rattle.py_tokens.specs.Classes.{holds, next_is, run, after}
use Rattle.py_tokens.specs.Numbers.{Read, ten, prefixed, after_point, exponent, after_exponent, float, whole, unprefixed, number_at}
use Rattle.front_laws.specs.Spells.{Is, Each, BaseLetter, two, eight, sixteen, Exponent, plain, signed, Pointed, behind, before, Float, pointed, raised, power}
use Rattle.front_laws.proofs.Runs.{after_each, after_none, after_shorter}
use Rattle.front_laws.proofs.Reading.{read_cases}
use Rattle.front_laws.proofs.NumberBytes.{contrary, by_letter, point_no_digit, sign_no_digit, exponent_no_digit, exponent_no_point, after_digits, NoBase, digit_no_base, point_no_base, letter_no_base, digits_no_base}

-- ---- the two ways

pub number_cases : (P : Read → Type 0) (line : ℕ) (cs : List Character) →
    ((base : Base) (letter : ℕ) → BaseLetter base letter → next_is (Byte 48) cs ≡ true →
    next_is (Letter letter) (drop 1 cs) ≡ true →
    P (prefixed line base (drop 1 (drop 1 cs)))) →
    P (unprefixed line cs) → P (number_at line cs)
unfolding number_at
number_cases P line cs f g =
    let one = drop 1 cs in
    read_cases P (next_is (Byte 48) cs) _ _
    (λ z. read_cases P (next_is (Letter 120) one) _ _ (λ e. f Sixteen 120 sixteen z e)
    (λ n. read_cases P (next_is (Letter 98) one) _ _ (λ e. f Two 98 two z e)
    (λ m. read_cases P (next_is (Letter 111) one) _ _ (λ e. f Eight 111 eight z e) (λ k. g))))
    (λ z. g)

pub number_unprefixed : (line : ℕ) (cs : List Character) → NoBase (drop 1 cs) → number_at line cs ≡ unprefixed line cs
number_unprefixed line cs free =
    number_cases (λ r. r ≡ unprefixed line cs) line cs (λ base letter l z e. absurd (contrary e (free base letter l)))
    refl

-- what follows a zero
zero_way : ℕ → List Character → List Character → ℕ → Read
zero_way line all cs b =
    if holds (Letter 120) b then prefixed line Sixteen cs else
    (if holds (Letter 98) b then prefixed line Two cs else
    (if holds (Letter 111) b then prefixed line Eight cs else unprefixed line all))

zero_ways : (line : ℕ) (all cs : List Character) (base : Base) (letter : ℕ) (x : Character) → BaseLetter base letter →
    Is (Letter letter) x →
    zero_way line all cs x.byte ≡ prefixed line base cs
unfolding zero_way
zero_ways line all cs base letter x two h = by_letter (λ b. zero_way line all cs b ≡ prefixed line base cs) 66 x h refl
    refl
zero_ways line all cs base letter x eight h = by_letter (λ b. zero_way line all cs b ≡ prefixed line base cs) 79 x h
    refl refl
zero_ways line all cs base letter x sixteen h = by_letter (λ b. zero_way line all cs b ≡ prefixed line base cs) 88 x h
    refl refl

pub number_prefixed : (line : ℕ) (base : Base) (letter : ℕ) (c x : Character) (cs : List Character) →
    BaseLetter base letter → c.byte ≡ 48 →
    Is (Letter letter) x → number_at line (c ∷ x ∷ cs) ≡ prefixed line base cs
unfolding number_at zero_way
number_prefixed line base letter c x cs l e h =
    let all = c ∷ x ∷ cs in
    ap (λ b. if b then zero_way line all cs x.byte else unprefixed line all) (eq-eqb c.byte 48 e) ∙
    zero_ways line all cs base letter x l h

-- ---- without a prefix

-- what follows digits, a point and an exponent, from what follows the digits
abbrev pub more_of : List Character → List Character
more_of rest = after_exponent (after_point rest)

abbrev pub float_rest : List Character → List Character
float_rest cs = if next_is (Letter 106) cs then drop 1 cs else cs

-- the reading, from the digits and what follows them
abbrev pub split : ℕ → List Character → List Character → Read
split line digits rest =
    if nat_lt (length (more_of rest))
    (length rest) then float (more_of rest) else
    (if next_is (Letter 106) rest then float rest else whole line digits rest)

pub unprefixed_split : (line : ℕ) (cs rest : List Character) → after ten cs ≡ rest →
    unprefixed line cs ≡ split line (run ten cs) rest
unprefixed_split line cs rest e = ap (split line (run ten cs)) e

-- ---- lengths

pub drop_shorter : (n : ℕ) (cs : List Character) → length (drop n cs) ≤ length cs
drop_shorter n cs = omega (arith, length-drop n cs)

shorter_if : (b : Bool) (n : ℕ) (xs ys : List Character) → length xs ≤ n → length ys ≤ n →
    length (if b then xs else ys) ≤ n
shorter_if true n xs ys p q = p
shorter_if false n xs ys p q = q

after_drop : (n : ℕ) (cs : List Character) → length (after ten (drop n cs)) ≤ length cs
after_drop n cs = let a = after_shorter ten (drop n cs) in let b = drop_shorter n cs in omega arith

point_shorter : (cs : List Character) → length (after_point cs) ≤ length cs
point_shorter cs = shorter_if (next_is (Byte 46) cs) (length cs) _ _ (after_drop 1 cs) (omega arith)

exponent_part : (all cs : List Character) → length cs ≤ length all → length (exponent all cs) ≤ length all
exponent_part all cs h =
    let a = after_shorter ten cs in
    let b = after_drop 1 cs in
    shorter_if (next_is ten cs) (length all) _ _ (omega arith)
    (shorter_if (next_is Sign cs && next_is ten (drop 1 cs)) (length all) _ _ (omega arith) (omega arith))

pub exponent_shorter : (cs : List Character) → length (after_exponent cs) ≤ length cs
exponent_shorter cs = shorter_if (next_is (Letter 101) cs) (length cs) _ _
    (exponent_part cs (drop 1 cs) (drop_shorter 1 cs)) (omega arith)

pub more_shorter : (rest : List Character) → length (more_of rest) ≤ length rest
more_shorter rest = let a = exponent_shorter (after_point rest) in let b = point_shorter rest in omega arith

pub float_rest_shorter : (cs : List Character) → length (float_rest cs) ≤ length cs
float_rest_shorter cs = shorter_if (next_is (Letter 106) cs) (length cs) _ _ (drop_shorter 1 cs) (omega arith)

-- ---- a float's digits, point and exponent are taken

point_after : (p : Character) (fs rest : List Character) → p.byte ≡ 46 → Each ten fs →
    after_point (p ∷ (fs ++ rest)) ≡ after ten rest
point_after p fs rest e h = ap (λ b. if b then after ten (fs ++ rest) else p ∷ (fs ++ rest)) (eq-eqb p.byte 46 e) ∙
    after_each ten fs rest h

append_longer : (xs rest : List Character) → length rest ≤ length (xs ++ rest)
append_longer [] rest = omega arith
append_longer (x ∷ xs) rest = let h = append_longer xs rest in omega arith

after_less : (x : Character) (xs rest : List Character) → length (after ten rest) < length (x ∷ (xs ++ rest))
after_less x xs rest = let a = after_shorter ten rest in let b = append_longer xs rest in omega arith

-- a point and digits: what follows is what follows these digits, and some of it was taken
abbrev PointAfter : List Character → List Character → Type 0
PointAfter cs rest = (after_point (after ten cs) ≡ after ten rest) × (length (after ten rest) < length (after ten cs))

at_point : (cs : List Character) (p : Character) (fs rest : List Character) → after ten cs ≡ p ∷ (fs ++ rest) →
    p.byte ≡ 46 → Each ten fs →
    PointAfter cs rest
at_point cs p fs rest e point h = (
  ap after_point e ∙ point_after p fs rest point h,
  subst (λ xs. length (after ten rest) < length xs) (sym e)
      (after_less p fs rest),
)

before_split : (d : Character) (ds : List Character) (p : Character) (fs rest : List Character) → Each ten (d ∷ ds) →
    p.byte ≡ 46 →
    after ten (((d ∷ ds) ++ (p ∷ fs)) ++ rest) ≡ p ∷ (fs ++ rest)
before_split d ds p fs rest h e =
    ap (after ten) (append_assoc (d ∷ ds) (p ∷ fs) rest) ∙
    after_digits Ten (d ∷ ds) (p ∷ (fs ++ rest)) h (point_no_digit p e)

pointed_after : (cs rest : List Character) → Pointed cs → PointAfter (cs ++ rest) rest
pointed_after cs rest (behind p f fs e h) =
    at_point (p ∷ f ∷ (fs ++ rest)) p (f ∷ fs) rest (after_none ten (p ∷ f ∷ (fs ++ rest)) (point_no_digit p e)) e h
pointed_after cs rest (before d ds p fs h e g) =
    at_point (((d ∷ ds) ++ (p ∷ fs)) ++ rest) p fs rest (before_split d ds p fs rest h e) e g

exponent_after : (es rest : List Character) → Exponent es → after_exponent (es ++ rest) ≡ after ten rest
exponent_after es rest (plain e d cs l h) =
    let all = e ∷ d ∷ (cs ++ rest) in
    let one = d ∷ (cs ++ rest) in
    ap (λ b. if b then exponent all one else all) l
    ∙ ap (λ b. if b then after ten one else
    (if holds Sign d.byte && next_is ten (cs ++ rest) then after ten (cs ++ rest) else all)) h.0
    ∙ after_each ten (d ∷ cs) rest h
exponent_after es rest (signed e s d cs l sign h) =
    let all = e ∷ s ∷ d ∷ (cs ++ rest) in
    let one = s ∷ d ∷ (cs ++ rest) in
    let two = d ∷ (cs ++ rest) in
    ap (λ b. if b then exponent all one else all) l
    ∙ ap (λ b. if b then after ten one else (if holds Sign s.byte && holds ten d.byte then after ten two else all))
    (sign_no_digit s sign)
    ∙ ap (λ b. if b then after ten two else all) (and_from _ _ sign h.0)
    ∙ after_each ten (d ∷ cs) rest h

exponent_less : (es rest : List Character) → Exponent es → length (after ten rest) < length (es ++ rest)
exponent_less es rest (plain e d cs l h) = after_less e (d ∷ cs) rest
exponent_less es rest (signed e s d cs l sign h) = after_less e (s ∷ d ∷ cs) rest

exponent_stops : (es rest : List Character) → Exponent es → next_is ten (es ++ rest) ≡ false
exponent_stops es rest (plain e d cs l h) = exponent_no_digit e l
exponent_stops es rest (signed e s d cs l sign h) = exponent_no_digit e l

exponent_unpointed : (es rest : List Character) → Exponent es → after_point (es ++ rest) ≡ es ++ rest
exponent_unpointed es rest (plain e d cs l h) =
    ap (λ b. if b then after ten (d ∷ (cs ++ rest)) else e ∷ d ∷ (cs ++ rest)) (exponent_no_point e l)
exponent_unpointed es rest (signed e s d cs l sign h) =
    ap (λ b. if b then after ten (s ∷ d ∷ (cs ++ rest)) else e ∷ s ∷ d ∷ (cs ++ rest)) (exponent_no_point e l)

exponent_no_base : (es rest : List Character) → Exponent es → NoBase (es ++ rest)
exponent_no_base es rest (plain e d cs l h) = letter_no_base 101 e (d ∷ (cs ++ rest)) (omega arith) (omega arith) l
exponent_no_base es rest (signed e s d cs l sign h) = letter_no_base 101 e (s ∷ d ∷ (cs ++ rest)) (omega arith)
    (omega arith) l

-- what follows a float is what follows its digits, and an exponent there may still be taken; some of what follows the
-- first digits was taken
abbrev pub FloatAfter : List Character → List Character → Type 0
FloatAfter cs rest =
    ((more_of (after ten cs) ≡ after ten rest) ⊎ (more_of (after ten cs) ≡ after_exponent (after ten rest))) ×
    (length (more_of (after ten cs)) < length (after ten cs))

raised_after : (cs es rest : List Character) → Pointed cs → Exponent es → FloatAfter (cs ++ (es ++ rest)) rest
raised_after cs es rest p x =
    let q = pointed_after cs (es ++ rest) p in
    let stop : after ten (es ++ rest) ≡ es ++ rest = after_none ten (es ++ rest) (exponent_stops es rest x) in
    let same : more_of (after ten (cs ++ (es ++ rest))) ≡ after ten rest = ap after_exponent (q.0 ∙ stop) ∙
    exponent_after es rest x in
    let a : length (es ++ rest) < length (after ten (cs ++ (es ++ rest))) = subst
    (λ xs. length xs < length (after ten (cs ++ (es ++ rest)))) stop q.1 in
    let b = exponent_less es rest x in
    (inl same, subst (λ xs. length xs < length (after ten (cs ++ (es ++ rest)))) (sym same) (omega arith))

power_after : (d : Character) (ds es rest : List Character) → Each ten (d ∷ ds) → Exponent es →
    FloatAfter ((d ∷ ds) ++ (es ++ rest)) rest
power_after d ds es rest h x =
    let stop : after ten ((d ∷ ds) ++ (es ++ rest)) ≡ es ++ rest =
    after_digits Ten (d ∷ ds) (es ++ rest) h (exponent_stops es rest x) in
    let same : more_of (es ++ rest) ≡ after ten rest = ap after_exponent (exponent_unpointed es rest x) ∙
    exponent_after es rest x in
    let less : length (more_of (es ++ rest)) < length (es ++ rest) =
    subst (λ xs. length xs < length (es ++ rest)) (sym same)
    (exponent_less es rest x) in
    (inl (ap more_of stop ∙ same), subst (λ xs. length (more_of xs) < length xs) (sym stop) less)

pub float_after : (cs rest : List Character) → Float cs → FloatAfter (cs ++ rest) rest
float_after cs rest (pointed p) =
    let q = pointed_after cs rest p in
    let a : length (after_exponent (after_point (after ten (cs ++ rest)))) ≤ length
    (after_point (after ten (cs ++ rest))) =
    exponent_shorter (after_point (after ten (cs ++ rest))) in
    let b : length (after_point (after ten (cs ++ rest))) ≡ length (after ten rest) = ap length q.0 in
    let c : length (after ten rest) < length (after ten (cs ++ rest)) = q.1 in
    (inr (ap after_exponent q.0), omega arith)
float_after cs rest (raised {cs = xs} {es = es} p x) = subst (λ ys. FloatAfter ys rest) (sym (append_assoc xs es rest))
    (raised_after xs es rest p x)
float_after cs rest (power d ds {es = es} h x) = subst (λ ys. FloatAfter ys rest) (sym (append_assoc (d ∷ ds) es rest))
    (power_after d ds es rest h x)

pointed_no_base : (cs rest : List Character) → Pointed cs → NoBase (drop 1 (cs ++ rest))
pointed_no_base cs rest (behind p f fs e h) = digit_no_base f (fs ++ rest) h.0
pointed_no_base cs rest (before d ds p fs h e g) =
    subst NoBase (sym (append_assoc ds (p ∷ fs) rest))
    (digits_no_base ds (p ∷ (fs ++ rest)) h.1 (point_no_base p (fs ++ rest) e))

float_no_base : (cs rest : List Character) → Float cs → NoBase (drop 1 (cs ++ rest))
float_no_base cs rest (pointed p) = pointed_no_base cs rest p
float_no_base cs rest (raised {cs = xs} {es = es} p x) =
    subst (λ ys. NoBase (drop 1 ys)) (sym (append_assoc xs es rest)) (pointed_no_base xs (es ++ rest) p)
float_no_base cs rest (power d ds {es = es} h x) =
    subst NoBase (sym (append_assoc ds es rest)) (digits_no_base ds (es ++ rest) h.1 (exponent_no_base es rest x))

pub float_unprefixed : (line : ℕ) (cs rest : List Character) → Float cs →
    number_at line (cs ++ rest) ≡ unprefixed line (cs ++ rest)
float_unprefixed line cs rest f = number_unprefixed line (cs ++ rest) (float_no_base cs rest f)
