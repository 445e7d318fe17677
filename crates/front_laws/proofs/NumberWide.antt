-- A number is refused as too wide only where a front of the text is a whole number that is too wide, and no longer
-- front spells a token.
use Rattle.std.proofs.Common.{◌≡◌, ⊎_elim, ℕ, ◌+◌, ◌<◌, ◌≤◌, true, false, ◌==◌, nat_lt, ◌&&◌, List, [], ◌∷◌, ◌++◌, length, map, drop, Ok, Err, refl, sym, ap, ◌∙◌, subst, append_assoc, eq-eqb, eqb-true, ltb-true, ltb-false, arith}
use Rattle.std.proofs.lemmas.Bool.{and_parts, or_left}
use Rattle.std.proofs.lemmas.List.{length-append}
use Rattle.std.specs.Str.Parse.{digits_value}
use Rattle.py_base.specs.declared.refusal.Refusal.{Refusal}
use Rattle.py_base.specs.declared.refusal.Refusal.TheVariants.{NumberWide}
use Rattle.py_tokens.specs.declared.character.Character.{Character}
use Rattle.py_tokens.specs.declared.class.Base.{Base}
use Rattle.py_tokens.specs.declared.class.Base.TheVariants.{Two, Eight, Ten, Sixteen}
use Rattle.py_tokens.specs.declared.class.Class.{Class}
use Rattle.py_tokens.specs.declared.class.Class.TheVariants.{Byte, Letter, Digit, NameStart, Quote}
use Rattle.py_tokens.specs.declared.literal.Prefix.{Prefix}
use Rattle.py_tokens.specs.declared.token.TokenKind.{TokenKind}
use Rattle.py_tokens.specs.Characters.{byte_of}
use Rattle.py_tokens.specs.Classes.{base_of, is_name_start, next_is, run_len, run, after}
use Rattle.py_tokens.specs.Numbers.{Read, ten, suffixed, prefixed, whole, unprefixed, number_at}
use Rattle.py_tokens.specs.Tables.{keywords, operators}
use Rattle.front_laws.specs.Spells.{Is, Each, value, BaseLetter, two, eight, sixteen, Whole, zero_digit, decimal, octal, in_base, pointed, behind, Literal, Spells}
use Rattle.front_laws.specs.Spells as s
use Rattle.front_laws.specs.Pieces.{TooWide}
use Rattle.front_laws.proofs.Runs.{after_each, after_none, after_shorter, after_stops, run_splits, each_run}
use Rattle.front_laws.proofs.Reading.{starts_number, Found, read_cases}
use Rattle.front_laws.proofs.Tables.{of_every}
use Rattle.front_laws.proofs.NumberBytes.{contrary, digits_decimal, zero_is_digit, NoBase, digit_no_base}
use Rattle.front_laws.proofs.NumberReading.{more_of, split}
use Rattle.front_laws.proofs.NumberFound.{float_found, imaginary_found, imaginary_whole_found}
use Rattle.front_laws.proofs.NumberSpelled.{Start, digits, point, started, digits_split, some_run, base_whole, each_octal, octal_whole, ten_whole}
use Rattle.front_laws.proofs.OneNumber.{base_known}
use Rattle.front_laws.proofs.OneString.{literal_first}
use Rattle.front_laws.proofs.TokenFronts.{number_no_name, number_no_quote, is_operator_word, operator_words, operator_start, is_name_word, keyword_words}

-- ---- two fronts of one text

-- of two fronts, one such a run as long as it can be, the other has no more
run_longest : (k : Class) (ds rest xs ys : List Character) → Each k ds → next_is k rest ≡ false → ds ++ rest ≡ xs ++ ys
    → Each k xs →
    length xs ≤ length ds
run_longest k ds rest xs ys each stop e h =
    let same : rest ≡ after k ys = sym (after_each k ds rest each ∙ after_none k rest stop) ∙ ap (after k) e ∙
    after_each k xs ys h in
    let a : length rest ≡ length (after k ys) = ap length same in
    let b = after_shorter k ys in
    let l : length ds + length rest ≡ length xs + length ys = sym (length-append ds rest) ∙ ap length e ∙
    length-append xs ys in
    omega arith

-- a front with an `l` behind it is no longer than one that no `l` follows, if it isn't without the `l`
long_shorter : (front rest xs ys : List Character) (l : Character) → front ++ rest ≡ xs ++ l ∷ ys → Is (Letter 108) l →
    next_is (Letter 108) rest ≡ false → length xs ≤ length front → length xs < length front
long_shorter [] rest [] ys l e h stop most = absurd (contrary h (sym (ap (next_is (Letter 108)) e) ∙ stop))
long_shorter [] rest (x ∷ xs) ys l e h stop most = absurd (omega arith)
long_shorter (f ∷ front) rest [] ys l e h stop most = omega arith
long_shorter (f ∷ front) rest (x ∷ xs) ys l e h stop most =
    let less = long_shorter front rest xs ys l (ap (drop 1) e) h stop (omega arith) in omega arith

next_front : (k : Class) (xs ys : List Character) → next_is k xs ≡ true → next_is k (xs ++ ys) ≡ true
next_front k [] ys e = absurd (contrary e refl)
next_front k (x ∷ xs) ys e = e

-- ---- whole numbers at the front

-- no front that is a whole number is longer than this one
abbrev WholeWithin : List Character → List Character → Type 0
WholeWithin front rest = (xs ys : List Character) (n : ℕ) → front ++ rest ≡ xs ++ ys → Whole xs n →
    length xs ≤ length front

digits_longest : (d : Character) (ds rest : List Character) → Each ten (d ∷ ds) → next_is ten rest ≡ false →
    (next_is (Byte 48) (d ∷ (ds ++ rest)) ≡ true → NoBase (ds ++ rest)) → WholeWithin (d ∷ ds) rest
digits_longest d ds rest each stop free xs ys n e (zero_digit c z) = omega arith
digits_longest d ds rest each stop free xs ys n e (decimal c cs other h) =
    run_longest ten (d ∷ ds) rest (c ∷ cs) ys each stop e h
digits_longest d ds rest each stop free xs ys n e (octal c f cs z h) =
    run_longest ten (d ∷ ds) rest (c ∷ f ∷ cs) ys each stop e
    (zero_is_digit c z, digits_decimal Eight (f ∷ cs) (omega arith) h)
digits_longest d ds rest each stop free xs ys n e (in_base base letter b c x f cs z g h) =
    let zero : next_is (Byte 48) (d ∷ (ds ++ rest)) ≡ true = ap (next_is (Byte 48)) e ∙ eq-eqb c.byte 48 z in
    absurd (contrary g (sym (ap (λ t. next_is (Letter letter) (drop 1 t)) e) ∙ free zero base letter b))

base_longest : (base : Base) (letter : ℕ) (c x : Character) (ds rest : List Character) → BaseLetter base letter →
    c.byte ≡ 48 → Is (Letter letter) x →
    Each (Digit base) ds → next_is (Digit base) rest ≡ false → WholeWithin (c ∷ x ∷ ds) rest
base_longest base letter c x ds rest b z h each stop xs ys n e (zero_digit f y) = omega arith
base_longest base letter c x ds rest b z h each stop xs ys n e (decimal f fs other g) =
    absurd (other (eqb-true f.byte 48 (sym (ap (next_is (Byte 48)) e) ∙ eq-eqb c.byte 48 z)))
base_longest base letter c x ds rest b z h each stop xs ys n e (octal f d fs y g) =
    let known : Is (Letter letter) d = sym (ap (λ t. next_is (Letter letter) (drop 1 t)) e) ∙ h in
    absurd (contrary known (digit_no_base d fs (digits_decimal Eight (d ∷ fs) (omega arith) g).0 base letter b))
base_longest base letter c x ds rest b z h each stop xs ys n e (in_base other key k f g d fs y i j) =
    let known : Is (Letter key) x = ap (λ t. next_is (Letter key) (drop 1 t)) e ∙ i in
    let same : other ≡ base = sym (base_known other key x k known) ∙ base_known base letter x b h in
    let most = run_longest (Digit base) ds rest (d ∷ fs) ys each stop (ap (drop 2) e)
    (subst (λ a. Each (Digit a) (d ∷ fs)) same j) in
    omega arith

-- ---- any front

no_name : (xs ys : List Character) → next_is ten (xs ++ ys) ≡ true → next_is NameStart xs ≡ true → ⊥
no_name xs ys digit e = contrary (next_front NameStart xs ys e) (number_no_name (xs ++ ys) (or_left _ _ digit))

no_quote : (xs ys : List Character) → next_is ten (xs ++ ys) ≡ true → next_is Quote xs ≡ true → ⊥
no_quote xs ys digit e = contrary (next_front Quote xs ys e) (number_no_quote (xs ++ ys) (or_left _ _ digit))

no_literal : (xs ys body : List Character) (p : Prefix) → next_is ten (xs ++ ys) ≡ true → Literal xs p body → ⊥
no_literal xs ys body p digit h = ⊎_elim (λ e. no_name xs ys digit e) (λ e. no_quote xs ys digit e)
    (literal_first xs body p h)

no_keyword : (xs ys : List Character) → next_is ten (xs ++ ys) ≡ true → is_name_word (map byte_of xs) ≡ true → ⊥
no_keyword [] ys digit e = contrary e refl
no_keyword (x ∷ xs) ys digit e = no_name (x ∷ xs) ys digit (and_parts (is_name_start x.byte) _ e).0

no_operator : (xs ys : List Character) → next_is ten (xs ++ ys) ≡ true → is_operator_word (map byte_of xs) ≡ true → ⊥
no_operator [] ys digit e = contrary e refl
no_operator (x ∷ xs) ys digit e = let start = operator_start x xs e in contrary digit start.digit

-- where a text begins with a digit and its reading is refused, no front but a whole number, with an `l` or without, is
-- spelled
spelled_longest : (line m : ℕ) (r : Refusal) (more rest : List Character) (kind : TokenKind) →
    next_is ten (more ++ rest) ≡ true →
    number_at line (more ++ rest) ≡ Err r → ((n : ℕ) → Whole more n → length more ≤ m) →
    ((cs : List Character) (n : ℕ) (l : Character) → more ≡ cs ++ l ∷ [] → Whole cs n → Is (Letter 108) l →
    length (cs ++ l ∷ []) ≤ m) →
    Spells more kind → length more ≤ m
spelled_longest line m r more rest kind digit h short long (s.keyword n l) =
    absurd (no_keyword more rest digit (of_every is_name_word keywords (map byte_of more) n keyword_words l))
spelled_longest line m r more rest kind digit h short long (s.name c cs first each none) =
    absurd (no_name (c ∷ cs) rest digit first)
spelled_longest line m r more rest kind digit h short long (s.operator n l) =
    absurd (no_operator more rest digit (of_every is_operator_word operators (map byte_of more) n operator_words l))
spelled_longest line m r more rest kind digit h short long (s.int {n = n} w small) = short n w
spelled_longest line m r more rest kind digit h short long (s.long {cs = cs} {n = n} l w e) = long cs n l refl w e
spelled_longest line m r more rest kind digit h short long (s.float f) =
    absurd (subst (Found (length rest)) h (float_found line more rest f))
spelled_longest line m r more rest kind digit h short long (s.imaginary {cs = cs} j f e) =
    absurd (subst (Found (length rest)) h (imaginary_found line j cs rest f e))
spelled_longest line m r more rest kind digit h short long (s.imaginary_whole d ds j each e) =
    absurd (subst (Found (length rest)) h (imaginary_whole_found line d ds j rest each e))
spelled_longest line m r more rest kind digit h short long (s.string {body = body} {p = p} l plain e) =
    absurd (no_literal more rest body p digit l)
spelled_longest line m r more rest kind digit h short long (s.unicode_string {body = body} {p = p} l e) =
    absurd (no_literal more rest body p digit l)

-- with an `l` that the front isn't followed by
long_longest : (front rest ys cs : List Character) (n : ℕ) (l : Character) → WholeWithin front rest →
    next_is (Letter 108) rest ≡ false →
    front ++ rest ≡ (cs ++ l ∷ []) ++ ys → Whole cs n → Is (Letter 108) l → length (cs ++ l ∷ []) ≤ length front
long_longest front rest ys cs n l within stop e w h =
    let at : front ++ rest ≡ cs ++ l ∷ ys = e ∙ append_assoc cs (l ∷ []) ys in
    let less = long_shorter front rest cs ys l at h stop (within cs (l ∷ ys) n at w) in
    let len : length (cs ++ l ∷ []) ≡ length cs + 1 = length-append cs (l ∷ []) in
    omega arith

front_longest : (line : ℕ) (r : Refusal) (front rest : List Character) → next_is ten (front ++ rest) ≡ true →
    number_at line (front ++ rest) ≡ Err r →
    next_is (Letter 108) rest ≡ false → WholeWithin front rest →
    (more ys : List Character) (kind : TokenKind) → front ++ rest ≡ more ++ ys → Spells more kind →
    length more ≤ length front
front_longest line r front rest digit h stop within more ys kind e spelled =
    spelled_longest line (length front) r more ys kind (subst (λ t. next_is ten t ≡ true) e digit)
    (subst (λ t. number_at line t ≡ Err r) e h)
    (λ n w. within more ys n e w)
    (λ cs n l same w g. long_longest front rest ys cs n l within stop (e ∙ ap (λ t. t ++ ys) same) w g) spelled

-- ---- the reading

abbrev IfWide : List Character → Read → Type 0
IfWide cs (Ok p) = Unit {0}
IfWide cs (Err (NumberWide l)) = TooWide cs
IfWide cs (Err _) = Unit {0}

-- where the text is read so, and this is a refusal as too wide, its longest front is too wide
abbrev WideAt : ℕ → List Character → Read → Type 0
WideAt line cs r = number_at line cs ≡ r → IfWide cs r

suffixed_wide : (line : ℕ) (base : Base) (ds front rest : List Character) → Whole front (value base ds) →
    next_is ten (front ++ rest) ≡ true →
    WholeWithin front rest → WideAt line (front ++ rest) (suffixed line base ds rest)
suffixed_wide line base ds front rest w digit within =
    let v = digits_value (base_of base) (map byte_of ds) in
    let P : Read → Type 0 = WideAt line (front ++ rest) in
    read_cases P (next_is (Letter 108) rest) _ _ (λ e h. tt)
    (λ e. read_cases P (nat_lt v 9223372036854775808) _ _ (λ f h. tt)
    (λ f h. record {
      front = front;
      rest = rest;
      splits = refl;
      number = v;
      whole = w;
      wide = ltb-false v 9223372036854775808 f;
      longest = front_longest line (NumberWide line) front rest digit h e within;
    }))

whole_wide : (line : ℕ) (d : Character) (ds rest : List Character) → Each ten (d ∷ ds) → WholeWithin (d ∷ ds) rest →
    WideAt line ((d ∷ ds) ++ rest) (whole line (d ∷ ds) rest)
whole_wide line d ds rest each within =
    let front = d ∷ ds in
    let P : Read → Type 0 = WideAt line (front ++ rest) in
    read_cases P (length front == 0) _ _ (λ e h. tt)
    (λ e. read_cases P (d.byte == 48 && nat_lt 1 (length front)) _ _
    (λ f. read_cases P (run_len (Digit Eight) front == length front) _ _
    (λ g. let both = and_parts _ _ f in
    suffixed_wide line Eight front front rest
    (octal_whole d ds (eqb-true d.byte 48 both.0) (ltb-true 1 (length front) both.1)
    (each_octal front (eqb-true (run_len (Digit Eight) front) (length front) g))) each.0 within)
    (λ g h. tt))
    (λ f. suffixed_wide line Ten front front rest (ten_whole d ds each f) each.0 within))

split_wide : (line : ℕ) (d : Character) (ds rest : List Character) → Each ten (d ∷ ds) → WholeWithin (d ∷ ds) rest →
    WideAt line ((d ∷ ds) ++ rest) (split line (d ∷ ds) rest)
split_wide line d ds rest each within =
    let P : Read → Type 0 = WideAt line ((d ∷ ds) ++ rest) in
    read_cases P (nat_lt (length (more_of rest)) (length rest)) _ _ (λ e h. tt)
    (λ e. read_cases P (next_is (Letter 106) rest) _ _ (λ f h. tt) (λ f. whole_wide line d ds rest each within))

prefixed_wide : (line : ℕ) (base : Base) (letter : ℕ) (c : Character) (cs : List Character) → BaseLetter base letter →
    c.byte ≡ 48 →
    next_is (Letter letter) cs ≡ true → WideAt line (c ∷ cs) (prefixed line base (drop 1 cs))
prefixed_wide line base letter c [] l z h = absurd (contrary h refl)
prefixed_wide line base letter c (x ∷ cs) l z h =
    let ds = run (Digit base) cs in
    let rest = after (Digit base) cs in
    read_cases (WideAt line (c ∷ x ∷ cs)) (next_is (Digit base) cs) _ _
    (λ f. let r = some_run base cs f in
    subst (λ t. WideAt line (c ∷ x ∷ t) (suffixed line base ds rest)) (run_splits (Digit base) cs)
    (suffixed_wide line base ds (c ∷ x ∷ ds) rest
    (base_whole base letter c x ds l z h (each_run (Digit base) cs) r.0 r.1 r.2) (zero_is_digit c z)
    (base_longest base letter c x ds rest l z h (each_run (Digit base) cs) (after_stops (Digit base) cs))))
    (λ f g. tt)

no_base : (cs : List Character) → next_is (Letter 98) cs ≡ false → next_is (Letter 111) cs ≡ false →
    next_is (Letter 120) cs ≡ false → NoBase cs
no_base cs e f g base letter two = e
no_base cs e f g base letter eight = f
no_base cs e f g base letter sixteen = g

-- `number_cases`, with what is known where no prefix is taken
number_ways : (P : Read → Type 0) (line : ℕ) (cs : List Character) →
    ((base : Base) (letter : ℕ) → BaseLetter base letter → next_is (Byte 48) cs ≡ true →
    next_is (Letter letter) (drop 1 cs) ≡ true →
    P (prefixed line base (drop 1 (drop 1 cs)))) →
    ((next_is (Byte 48) cs ≡ true → NoBase (drop 1 cs)) → P (unprefixed line cs)) → P (number_at line cs)
unfolding number_at
number_ways P line cs f g =
    let one = drop 1 cs in
    read_cases P (next_is (Byte 48) cs) _ _
    (λ z. read_cases P (next_is (Letter 120) one) _ _ (λ e. f Sixteen 120 sixteen z e)
    (λ n. read_cases P (next_is (Letter 98) one) _ _ (λ e. f Two 98 two z e)
    (λ m. read_cases P (next_is (Letter 111) one) _ _ (λ e. f Eight 111 eight z e) (λ k. g (λ y. no_base one m k n)))))
    (λ z. g (λ y. absurd (contrary y z)))

found_wide : (cs : List Character) (n : ℕ) (r : Read) → Found n r → IfWide cs r
found_wide cs n (Ok p) h = tt
found_wide cs n (Err e) h = absurd h

start_wide : (line : ℕ) (cs : List Character) → Start cs → WideAt line cs (number_at line cs)
start_wide line cs (digits d ds rest each stop) =
    let all = (d ∷ ds) ++ rest in
    number_ways (WideAt line all) line all
    (λ base letter l z f. prefixed_wide line base letter d (ds ++ rest) l (eqb-true d.byte 48 z) f)
    (λ free. subst (WideAt line all) (sym (digits_split line d ds rest each stop))
    (split_wide line d ds rest each (digits_longest d ds rest each stop free)))
start_wide line cs (point p f rest e g) =
    λ h. found_wide (p ∷ f ∷ rest) (length rest) (number_at line (p ∷ f ∷ rest))
    (float_found line (p ∷ f ∷ []) rest (pointed (behind p f [] e (g, tt))))

-- a number that is refused as too wide has a longest front that is a number, and that is too wide
pub too_wide : (line l : ℕ) (cs : List Character) → starts_number cs ≡ true → number_at line cs ≡ Err (NumberWide l) →
    TooWide cs
too_wide line l cs e h = subst (IfWide cs) h (start_wide line cs (started cs e) refl)
