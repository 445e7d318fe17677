-- What is read as a number is spelled by the front that was taken.
use Rattle.std.proofs.Common.{◌≡◌, ◌⊎◌, inl, inr, ⊎_elim, ℕ, ◌+◌, ◌<◌, ◌≤◌, Bool, true, false, ◌==◌, nat_lt, ◌&&◌, if◌then◌else◌, List, [], ◌∷◌, ◌++◌, length, map, drop, take, Ok, refl, sym, ap, ◌∙◌, subst, append_assoc, ◌*◌, eq-eqb, eqb-true, lt-ltb, ltb-true, ltb-false, take_all, arith}
use Rattle.std.proofs.lemmas.Bool.{eqb-false, or_cases, and_parts, and_cases, cases_eq}
use Rattle.std.specs.Char.{digit_value}
use Rattle.std.specs.Str.Parse.{digits_value, digits_value_after}
use Rattle.py_tokens.specs.declared.character.Character.{Character}
use Rattle.py_tokens.specs.declared.class.Base.{Base}
use Rattle.py_tokens.specs.declared.class.Base.TheVariants.{Eight, Ten}
use Rattle.py_tokens.specs.declared.class.Class.TheVariants.{Byte, Letter, Digit, Sign}
use Rattle.py_tokens.specs.declared.token.Other.TheVariants as other
use Rattle.py_tokens.specs.declared.token.TokenKind.TheVariants as k
use Rattle.py_tokens.specs.Characters.{byte_of}
use Rattle.py_tokens.specs.Classes.{base_of, next_is, run_len, run, after}
use Rattle.py_tokens.specs.Numbers.{ten, suffixed, prefixed, after_point, exponent, after_exponent, float, whole, unprefixed, number_at}
use Rattle.front_laws.specs.Spells.{Is, Each, value, BaseLetter, Whole, zero_digit, decimal, octal, in_base, Exponent, plain, signed, Pointed, behind, before, Float, pointed, raised, power}
use Rattle.front_laws.specs.Spells as s
use Rattle.front_laws.proofs.Runs.{after_more, after_none, after_stops, run_more, run_each, run_splits, each_run}
use Rattle.front_laws.proofs.Reading.{starts_number, Spelled, read_cases}
use Rattle.front_laws.proofs.NumberBytes.{contrary, point_no_digit, after_digits, digit_no_base}
use Rattle.front_laws.proofs.NumberReading.{number_cases, number_unprefixed, more_of, split, float_after}

-- ---- how it begins

-- digits, or a point and a digit
pub data Start : List Character → Type 0 where
  digits : (d : Character) (ds rest : List Character) → Each ten (d ∷ ds) → next_is ten rest ≡ false →
      Start ((d ∷ ds) ++ rest)
  point : (p f : Character) (cs : List Character) → p.byte ≡ 46 → Is ten f → Start (p ∷ f ∷ cs)

start_point : (p : Character) (cs : List Character) → Is (Byte 46) p → next_is ten cs ≡ true → Start (p ∷ cs)
start_point p [] e h = absurd (contrary h refl)
start_point p (f ∷ cs) e h = point p f cs (eqb-true p.byte 46 e) h

start_digit : (d : Character) (cs : List Character) → Is ten d → Start (d ∷ cs)
start_digit d cs h =
    subst Start (ap (λ xs. d ∷ xs) (run_splits ten cs))
    (digits d (run ten cs) (after ten cs) (h, each_run ten cs) (after_stops ten cs))

pub started : (cs : List Character) → starts_number cs ≡ true → Start cs
started [] e = absurd (contrary e refl)
started (c ∷ cs) e = ⊎_elim (λ h. start_digit c cs h) (λ h. let both = and_parts _ _ h in
    start_point c cs both.0 both.1) (or_cases _ _ e)

-- ---- whole numbers

long_spelled : (fr rest all : List Character) (v : ℕ) → Whole fr v → all ≡ fr ++ rest →
    next_is (Letter 108) rest ≡ true →
    Spelled all (Ok (k.Other other.Long, drop 1 rest))
long_spelled fr [] all v w e h = absurd (contrary h refl)
long_spelled fr (l ∷ rest) all v w e h = (fr ++ l ∷ [], e ∙ sym (append_assoc fr (l ∷ []) rest), s.long l w h)

suffixed_spelled : (line : ℕ) (base : Base) (ds fr rest all : List Character) → Whole fr (value base ds) →
    all ≡ fr ++ rest →
    Spelled all (suffixed line base ds rest)
suffixed_spelled line base ds fr rest all w e =
    let v = digits_value (base_of base) (map byte_of ds) in
    read_cases (Spelled all) (next_is (Letter 108) rest) _ _ (λ h. long_spelled fr rest all v w e h)
    (λ h. read_cases (Spelled all) (nat_lt v 9223372036854775808) _ _
    (λ f. (fr, e, s.int w (ltb-true v 9223372036854775808 f)))
    (λ f. record {
      front = fr;
      rest = rest;
      splits = e;
      number = v;
      whole = w;
      wide =
          ltb-false v 9223372036854775808 f;
    }))

pub some_run : (base : Base) (cs : List Character) → next_is (Digit base) cs ≡ true →
    (d : Character) × (ds : List Character) × (run (Digit base) cs ≡ d ∷ ds)
some_run base [] h = absurd (contrary h refl)
some_run base (d ∷ cs) h = (d, run (Digit base) cs, run_more (Digit base) d cs h)

pub base_whole : (base : Base) (letter : ℕ) (c x : Character) (ds : List Character) → BaseLetter base letter →
    c.byte ≡ 48 → Is (Letter letter) x →
    Each (Digit base) ds → (d : Character) (es : List Character) → ds ≡ d ∷ es → Whole (c ∷ x ∷ ds) (value base ds)
base_whole base letter c x ds l e h each d es same =
    subst (λ xs. Whole (c ∷ x ∷ xs) (value base xs)) (sym same)
    (in_base base letter l c x d es e h (subst (Each (Digit base)) same each))

prefixed_spelled : (line : ℕ) (base : Base) (letter : ℕ) (c : Character) (cs : List Character) → BaseLetter base letter
    → c.byte ≡ 48 →
    next_is (Letter letter) cs ≡ true → Spelled (c ∷ cs) (prefixed line base (drop 1 cs))
prefixed_spelled line base letter c [] l e h = absurd (contrary h refl)
prefixed_spelled line base letter c (x ∷ cs) l e h =
    read_cases (Spelled (c ∷ x ∷ cs)) (next_is (Digit base) cs) _ _
    (λ f. let ds = run (Digit base) cs in let r = some_run base cs f in
    suffixed_spelled line base ds (c ∷ x ∷ ds) (after (Digit base) cs) (c ∷ x ∷ cs)
    (base_whole base letter c x ds l e h (each_run (Digit base) cs) r.0 r.1 r.2)
    (ap (λ xs. c ∷ x ∷ xs) (sym (run_splits (Digit base) cs))))
    (λ f. tt)

pub each_octal : (ds : List Character) → run_len (Digit Eight) ds ≡ length ds → Each (Digit Eight) ds
each_octal ds e = subst (Each (Digit Eight)) (ap (λ n. take n ds) e ∙ take_all (length ds) ds (omega arith))
    (each_run (Digit Eight) ds)

zero_first : (base : Base) (c : Character) (cs : List Character) → c.byte ≡ 48 → value base (c ∷ cs) ≡ value base cs
zero_first base c cs e =
    let none : digit_value c.byte ≡ 0 = ap digit_value e in
    let at : 0 * base_of base + digit_value c.byte ≡ 0 = omega arith in
    ap (λ n. digits_value_after (base_of base) n (map byte_of cs)) at

pub octal_whole : (d : Character) (ds : List Character) → d.byte ≡ 48 → 1 < length (d ∷ ds) →
    Each (Digit Eight) (d ∷ ds) →
    Whole (d ∷ ds) (value Eight (d ∷ ds))
octal_whole d [] e more each = absurd (omega arith)
octal_whole d (f ∷ ds) e more each = subst (Whole (d ∷ f ∷ ds)) (sym (zero_first Eight d (f ∷ ds) e))
    (octal d f ds e each.1)

one_digit : (d : Character) (ds : List Character) → d.byte ≡ 48 → length (d ∷ ds) ≤ 1 →
    Whole (d ∷ ds) (value Ten (d ∷ ds))
one_digit d [] e few = subst (Whole (d ∷ [])) (sym (zero_first Ten d [] e)) (zero_digit d e)
one_digit d (f ∷ ds) e few = absurd (omega arith)

-- unless a zero begins more digits
pub ten_whole : (d : Character) (ds : List Character) → Each ten (d ∷ ds) →
    (d.byte == 48 && nat_lt 1 (length (d ∷ ds))) ≡ false →
    Whole (d ∷ ds) (value Ten (d ∷ ds))
ten_whole d ds each h = ⊎_elim
    (λ e. one_digit d ds e (⊎_elim (λ f. absurd (eqb-false d.byte 48 f e)) (λ f. ltb-false 1 (length (d ∷ ds)) f)
    (and_cases _ _ h)))
    (λ other. decimal d ds other each)
    (cases_eq d.byte 48)

whole_spelled : (line : ℕ) (d : Character) (ds rest : List Character) → Each ten (d ∷ ds) →
    Spelled ((d ∷ ds) ++ rest) (whole line (d ∷ ds) rest)
whole_spelled line d ds rest each =
    let front = d ∷ ds in
    let all = front ++ rest in
    read_cases (Spelled all) (length front == 0) _ _ (λ e. tt)
    (λ e. read_cases (Spelled all) (d.byte == 48 && nat_lt 1 (length front)) _ _
    (λ f. read_cases (Spelled all) (run_len (Digit Eight) front == length front) _ _
    (λ g. let both = and_parts _ _ f in
    suffixed_spelled line Eight front front rest all
    (octal_whole d ds (eqb-true d.byte 48 both.0) (ltb-true 1 (length front) both.1)
    (each_octal front (eqb-true (run_len (Digit Eight) front) (length front) g))) refl)
    (λ g. tt))
    (λ f. suffixed_spelled line Ten front front rest all (ten_whole d ds each f) refl))

-- ---- floats

rest_spelled : (fr more all : List Character) (b : Bool) → next_is (Letter 106) more ≡ b → Float fr → all ≡ fr ++ more →
    Spelled all (Ok (k.Other other.Float, if b then drop 1 more else more))
rest_spelled fr [] all true h f e = absurd (contrary h refl)
rest_spelled fr (j ∷ more) all true h f e = (fr ++ j ∷ [], e ∙ sym (append_assoc fr (j ∷ []) more), s.imaginary j f h)
rest_spelled fr more all false h f e = (fr, e, s.float f)

float_spelled : (fr more all : List Character) → Float fr → all ≡ fr ++ more → Spelled all (float more)
float_spelled fr more all f e = rest_spelled fr more all (next_is (Letter 106) more) refl f e

-- an exponent was taken, or nothing
abbrev ExponentTaken : List Character → List Character → Type 0
ExponentTaken cs left = (left ≡ cs) ⊎ ((es : List Character) × Exponent es × (cs ≡ es ++ left))

taken_cases : (cs xs ys : List Character) (b : Bool) → (b ≡ true → ExponentTaken cs xs) →
    (b ≡ false → ExponentTaken cs ys) →
    ExponentTaken cs (if b then xs else ys)
taken_cases cs xs ys true f g = f refl
taken_cases cs xs ys false f g = g refl

plain_taken : (e : Character) (cs : List Character) → Is (Letter 101) e → next_is ten cs ≡ true →
    ExponentTaken (e ∷ cs) (after ten cs)
plain_taken e [] l h = absurd (contrary h refl)
plain_taken e (d ∷ cs) l h =
    inr (
      e ∷ d ∷ run ten cs,
      plain e d (run ten cs) l (h, each_run ten cs),
      ap (λ xs. e ∷ d ∷ xs) (sym (run_splits ten cs) ∙ ap (λ xs. run ten cs ++ xs) (sym (after_more ten d cs h))),
    )

signed_taken : (e : Character) (cs : List Character) → Is (Letter 101) e → next_is Sign cs ≡ true →
    next_is ten (drop 1 cs) ≡ true →
    ExponentTaken (e ∷ cs) (after ten (drop 1 cs))
signed_taken e [] l sign h = absurd (contrary h refl)
signed_taken e (c ∷ []) l sign h = absurd (contrary h refl)
signed_taken e (c ∷ d ∷ cs) l sign h =
    inr (
      e ∷ c ∷ d ∷ run ten cs,
      signed e c d (run ten cs) l sign (h, each_run ten cs),
      ap (λ xs. e ∷ c ∷ d ∷ xs) (sym (run_splits ten cs) ∙ ap (λ xs. run ten cs ++ xs) (sym (after_more ten d cs h))),
    )

letter_taken : (cs : List Character) → next_is (Letter 101) cs ≡ true → ExponentTaken cs (exponent cs (drop 1 cs))
letter_taken [] l = absurd (contrary l refl)
letter_taken (e ∷ cs) l =
    taken_cases (e ∷ cs) _ _ (next_is ten cs) (λ h. plain_taken e cs l h)
    (λ h. taken_cases (e ∷ cs) _ _ (next_is Sign cs && next_is ten (drop 1 cs))
    (λ g. let both = and_parts _ _ g in signed_taken e cs l both.0 both.1) (λ g. inl refl))

exponent_taken : (cs : List Character) → ExponentTaken cs (after_exponent cs)
exponent_taken cs = taken_cases cs _ _ (next_is (Letter 101) cs) (λ l. letter_taken cs l) (λ l. inl refl)

-- after digits and a point
pointed_spelled : (fr rest all : List Character) → Pointed fr → all ≡ fr ++ rest →
    Spelled all (float (after_exponent rest))
pointed_spelled fr rest all p e =
    let left = after_exponent rest in
    ⊎_elim
    (λ same. float_spelled fr left all (pointed p) (e ∙ ap (λ xs. fr ++ xs) (sym same)))
    (λ t. float_spelled (fr ++ t.0) left all (raised p t.1)
    (e ∙ ap (λ xs. fr ++ xs) t.2 ∙ sym (append_assoc fr t.0 left)))
    (exponent_taken rest)

power_spelled : (d : Character) (ds rest : List Character) → Each ten (d ∷ ds) →
    length (after_exponent rest) < length rest →
    Spelled ((d ∷ ds) ++ rest) (float (after_exponent rest))
power_spelled d ds rest each less =
    let fr = d ∷ ds in
    let left = after_exponent rest in
    ⊎_elim
    (λ same. let n : length left ≡ length rest = ap length same in absurd (omega arith))
    (λ t. float_spelled (fr ++ t.0) left (fr ++ rest) (power d ds each t.1)
    (ap (λ xs. fr ++ xs) t.2 ∙ sym (append_assoc fr t.0 left)))
    (exponent_taken rest)

-- what follows the digits begins with a point, or not
more_spelled : (d : Character) (ds rest : List Character) (b : Bool) → next_is (Byte 46) rest ≡ b → Each ten (d ∷ ds) →
    length (after_exponent (if b then after ten (drop 1 rest) else rest)) < length rest →
    Spelled ((d ∷ ds) ++ rest) (float (after_exponent (if b then after ten (drop 1 rest) else rest)))
more_spelled d ds [] true e each less = absurd (contrary e refl)
more_spelled d ds (p ∷ rest) true e each less =
    let fs = run ten rest in
    pointed_spelled ((d ∷ ds) ++ (p ∷ fs)) (after ten rest) ((d ∷ ds) ++ (p ∷ rest))
    (before d ds p fs each (eqb-true p.byte 46 e) (each_run ten rest))
    (ap (λ xs. (d ∷ ds) ++ (p ∷ xs)) (sym (run_splits ten rest)) ∙
    sym (append_assoc (d ∷ ds) (p ∷ fs) (after ten rest)))
more_spelled d ds rest false e each less = power_spelled d ds rest each less

imaginary_spelled : (d : Character) (ds rest : List Character) → Each ten (d ∷ ds) → next_is (Letter 106) rest ≡ true →
    Spelled ((d ∷ ds) ++ rest) (float rest)
imaginary_spelled d ds [] each h = absurd (contrary h refl)
imaginary_spelled d ds (j ∷ rest) each h =
    let all = (d ∷ ds) ++ (j ∷ rest) in
    subst (λ b. Spelled all (Ok (k.Other other.Float, if b then rest else j ∷ rest))) (sym h)
    ((d ∷ ds) ++ j ∷ [], sym (append_assoc (d ∷ ds) (j ∷ []) rest), s.imaginary_whole d ds j each h)

split_spelled : (line : ℕ) (d : Character) (ds rest : List Character) → Each ten (d ∷ ds) →
    Spelled ((d ∷ ds) ++ rest) (split line (d ∷ ds) rest)
split_spelled line d ds rest each =
    let all = (d ∷ ds) ++ rest in
    read_cases (Spelled all) (nat_lt (length (more_of rest)) (length rest)) _ _
    (λ e. more_spelled d ds rest (next_is (Byte 46) rest) refl each (ltb-true (length (more_of rest)) (length rest) e))
    (λ e. read_cases (Spelled all) (next_is (Letter 106) rest) _ _ (λ f. imaginary_spelled d ds rest each f)
    (λ f. whole_spelled line d ds rest each))

-- ---- numbers

-- after digits without a prefix
pub digits_split : (line : ℕ) (d : Character) (ds rest : List Character) → Each ten (d ∷ ds) → next_is ten rest ≡ false
    →
    unprefixed line ((d ∷ ds) ++ rest) ≡ split line (d ∷ ds) rest
digits_split line d ds rest each stop =
    let all = (d ∷ ds) ++ rest in
    ap (split line (run ten all)) (after_digits Ten (d ∷ ds) rest each stop) ∙
    ap (λ xs. split line xs rest) (run_each ten (d ∷ ds) rest each stop)

-- from a point
pub point_float : (line : ℕ) (p f : Character) (cs : List Character) → p.byte ≡ 46 → Is ten f →
    number_at line (p ∷ f ∷ cs) ≡ float (more_of (after ten (p ∷ f ∷ cs)))
point_float line p f cs e h =
    let all = p ∷ f ∷ cs in
    let rest = after ten all in
    let less : length (more_of rest) < length rest =
    (float_after (p ∷ f ∷ []) cs (pointed (behind p f [] e (h, tt)))).1 in
    number_unprefixed line all (digit_no_base f cs h)
    ∙ ap (λ b. if b then float (more_of rest) else
    (if next_is (Letter 106) rest then float rest else whole line (run ten all) rest))
    (lt-ltb (length (more_of rest)) (length rest) less)

point_spelled : (p f : Character) (cs : List Character) → p.byte ≡ 46 → Is ten f →
    Spelled (p ∷ f ∷ cs) (float (more_of (after ten (p ∷ f ∷ cs))))
point_spelled p f cs e h =
    let all = p ∷ f ∷ cs in
    let fs = run ten cs in
    let point : after_point all ≡ after ten cs = ap (λ b. if b then after ten (f ∷ cs) else all) (eq-eqb p.byte 46 e) ∙
    after_more ten f cs h in
    let same : after ten cs ≡ after_point (after ten all) =
    sym (ap after_point (after_none ten all (point_no_digit p e)) ∙ point) in
    subst (λ xs. Spelled all (float (after_exponent xs))) same
    (pointed_spelled (p ∷ f ∷ fs) (after ten cs) all (behind p f fs e (h, each_run ten cs))
    (ap (λ xs. p ∷ f ∷ xs) (sym (run_splits ten cs))))

start_spelled : (line : ℕ) (cs : List Character) → Start cs → Spelled cs (number_at line cs)
start_spelled line cs (digits d ds rest each stop) =
    let all = (d ∷ ds) ++ rest in
    number_cases (Spelled all) line all (λ base letter l z h.
    prefixed_spelled line base letter d (ds ++ rest) l (eqb-true d.byte 48 z) h)
    (subst (Spelled all) (sym (digits_split line d ds rest each stop)) (split_spelled line d ds rest each))
start_spelled line cs (point p f rest e h) = subst (Spelled (p ∷ f ∷ rest)) (sym (point_float line p f rest e h))
    (point_spelled p f rest e h)

pub number_spelled : (line : ℕ) (cs : List Character) → starts_number cs ≡ true → Spelled cs (number_at line cs)
number_spelled line cs e = start_spelled line cs (started cs e)
