-- Whatever front is spelled as a number, the reading takes at least as much.
use Rattle.std.proofs.Common.{◌≡◌, ◌≢◌, ◌⊎◌, inl, inr, ℕ, ◌<◌, ◌≤◌, true, ◌==◌, nat_lt, ◌&&◌, if◌then◌else◌, List, [], ◌∷◌, ◌++◌, length, map, drop, refl, sym, ap, ◌∙◌, subst, append_assoc, eq-eqb, ne_eqb, lt-ltb, ltb-true, arith}
use Rattle.std.proofs.lemmas.Bool.{or_left, or_right, and_from}
use Rattle.std.specs.Str.Parse.{digits_value}
use Rattle.py_tokens.specs.declared.character.Character.{Character}
use Rattle.py_tokens.specs.declared.class.Base.{Base}
use Rattle.py_tokens.specs.declared.class.Base.TheVariants.{Eight, Ten}
use Rattle.py_tokens.specs.declared.class.Class.TheVariants.{Byte, Letter, Digit}
use Rattle.py_tokens.specs.Characters.{byte_of}
use Rattle.py_tokens.specs.Classes.{base_of, next_is, run_len, run, after}
use Rattle.py_tokens.specs.Numbers.{ten, suffixed, prefixed, exponent, after_exponent, float, whole, unprefixed, number_at}
use Rattle.front_laws.specs.Spells.{Is, Each, Whole, zero_digit, decimal, octal, in_base, Pointed, behind, before, Float, pointed, raised, power}
use Rattle.front_laws.proofs.Runs.{after_each, after_more, after_none, after_shorter}
use Rattle.front_laws.proofs.Reading.{starts_number, Within, Found, read_cases}
use Rattle.front_laws.proofs.NumberBytes.{contrary, digits_decimal, zero_is_digit, imaginary_no_digit, imaginary_no_exponent, long_no_digit, after_digits, NoBase, digit_no_base, letter_no_base, digits_no_base}
use Rattle.front_laws.proofs.NumberReading.{number_cases, number_unprefixed, number_prefixed, more_of, float_rest, split, unprefixed_split, drop_shorter, exponent_shorter, more_shorter, float_rest_shorter, float_after, float_unprefixed}

-- ---- no more than so many characters are left

suffixed_within : (n line : ℕ) (base : Base) (digits rest : List Character) → length rest ≤ n →
    Within n (suffixed line base digits rest)
suffixed_within n line base digits rest h =
    let one = drop_shorter 1 rest in
    read_cases (Within n) (next_is (Letter 108) rest) _ _ (λ e. omega arith)
    (λ e. read_cases (Within n) (nat_lt (digits_value (base_of base) (map byte_of digits)) 9223372036854775808) _ _
    (λ f. h) (λ f. tt))

suffixed_long : (n line : ℕ) (base : Base) (digits rest : List Character) (l : Character) → Is (Letter 108) l →
    length rest ≤ n →
    Within n (suffixed line base digits (l ∷ rest))
suffixed_long n line base digits rest l e h = read_cases (Within n) (next_is (Letter 108) (l ∷ rest)) _ _ (λ f. h)
    (λ f. absurd (contrary e f))

prefixed_within : (n line : ℕ) (base : Base) (cs rest : List Character) → after (Digit base) cs ≡ rest →
    length rest ≤ n →
    Within n (prefixed line base cs)
prefixed_within n line base cs rest e h =
    read_cases (Within n) (next_is (Digit base) cs) _ _
    (λ f. subst (λ xs. Within n (suffixed line base (run (Digit base) cs) xs)) (sym e)
    (suffixed_within n line base (run (Digit base) cs) rest h))
    (λ f. tt)

prefixed_long : (n line : ℕ) (base : Base) (cs rest : List Character) (l : Character) →
    after (Digit base) cs ≡ l ∷ rest → Is (Letter 108) l →
    length rest ≤ n → Within n (prefixed line base cs)
prefixed_long n line base cs rest l e g h =
    read_cases (Within n) (next_is (Digit base) cs) _ _
    (λ f. subst (λ xs. Within n (suffixed line base (run (Digit base) cs) xs)) (sym e)
    (suffixed_long n line base (run (Digit base) cs) rest l g h))
    (λ f. tt)

whole_cases : (n line : ℕ) (digits rest : List Character) → ((base : Base) → Within n (suffixed line base digits rest))
    →
    Within n (whole line digits rest)
whole_cases n line digits rest h =
    read_cases (Within n) (length digits == 0) _ _ (λ e. tt)
    (λ e. read_cases (Within n) (next_is (Byte 48) digits && nat_lt 1 (length digits)) _ _
    (λ f. read_cases (Within n) (run_len (Digit Eight) digits == length digits) _ _ (λ g. h Eight) (λ g. tt))
    (λ f. h Ten))

split_within : (n line : ℕ) (digits rest : List Character) → length rest ≤ n → Within n (split line digits rest)
split_within n line digits rest h =
    let a = more_shorter rest in
    let b = float_rest_shorter (more_of rest) in
    let c = float_rest_shorter rest in
    read_cases (Within n) (nat_lt (length (more_of rest)) (length rest)) _ _ (λ e. omega arith)
    (λ e. read_cases (Within n) (next_is (Letter 106) rest) _ _ (λ f. omega arith)
    (λ f. whole_cases n line digits rest (λ base. suffixed_within n line base digits rest h)))

split_long : (n line : ℕ) (digits rest : List Character) (l : Character) → Is (Letter 108) l → length rest ≤ n →
    Within n (split line digits (l ∷ rest))
split_long n line digits rest l g h =
    let all = l ∷ rest in
    let b = float_rest_shorter (more_of all) in
    read_cases (Within n) (nat_lt (length (more_of all)) (length all)) _ _
    (λ e. let less = ltb-true (length (more_of all))
    (length all) e in omega arith)
    (λ e. read_cases (Within n) (next_is (Letter 106) all) _ _
    (λ f. subst (λ b. length (if b then rest else all) ≤ n) (sym f) h)
    (λ f. whole_cases n line digits all (λ base. suffixed_long n line base digits rest l g h)))

digits_within : (n line : ℕ) (cs rest : List Character) → after ten cs ≡ rest → length rest ≤ n →
    Within n (unprefixed line cs)
digits_within n line cs rest e h = subst (Within n) (sym (unprefixed_split line cs rest e))
    (split_within n line (run ten cs) rest h)

digits_long : (n line : ℕ) (cs rest : List Character) (l : Character) → after ten cs ≡ l ∷ rest → Is (Letter 108) l →
    length rest ≤ n →
    Within n (unprefixed line cs)
digits_long n line cs rest l e g h = subst (Within n) (sym (unprefixed_split line cs (l ∷ rest) e))
    (split_long n line (run ten cs) rest l g h)

-- ---- whole numbers

zero_octal : (c d : Character) (cs : List Character) → c.byte ≡ 48 → Each (Digit Eight) (d ∷ cs) → Each ten (c ∷ d ∷ cs)
zero_octal c d cs e h = (zero_is_digit c e, digits_decimal Eight (d ∷ cs) (omega arith) h)

-- a number that doesn't begin with 0 has no prefix
number_plain : (n line : ℕ) (c : Character) (cs : List Character) → c.byte ≢ 48 → Within n (unprefixed line (c ∷ cs)) →
    Within n (number_at line (c ∷ cs))
number_plain n line c cs other h = number_cases (Within n) line (c ∷ cs)
    (λ base letter l z e. absurd (contrary z (ne_eqb c.byte 48 other))) h

pub whole_within : (line n : ℕ) (cs rest : List Character) → Whole cs n →
    Within (length rest) (number_at line (cs ++ rest))
whole_within line n cs rest (zero_digit c e) =
    let m = length rest in
    number_cases (Within m) line (c ∷ rest)
    (λ base letter l z f. let a = after_shorter (Digit base) (drop 1 rest) in let b = drop_shorter 1 rest in
    prefixed_within m line base (drop 1 rest) _ refl (omega arith))
    (digits_within m line (c ∷ rest) (after ten rest) (after_more ten c rest (zero_is_digit c e))
    (after_shorter ten rest))
whole_within line n cs rest (decimal c ds other h) =
    number_plain (length rest) line c (ds ++ rest) other
    (digits_within (length rest) line (c ∷ (ds ++ rest)) (after ten rest) (after_each ten (c ∷ ds) rest h)
    (after_shorter ten rest))
whole_within line n cs rest (octal c d ds e h) =
    let m = length rest in
    let all = c ∷ d ∷ (ds ++ rest) in
    let g = zero_octal c d ds e h in
    subst (Within m) (sym (number_unprefixed line all (digit_no_base d (ds ++ rest) g.1.0)))
    (digits_within m line all (after ten rest) (after_each ten (c ∷ d ∷ ds) rest g) (after_shorter ten rest))
whole_within line n cs rest (in_base base letter l c x d ds e f h) =
    let m = length rest in
    subst (Within m) (sym (number_prefixed line base letter c x (d ∷ (ds ++ rest)) l e f))
    (prefixed_within m line base (d ∷ (ds ++ rest)) (after (Digit base) rest) (after_each (Digit base) (d ∷ ds) rest h)
    (after_shorter (Digit base) rest))

long_no_base : (l : Character) (rest : List Character) → Is (Letter 108) l → NoBase (l ∷ rest)
long_no_base l rest g = letter_no_base 108 l rest (omega arith) (omega arith) g

long_at : (line n : ℕ) (l : Character) (cs rest : List Character) → Whole cs n → Is (Letter 108) l →
    Within (length rest) (number_at line (cs ++ l ∷ rest))
long_at line n l cs rest (zero_digit c e) g =
    let m = length rest in
    let all = c ∷ l ∷ rest in
    subst (Within m) (sym (number_unprefixed line all (long_no_base l rest g)))
    (digits_long m line all rest l (after_digits Ten (c ∷ []) (l ∷ rest) (zero_is_digit c e, tt)
    (long_no_digit Ten l g)) g (omega arith))
long_at line n l cs rest (decimal c ds other h) g =
    let m = length rest in
    number_plain m line c (ds ++ l ∷ rest) other
    (digits_long m line (c ∷ (ds ++ l ∷ rest)) rest l (after_digits Ten (c ∷ ds) (l ∷ rest) h (long_no_digit Ten l g))
    g (omega arith))
long_at line n l cs rest (octal c d ds e h) g =
    let m = length rest in
    let all = c ∷ d ∷ (ds ++ l ∷ rest) in
    let k = zero_octal c d ds e h in
    subst (Within m) (sym (number_unprefixed line all (digit_no_base d (ds ++ l ∷ rest) k.1.0)))
    (digits_long m line all rest l (after_digits Ten (c ∷ d ∷ ds) (l ∷ rest) k (long_no_digit Ten l g)) g (omega arith))
long_at line n l cs rest (in_base base letter b c x d ds e f h) g =
    let m = length rest in
    subst (Within m) (sym (number_prefixed line base letter c x (d ∷ (ds ++ l ∷ rest)) b e f))
    (prefixed_long m line base (d ∷ (ds ++ l ∷ rest)) rest l
    (after_digits base (d ∷ ds) (l ∷ rest) h (long_no_digit base l g)) g (omega arith))

pub long_within : (line n : ℕ) (l : Character) (cs rest : List Character) → Whole cs n → Is (Letter 108) l →
    Within (length rest) (number_at line ((cs ++ l ∷ []) ++ rest))
long_within line n l cs rest w g =
    subst (λ xs. Within (length rest) (number_at line xs)) (sym (append_assoc cs (l ∷ []) rest))
    (long_at line n l cs rest w g)

-- ---- floats

-- what follows the digits was taken, in part
split_found : (n line : ℕ) (digits rest : List Character) → length (more_of rest) < length rest →
    length (float_rest (more_of rest)) ≤ n →
    Found n (split line digits rest)
split_found n line digits rest less h =
    subst (λ b. Found n (if b then float (more_of rest) else
    (if next_is (Letter 106) rest then float rest else whole line digits rest)))
    (sym (lt-ltb (length (more_of rest)) (length rest) less)) h

imaginary_rest : (j : Character) (rest : List Character) → Is (Letter 106) j → float_rest (j ∷ rest) ≡ rest
imaginary_rest j rest g = ap (λ b. if b then rest else j ∷ rest) g

-- what is left after a float is no longer than what follows it
left_within : (rest xs : List Character) → (xs ≡ after ten rest) ⊎ (xs ≡ after_exponent (after ten rest)) →
    length xs ≤ length rest
left_within rest xs (inl e) = let a = after_shorter ten rest in subst (λ ys. length ys ≤ length rest) (sym e) a
left_within rest xs (inr e) =
    let a = after_shorter ten rest in let b = exponent_shorter (after ten rest) in
    subst (λ ys. length ys ≤ length rest) (sym e) (omega arith)

after_imaginary : (j : Character) (rest xs : List Character) → Is (Letter 106) j →
    (xs ≡ after ten (j ∷ rest)) ⊎ (xs ≡ after_exponent (after ten (j ∷ rest))) →
    xs ≡ j ∷ rest
after_imaginary j rest xs g (inl e) = e ∙ after_none ten (j ∷ rest) (imaginary_no_digit j g)
after_imaginary j rest xs g (inr e) =
    e ∙ ap after_exponent (after_none ten (j ∷ rest) (imaginary_no_digit j g))
    ∙ ap (λ b. if b then exponent (j ∷ rest) rest else j ∷ rest) (imaginary_no_exponent j g)

pub float_found : (line : ℕ) (cs rest : List Character) → Float cs → Found (length rest) (number_at line (cs ++ rest))
float_found line cs rest f =
    let all = cs ++ rest in
    let q = float_after cs rest f in
    let a = left_within rest (more_of (after ten all)) q.0 in
    let b = float_rest_shorter (more_of (after ten all)) in
    subst (Found (length rest)) (sym (float_unprefixed line cs rest f))
    (split_found (length rest) line (run ten all) (after ten all) q.1 (omega arith))

pub imaginary_found : (line : ℕ) (j : Character) (cs rest : List Character) → Float cs → Is (Letter 106) j →
    Found (length rest) (number_at line ((cs ++ j ∷ []) ++ rest))
imaginary_found line j cs rest f g =
    let m = length rest in
    let all = cs ++ j ∷ rest in
    let q = float_after cs (j ∷ rest) f in
    let left : float_rest (more_of (after ten all)) ≡ rest =
    ap float_rest (after_imaginary j rest (more_of (after ten all)) g q.0)
    ∙ imaginary_rest j rest g in
    let a : length (float_rest (more_of (after ten all))) ≡ length rest = ap length left in
    let found : Found m (number_at line all) =
    subst (Found m) (sym (float_unprefixed line cs (j ∷ rest) f))
    (split_found m line (run ten all) (after ten all) q.1 (omega arith)) in
    subst (λ xs. Found m (number_at line xs)) (sym (append_assoc cs (j ∷ []) rest)) found

split_imaginary : (line : ℕ) (digits rest : List Character) (j : Character) → Is (Letter 106) j →
    Found (length rest) (split line digits (j ∷ rest))
split_imaginary line digits rest j g =
    let n = length rest in
    let all = j ∷ rest in
    let b = float_rest_shorter (more_of all) in
    read_cases (Found n) (nat_lt (length (more_of all)) (length all)) _ _
    (λ e. let less = ltb-true (length (more_of all))
    (length all) e in omega arith)
    (λ e. read_cases (Found n) (next_is (Letter 106) all) _ _
    (λ f. let same : length (float_rest all) ≡ length rest = ap length (imaginary_rest j rest g) in omega arith)
    (λ f. absurd (contrary g f)))

pub imaginary_whole_found : (line : ℕ) (d : Character) (ds : List Character) (j : Character) (rest : List Character) →
    Each (Digit Ten) (d ∷ ds) →
    Is (Letter 106) j → Found (length rest) (number_at line (((d ∷ ds) ++ j ∷ []) ++ rest))
imaginary_whole_found line d ds j rest h g =
    let m = length rest in
    let all = (d ∷ ds) ++ j ∷ rest in
    let stop = after_digits Ten (d ∷ ds) (j ∷ rest) h (imaginary_no_digit j g) in
    let free = digits_no_base ds (j ∷ rest) h.1 (letter_no_base 106 j rest (omega arith) (omega arith) g) in
    let found : Found m (unprefixed line all) =
    subst (Found m) (sym (unprefixed_split line all (j ∷ rest) stop)) (split_imaginary line (run ten all) rest j g) in
    subst (λ xs. Found m (number_at line xs)) (sym (append_assoc (d ∷ ds) (j ∷ []) rest))
    (subst (Found m) (sym (number_unprefixed line all free)) found)

-- ---- the first characters

digit_starts : (c : Character) (cs : List Character) → Is ten c → starts_number (c ∷ cs) ≡ true
digit_starts c cs h = or_left _ _ h

pub whole_starts : (n : ℕ) (cs rest : List Character) → Whole cs n → starts_number (cs ++ rest) ≡ true
whole_starts n cs rest (zero_digit c e) = digit_starts c rest (zero_is_digit c e)
whole_starts n cs rest (decimal c ds other h) = digit_starts c (ds ++ rest) h.0
whole_starts n cs rest (octal c d ds e h) = digit_starts c (d ∷ (ds ++ rest)) (zero_is_digit c e)
whole_starts n cs rest (in_base base letter l c x d ds e f h) =
    digit_starts c (x ∷ d ∷ (ds ++ rest)) (zero_is_digit c e)

pointed_starts : (cs rest : List Character) → Pointed cs → starts_number (cs ++ rest) ≡ true
pointed_starts cs rest (behind p f fs e h) = or_right _ _ (and_from _ _ (eq-eqb p.byte 46 e) h.0)
pointed_starts cs rest (before d ds p fs h e g) = digit_starts d ((ds ++ (p ∷ fs)) ++ rest) h.0

pub float_starts : (cs rest : List Character) → Float cs → starts_number (cs ++ rest) ≡ true
float_starts cs rest (pointed p) = pointed_starts cs rest p
float_starts cs rest (raised {cs = xs} {es = es} p x) =
    subst (λ ys. starts_number ys ≡ true) (sym (append_assoc xs es rest)) (pointed_starts xs (es ++ rest) p)
float_starts cs rest (power d ds {es = es} h x) = digit_starts d ((ds ++ es) ++ rest) h.0
