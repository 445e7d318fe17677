-- The characters of a whole number have one value; and what tells whole numbers, those with `l` and floats apart.
use Rattle.std.proofs.Common.{◌≡◌, ℕ, Bool, true, false, ◌||◌, if◌then◌else◌, List, [], ◌∷◌, ◌++◌, refl, sym, ap, ◌∙◌, append_assoc, arith}
use Rattle.std.proofs.lemmas.Bool.{or_from, or_left, or_right, false_from_ne_true}
use Rattle.std.proofs.lemmas.List.{append-nil}
use Rattle.py_tokens.specs.declared.character.Character.{Character}
use Rattle.py_tokens.specs.declared.class.Base.{Base}
use Rattle.py_tokens.specs.declared.class.Base.TheVariants.{Two, Eight, Ten, Sixteen}
use Rattle.py_tokens.specs.declared.class.Class.TheVariants.{Byte, Letter, Digit}
use Rattle.py_tokens.specs.Classes.{holds, in_class, next_is, after}
use Rattle.py_tokens.specs.Numbers.{ten}
use Rattle.front_laws.specs.Spells.{Is, Each, value, BaseLetter, two, eight, sixteen, Whole, zero_digit, decimal, octal, in_base, Exponent, plain, signed, Pointed, behind, before, Float, pointed, raised, power}
use Rattle.front_laws.proofs.NumberBytes.{contrary, by_letter, digits_decimal, zero_is_digit, point_no_digit, exponent_no_digit, imaginary_no_digit, long_no_digit, after_digits}

-- ---- a base's letter

-- the base that the letter of a prefix tells
pub base_by : ℕ → Base
base_by b = if holds (Letter 98) b then Two else (if holds (Letter 111) b then Eight else Sixteen)

pub base_known : (base : Base) (letter : ℕ) (x : Character) → BaseLetter base letter → Is (Letter letter) x →
    base_by x.byte ≡ base
unfolding base_by
base_known base letter x two h = by_letter (λ b. base_by b ≡ Two) 66 x h refl refl
base_known base letter x eight h = by_letter (λ b. base_by b ≡ Eight) 79 x h refl refl
base_known base letter x sixteen h = by_letter (λ b. base_by b ≡ Sixteen) 88 x h refl refl

base_no_digit : (base : Base) (letter : ℕ) (x : Character) → BaseLetter base letter → Is (Letter letter) x →
    in_class ten x ≡ false
base_no_digit base letter x two h = by_letter (λ b. holds ten b ≡ false) 66 x h refl refl
base_no_digit base letter x eight h = by_letter (λ b. holds ten b ≡ false) 79 x h refl refl
base_no_digit base letter x sixteen h = by_letter (λ b. holds ten b ≡ false) 88 x h refl refl

base_no_long : (base : Base) (letter : ℕ) (x : Character) → BaseLetter base letter → Is (Letter letter) x →
    in_class (Letter 108) x ≡ false
base_no_long base letter x two h = by_letter (λ b. holds (Letter 108) b ≡ false) 66 x h refl refl
base_no_long base letter x eight h = by_letter (λ b. holds (Letter 108) b ≡ false) 79 x h refl refl
base_no_long base letter x sixteen h = by_letter (λ b. holds (Letter 108) b ≡ false) 88 x h refl refl

-- ---- one value

octal_ten : (c : Character) → Is (Digit Eight) c → Is ten c
octal_ten c h = (digits_decimal Eight (c ∷ []) (omega arith) (h, tt)).0

octal_no_base : (base : Base) (letter : ℕ) (x : Character) → BaseLetter base letter → Is (Letter letter) x →
    Is (Digit Eight) x → ⊥
octal_no_base base letter x b h g = contrary (octal_ten x g) (base_no_digit base letter x b h)

pub one_value : (cs : List Character) (n m : ℕ) → Whole cs n → Whole cs m → n ≡ m
one_value cs n m (zero_digit c e) (zero_digit _ f) = refl
one_value cs n m (zero_digit c e) (decimal _ ds other h) = absurd (other e)
one_value cs n m (decimal c ds other h) (zero_digit _ e) = absurd (other e)
one_value cs n m (decimal c ds other h) (decimal _ _ more g) = refl
one_value cs n m (decimal c ds other h) (octal _ d xs e g) = absurd (other e)
one_value cs n m (decimal c ds other h) (in_base base letter b _ x d xs e f g) = absurd (other e)
one_value cs n m (octal c d ds e h) (decimal _ xs other g) = absurd (other e)
one_value cs n m (octal c d ds e h) (octal _ _ _ f g) = refl
one_value cs n m (octal c d ds e h) (in_base base letter b _ _ x xs f g i) =
    absurd (octal_no_base base letter d b g h.0)
one_value cs n m (in_base base letter b c x d ds e f h) (decimal _ xs other g) = absurd (other e)
one_value cs n m (in_base base letter b c x d ds e f h) (octal _ _ xs g i) =
    absurd (octal_no_base base letter x b f i.0)
one_value cs n m (in_base base letter b c x d ds e f h) (in_base other key k _ _ _ _ g i j) =
    ap (λ z. value z (d ∷ ds)) (sym (base_known base letter x b f) ∙ base_known other key x k i)

-- ---- floats

-- a point, an exponent's letter or `j`
abbrev continues : ℕ → Bool
continues b = holds (Byte 46) b || (holds (Letter 101) b || holds (Letter 106) b)

abbrev continued : List Character → Bool
continued [] = false
continued (c ∷ cs) = continues c.byte

-- behind its first digits it goes on as a float
pub is_float : List Character → Bool
is_float cs = continued (after ten cs)

digits_float : (ds : List Character) (c : Character) (rest : List Character) → Each ten ds → in_class ten c ≡ false →
    continues c.byte ≡ true →
    is_float (ds ++ (c ∷ rest)) ≡ true
unfolding is_float
digits_float ds c rest each stop e = ap continued (after_digits Ten ds (c ∷ rest) each stop) ∙ e

point_continues : (p : Character) → p.byte ≡ 46 → continues p.byte ≡ true
point_continues p e = ap continues e

raise_continues : (e : Character) → Is (Letter 101) e → continues e.byte ≡ true
raise_continues e h = by_letter (λ b. continues b ≡ true) 69 e h refl refl

pub imaginary_is_float : (ds : List Character) (j : Character) → Each ten ds → Is (Letter 106) j →
    is_float (ds ++ j ∷ []) ≡ true
imaginary_is_float ds j each h =
    digits_float ds j [] each (imaginary_no_digit j h) (by_letter (λ b. continues b ≡ true) 74 j h refl refl)

pointed_is : (cs rest : List Character) → Pointed cs → is_float (cs ++ rest) ≡ true
pointed_is cs rest (behind p f fs e h) = digits_float [] p (f ∷ (fs ++ rest)) tt (point_no_digit p e)
    (point_continues p e)
pointed_is cs rest (before d ds p fs h e g) =
    ap is_float (append_assoc (d ∷ ds) (p ∷ fs) rest) ∙ digits_float (d ∷ ds) p (fs ++ rest) h (point_no_digit p e)
    (point_continues p e)

power_is : (ds es rest : List Character) → Each ten ds → Exponent es → is_float (ds ++ (es ++ rest)) ≡ true
power_is ds es rest h (plain e d cs l g) = digits_float ds e (d ∷ (cs ++ rest)) h (exponent_no_digit e l)
    (raise_continues e l)
power_is ds es rest h (signed e s d cs l sign g) = digits_float ds e (s ∷ d ∷ (cs ++ rest)) h (exponent_no_digit e l)
    (raise_continues e l)

pub float_is : (cs rest : List Character) → Float cs → is_float (cs ++ rest) ≡ true
float_is cs rest (pointed p) = pointed_is cs rest p
float_is cs rest (raised {cs = xs} {es = es} p x) = ap is_float (append_assoc xs es rest) ∙ pointed_is xs (es ++ rest) p
float_is cs rest (power d ds {es = es} h x) = ap is_float (append_assoc (d ∷ ds) es rest) ∙
    power_is (d ∷ ds) es rest h x

pub float_alone : (cs : List Character) → Float cs → is_float cs ≡ true
float_alone cs f = ap is_float (sym (append-nil cs)) ∙ float_is cs [] f

-- ---- whole numbers are no floats

digits_no_float : (ds rest : List Character) → Each ten ds → next_is ten rest ≡ false → continued rest ≡ false →
    is_float (ds ++ rest) ≡ false
unfolding is_float
digits_no_float ds rest each stop e = ap continued (after_digits Ten ds rest each stop) ∙ e

base_no_float : (base : Base) (letter : ℕ) (x : Character) → BaseLetter base letter → Is (Letter letter) x →
    continues x.byte ≡ false
base_no_float base letter x two h = by_letter (λ b. continues b ≡ false) 66 x h refl refl
base_no_float base letter x eight h = by_letter (λ b. continues b ≡ false) 79 x h refl refl
base_no_float base letter x sixteen h = by_letter (λ b. continues b ≡ false) 88 x h refl refl

whole_is : (n : ℕ) (cs rest : List Character) → Whole cs n → next_is ten rest ≡ false → continued rest ≡ false →
    is_float (cs ++ rest) ≡ false
whole_is n cs rest (zero_digit c e) stop free = digits_no_float (c ∷ []) rest (zero_is_digit c e, tt) stop free
whole_is n cs rest (decimal c ds other h) stop free = digits_no_float (c ∷ ds) rest h stop free
whole_is n cs rest (octal c d ds e h) stop free =
    digits_no_float (c ∷ d ∷ ds) rest (zero_is_digit c e, digits_decimal Eight (d ∷ ds) (omega arith) h) stop free
whole_is n cs rest (in_base base letter b c x d ds e f h) stop free =
    digits_no_float (c ∷ []) (x ∷ d ∷ (ds ++ rest)) (zero_is_digit c e, tt) (base_no_digit base letter x b f)
    (base_no_float base letter x b f)

pub whole_no_float : (n : ℕ) (cs : List Character) → Whole cs n → is_float cs ≡ false
whole_no_float n cs w = ap is_float (sym (append-nil cs)) ∙ whole_is n cs [] w refl refl

pub long_no_float : (n : ℕ) (cs : List Character) (l : Character) → Whole cs n → Is (Letter 108) l →
    is_float (cs ++ l ∷ []) ≡ false
long_no_float n cs l w h =
    whole_is n cs (l ∷ []) w (long_no_digit Ten l h) (by_letter (λ b. continues b ≡ false) 76 l h refl refl)

-- ---- a suffix `l`

pub has_long : List Character → Bool
has_long [] = false
has_long (c ∷ cs) = in_class (Letter 108) c || has_long cs

pub long_has : (cs : List Character) (l : Character) → Is (Letter 108) l → has_long (cs ++ l ∷ []) ≡ true
unfolding has_long
long_has [] l h = or_left _ _ h
long_has (c ∷ cs) l h = or_right _ _ (long_has cs l h)

digit_no_long : (base : Base) (c : Character) → Is (Digit base) c → in_class (Letter 108) c ≡ false
digit_no_long base c h = false_from_ne_true _ (λ e. contrary h (long_no_digit base c e))

digits_no_long : (base : Base) (ds : List Character) → Each (Digit base) ds → has_long ds ≡ false
unfolding has_long
digits_no_long base [] h = refl
digits_no_long base (d ∷ ds) h = or_from _ _ (digit_no_long base d h.0) (digits_no_long base ds h.1)

pub whole_no_long : (n : ℕ) (cs : List Character) → Whole cs n → has_long cs ≡ false
unfolding has_long
whole_no_long n cs (zero_digit c e) = digits_no_long Ten (c ∷ []) (zero_is_digit c e, tt)
whole_no_long n cs (decimal c ds other h) = digits_no_long Ten (c ∷ ds) h
whole_no_long n cs (octal c d ds e h) = or_from _ _ (digit_no_long Ten c (zero_is_digit c e))
    (digits_no_long Eight (d ∷ ds) h)
whole_no_long n cs (in_base base letter b c x d ds e f h) =
    or_from _ _ (digit_no_long Ten c (zero_is_digit c e))
    (or_from _ _ (base_no_long base letter x b f) (digits_no_long base (d ∷ ds) h))
