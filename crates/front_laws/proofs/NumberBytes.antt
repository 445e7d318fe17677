-- Which bytes the classes of a number hold, and which first characters keep it from having a base's prefix.
use Rattle.std.proofs.Common.{◌≡◌, ℕ, ◌+◌, ◌<◌, ◌≤◌, Bool, true, false, List, [], ◌∷◌, ◌++◌, ⊎_elim, refl, sym, ◌∙◌, subst, eqb-true, ltb-true, lt-ltb, ne_eqb, true≢false, arith}
use Rattle.std.proofs.lemmas.Bool.{or_cases, or_from}
use Rattle.std.proofs.lemmas.Str.Parse.{digit_from_value}
use Rattle.std.specs.Char.{digit_value}
use Rattle.py_tokens.specs.declared.character.Character.{Character}
use Rattle.py_tokens.specs.declared.class.Base.{Base}
use Rattle.py_tokens.specs.declared.class.Base.TheVariants.{Two, Eight, Ten, Sixteen}
use Rattle.py_tokens.specs.declared.class.Class.TheVariants.{Byte, Letter, Digit, Sign}
use Rattle.py_tokens.specs.Classes.{base_of, holds, in_class, next_is, after}
use Rattle.py_tokens.specs.Numbers.{ten}
use Rattle.front_laws.specs.Spells.{Is, Each, BaseLetter, two, eight, sixteen}
use Rattle.front_laws.proofs.Runs.{after_each, after_none}

pub contrary : {b : Bool} → b ≡ true → b ≡ false → ⊥
contrary e f = true≢false (sym e ∙ f)

-- a letter is one of two bytes
pub by_letter : (P : ℕ → Type 0) (low : ℕ) (c : Character) → Is (Letter (low + 32)) c → P (low + 32) → P low → P c.byte
by_letter P low c h p q = ⊎_elim
    (λ e. subst P (sym (eqb-true c.byte (low + 32) e)) p)
    (λ e. let same : c.byte + 32 ≡ low + 32 = eqb-true (c.byte + 32) (low + 32) e in let at : low ≡ c.byte =
    omega arith in subst P at q)
    (or_cases _ _ h)

pub other_letter : (x y : ℕ) (c : Character) → Is (Letter x) c → (x ≡ y → ⊥) → (x ≡ y + 32 → ⊥) → (y ≡ x + 32 → ⊥) →
    in_class (Letter y) c ≡ false
other_letter x y c h p q r = ⊎_elim
    (λ e. let at : c.byte ≡ x = eqb-true c.byte x e in
    or_from _ _ (ne_eqb c.byte y (λ f. p (omega arith))) (ne_eqb (c.byte + 32) y (λ f. r (omega arith))))
    (λ e. let at : c.byte + 32 ≡ x = eqb-true (c.byte + 32) x e in
    or_from _ _ (ne_eqb c.byte y (λ f. q (omega arith))) (ne_eqb (c.byte + 32) y (λ f. p (omega arith))))
    (or_cases _ _ h)

-- ---- digits

pub digit_no_letter : (x : ℕ) (c : Character) → 90 ≤ x → Is ten c → in_class (Letter x) c ≡ false
digit_no_letter x c high h =
    let most : c.byte ≤ 57 = (digit_from_value c.byte (ltb-true (digit_value c.byte) 10 h)).1 in
    or_from _ _ (ne_eqb c.byte x (λ e. omega arith)) (ne_eqb (c.byte + 32) x (λ e. omega arith))

pub digit_decimal : (base : Base) (c : Character) → base_of base ≤ 10 → Is (Digit base) c → Is ten c
digit_decimal base c small h =
    let l : digit_value c.byte < base_of base = ltb-true (digit_value c.byte) (base_of base) h in
    lt-ltb (digit_value c.byte) 10 (omega arith)

pub digits_decimal : (base : Base) (cs : List Character) → base_of base ≤ 10 → Each (Digit base) cs → Each ten cs
digits_decimal base [] small h = tt
digits_decimal base (c ∷ cs) small h = (digit_decimal base c small h.0, digits_decimal base cs small h.1)

pub zero_is_digit : (c : Character) → c.byte ≡ 48 → Is ten c
zero_is_digit c e = subst (λ b. holds ten b ≡ true) (sym e) refl

pub point_no_digit : (p : Character) → p.byte ≡ 46 → in_class ten p ≡ false
point_no_digit p e = subst (λ b. holds ten b ≡ false) (sym e) refl

pub sign_no_digit : (s : Character) → Is Sign s → in_class ten s ≡ false
sign_no_digit s h = ⊎_elim
    (λ e. subst (λ b. holds ten b ≡ false) (sym (eqb-true s.byte 43 e)) refl)
    (λ e. subst (λ b. holds ten b ≡ false) (sym (eqb-true s.byte 45 e)) refl)
    (or_cases _ _ h)

pub exponent_no_digit : (e : Character) → Is (Letter 101) e → in_class ten e ≡ false
exponent_no_digit e h = by_letter (λ b. holds ten b ≡ false) 69 e h refl refl

pub exponent_no_point : (e : Character) → Is (Letter 101) e → in_class (Byte 46) e ≡ false
exponent_no_point e h = by_letter (λ b. holds (Byte 46) b ≡ false) 69 e h refl refl

pub imaginary_no_digit : (j : Character) → Is (Letter 106) j → in_class ten j ≡ false
imaginary_no_digit j h = by_letter (λ b. holds ten b ≡ false) 74 j h refl refl

pub imaginary_no_exponent : (j : Character) → Is (Letter 106) j → in_class (Letter 101) j ≡ false
imaginary_no_exponent j h = by_letter (λ b. holds (Letter 101) b ≡ false) 74 j h refl refl

pub long_no_digit : (base : Base) (l : Character) → Is (Letter 108) l → in_class (Digit base) l ≡ false
long_no_digit Two l h = by_letter (λ b. holds (Digit Two) b ≡ false) 76 l h refl refl
long_no_digit Eight l h = by_letter (λ b. holds (Digit Eight) b ≡ false) 76 l h refl refl
long_no_digit Ten l h = by_letter (λ b. holds (Digit Ten) b ≡ false) 76 l h refl refl
long_no_digit Sixteen l h = by_letter (λ b. holds (Digit Sixteen) b ≡ false) 76 l h refl refl

-- digits are taken up to what is no digit
pub after_digits : (base : Base) (ds rest : List Character) → Each (Digit base) ds → next_is (Digit base) rest ≡ false →
    after (Digit base) (ds ++ rest) ≡ rest
after_digits base ds rest h stop = after_each (Digit base) ds rest h ∙ after_none (Digit base) rest stop

-- ---- prefixes of a base

-- no base's letter is next
abbrev pub NoBase : List Character → Type 0
NoBase cs = (base : Base) (letter : ℕ) → BaseLetter base letter → next_is (Letter letter) cs ≡ false

pub digit_no_base : (d : Character) (cs : List Character) → Is ten d → NoBase (d ∷ cs)
digit_no_base d cs h base letter two = digit_no_letter 98 d (omega arith) h
digit_no_base d cs h base letter eight = digit_no_letter 111 d (omega arith) h
digit_no_base d cs h base letter sixteen = digit_no_letter 120 d (omega arith) h

pub point_no_base : (p : Character) (cs : List Character) → p.byte ≡ 46 → NoBase (p ∷ cs)
point_no_base p cs e base letter two = subst (λ b. holds (Letter 98) b ≡ false) (sym e) refl
point_no_base p cs e base letter eight = subst (λ b. holds (Letter 111) b ≡ false) (sym e) refl
point_no_base p cs e base letter sixteen = subst (λ b. holds (Letter 120) b ≡ false) (sym e) refl

-- `e`, `j` and `l` are none
pub letter_no_base : (x : ℕ) (c : Character) (cs : List Character) → 98 < x → x < 111 → Is (Letter x) c →
    NoBase (c ∷ cs)
letter_no_base x c cs low high h base letter two = other_letter x 98 c h (λ e. omega arith) (λ e. omega arith)
    (λ e. omega arith)
letter_no_base x c cs low high h base letter eight = other_letter x 111 c h (λ e. omega arith) (λ e. omega arith)
    (λ e. omega arith)
letter_no_base x c cs low high h base letter sixteen = other_letter x 120 c h (λ e. omega arith) (λ e. omega arith)
    (λ e. omega arith)

pub digits_no_base : (ds rest : List Character) → Each ten ds → NoBase rest → NoBase (ds ++ rest)
digits_no_base [] rest h free = free
digits_no_base (d ∷ ds) rest h free = digit_no_base d (ds ++ rest) h.0
