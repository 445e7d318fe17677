-- Where no front spells a token, and neither a space nor a string begins, there is a bad character.
use Rattle.std.proofs.Common.{◌≡◌, ℕ, ◌+◌, ◌*◌, ◌<◌, List, [], ◌∷◌, ◌++◌, length, Option, Some, refl, sym, ap, ◌∙◌, subst, arith}
use Rattle.std.specs.Char.{digit_value}
use Rattle.std.proofs.lemmas.Bool.{ltb-true, eq-eqb}
use Rattle.py_base.specs.declared.refusal.Refusal.{Refusal}
use Rattle.py_base.specs.declared.refusal.Refusal.TheVariants.{BadCharacter, NumberWide, OpenString, BadEscape}
use Rattle.py_tokens.specs.declared.character.Character.{Character}
use Rattle.py_tokens.specs.declared.class.Class.TheVariants as class
use Rattle.py_tokens.specs.declared.token.Token.{Token}
use Rattle.py_tokens.specs.Classes.{next_is}
use Rattle.py_tokens.specs.Numbers.{ten}
use Rattle.front_laws.specs.Spells as s
use Rattle.front_laws.specs.Spells.{Is, Whole, Spells}
use Rattle.front_laws.specs.Fronts.{HasNoFront}
use Rattle.front_laws.specs.Pieces as p
use Rattle.front_laws.specs.Pieces.{BeginsString, TooWide, IsNoSpace, Cause, Pieces}
use Rattle.front_laws.proofs.PieceLemmas.{first_or}
use Rattle.front_laws.proofs.Tables.{never}

-- ---- a whole number has a digit, which spells a number

digit_small : (c : Character) → Is ten c → 0 * 10 + digit_value c.byte < 9223372036854775808
digit_small c e = let h : digit_value c.byte < 10 = ltb-true (digit_value c.byte) 10 e in omega (arith, h)

whole_front : (n : ℕ) (cs rest : List Character) → Whole cs n → HasNoFront (cs ++ rest) → ⊥
whole_front n cs rest (s.zero_digit c e) none = none (c ∷ []) rest _ refl (s.int (s.zero_digit c e) (omega arith))
whole_front n cs rest (s.decimal c ds e each) none =
    none (c ∷ []) (ds ++ rest) _ refl (s.int (s.decimal c [] e (each.0, tt)) (digit_small c each.0))
whole_front n cs rest (s.octal c d ds e each) none =
    none (c ∷ []) ((d ∷ ds) ++ rest) _ refl (s.int (s.zero_digit c e) (omega arith))
whole_front n cs rest (s.in_base base letter is c x d ds e f each) none =
    none (c ∷ []) ((x ∷ d ∷ ds) ++ rest) _ refl (s.int (s.zero_digit c e) (omega arith))

wide_front : (cs : List Character) → TooWide cs → HasNoFront cs → ⊥
wide_front cs w none = whole_front w.number w.front w.rest w.whole (subst HasNoFront w.splits none)

-- ---- the cause

-- no token is there, and the refusal is of a bad character on this line
abbrev pub IsBad : ℕ → List Token → Option Refusal → Type 0
IsBad line ts e = (ts ≡ []) × (e ≡ Some (BadCharacter line))

bad_escape_begins : (first line : ℕ) (cs : List Character) → p.HasBadEscape first line cs → BeginsString cs
bad_escape_begins first line cs (p.no_digits q x inner before slash y after opens raw unicode goes e f g h i) =
    (q, x, inner, opens)
bad_escape_begins first line cs (p.no_meaning q x inner body closed rest opens plain e is f g) = (q, x, inner, opens)

bad_cause : (c : Character) (cs : List Character) (e : Refusal) → HasNoFront (c ∷ cs) → (BeginsString (c ∷ cs) → ⊥) →
    Cause c cs e →
    IsBad c.line [] (Some e)
bad_cause c cs (BadCharacter l) none string cause = (refl, ap (λ n. Some (BadCharacter n)) cause.0)
bad_cause c cs (NumberWide l) none string cause = absurd (wide_front (c ∷ cs) cause.1 none)
bad_cause c cs (OpenString l) none string cause =
    absurd (string (cause.1.quoting, cause.1.prefix, cause.1.inner, cause.1.opens))
bad_cause c cs (BadEscape l) none string cause = absurd (string (bad_escape_begins c.line l (c ∷ cs) cause))
bad_cause c cs _ none string cause = absurd cause

rest_of : List Character → List Character
rest_of [] = []
rest_of (c ∷ cs) = cs

no_front : (size : ℕ) (c : Character) (cs xs : List Character) (ts : List Token) (e : Option Refusal) →
    IsNoSpace c cs → HasNoFront (c ∷ cs) →
    (BeginsString (c ∷ cs) → ⊥) → xs ≡ c ∷ cs → Pieces size xs ts e → IsBad c.line ts e
unfolding first_or rest_of
no_front size c cs xs ts e space none string same p.end = let n : 0 ≡ length (c ∷ cs) = ap length same in
    absurd (omega (arith, n))
no_front size c cs xs ts e space none string same (p.blank d is more) =
    absurd (space.blank (subst (Is class.Blank) (ap (first_or c) same) is))
no_front size c cs xs ts e space none string same (p.line_end d is more) =
    absurd (space.line_end (ap (λ zs. (first_or c zs).byte) (sym same) ∙ is))
no_front size c cs xs ts e space none string same (p.comment d ds is each stop more) =
    absurd (space.comment (ap (λ zs. (first_or c zs).byte) (sym same) ∙ is))
no_front size c cs xs ts e space none string same (p.joint d x is line more) =
    let slash : c.byte ≡ 92 = ap (λ zs. (first_or c zs).byte) (sym same) ∙ is in
    never (next_is (class.Byte 10) cs) (space.joint slash) (ap (λ zs. next_is (class.Byte 10) (rest_of zs)) (sym same)
    ∙ eq-eqb x.byte 10 line)
no_front size c cs xs ts e space none string same (p.token d ds {cs = rest} kind longest more) =
    absurd (none (d ∷ ds) rest kind (sym same) longest.spelled)
no_front size c cs xs ts e space none string same (p.none d {cs = ds} x alone cause) =
    subst (λ line. IsBad line [] (Some x)) (ap (λ zs. (first_or c zs).line) same)
    (bad_cause d ds x (subst HasNoFront (sym same) none) (λ begins. string (subst BeginsString same begins)) cause)

pub pieces_bad : (size : ℕ) (c : Character) (cs : List Character) (ts : List Token) (e : Option Refusal) →
    IsNoSpace c cs → HasNoFront (c ∷ cs) →
    (BeginsString (c ∷ cs) → ⊥) → Pieces size (c ∷ cs) ts e → IsBad c.line ts e
pieces_bad size c cs ts e space none string pieces = no_front size c cs (c ∷ cs) ts e space none string refl pieces
