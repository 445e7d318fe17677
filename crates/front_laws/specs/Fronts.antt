-- The longest piece at the front of a text, and why there is none. States `docs/LANGUAGE.md`, "Tokens" and "Numbers".
use Rattle.std.specs.Prelude.{◌≡◌, ℕ, ◌≤◌, false, List, ◌∷◌, ◌++◌, length}
use Rattle.py_tokens.specs.declared.character.Character.{Character}
use Rattle.py_tokens.specs.declared.class.Base.{Base}
use Rattle.py_tokens.specs.declared.class.Base.TheVariants.{Eight, Ten}
use Rattle.py_tokens.specs.declared.class.Class.TheVariants.{Letter, Digit}
use Rattle.py_tokens.specs.declared.token.Other.TheVariants as other
use Rattle.py_tokens.specs.declared.token.TokenKind.{TokenKind}
use Rattle.py_tokens.specs.declared.token.TokenKind.TheVariants as k
use Rattle.py_tokens.specs.Classes.{next_is}
use Rattle.front_laws.specs.Spells.{Each, Is, BaseLetter, Spells}

-- This front of a text spells the token, and no longer front spells any.
pub record IsLongest (front rest : List Character) (kind : TokenKind) : Type 0 where
  pub spelled : Spells front kind
  pub longest : (more after : List Character) (some : TokenKind) → front ++ rest ≡ more ++ after → Spells more some →
      length more ≤ length front

-- no front of it spells a token
abbrev pub HasNoFront : List Character → Type 0
HasNoFront cs = (front rest : List Character) (kind : TokenKind) → cs ≡ front ++ rest → Spells front kind → ⊥

-- A text begins as a number that is none: a prefix without a digit, or digits that begin with 0 and have an 8 or a 9,
-- where no front is a float.
pub data BadNumber : List Character → Type 0 where
  no_digit : (base : Base) (letter : ℕ) → BaseLetter base letter → (c x : Character) (cs : List Character) →
      c.byte ≡ 48 → Is (Letter letter) x →
      next_is (Digit base) cs ≡ false → BadNumber (c ∷ x ∷ cs)
  no_octal : (c : Character) (ds rest : List Character) → c.byte ≡ 48 → Each (Digit Ten) ds →
      (Each (Digit Eight) ds → ⊥) →
      next_is (Digit Ten) rest ≡ false →
      ((front after : List Character) → c ∷ ds ++ rest ≡ front ++ after → Spells front (k.Other other.Float) → ⊥) →
      BadNumber (c ∷ ds ++ rest)
