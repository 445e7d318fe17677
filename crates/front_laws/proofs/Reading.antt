-- What a reading at the front of a text is to be: spelled by the front that it takes, reaching as far as any front that
-- is spelled, and refused as a bad character only where a number is none.
use Rattle.std.proofs.Common.{◌≡◌, ℕ, ◌^◌, ◌≤◌, Bool, true, false, ◌&&◌, ◌||◌, if◌then◌else◌, List, ◌++◌, length, drop, Ok, Err, refl}
use Rattle.py_base.specs.declared.refusal.Refusal.{Refusal}
use Rattle.py_base.specs.declared.refusal.Refusal.TheVariants.{BadCharacter, NumberWide}
use Rattle.py_tokens.specs.declared.character.Character.{Character}
use Rattle.py_tokens.specs.declared.class.Base.TheVariants.{Ten}
use Rattle.py_tokens.specs.declared.class.Class.TheVariants.{Byte, Digit}
use Rattle.py_tokens.specs.Classes.{next_is}
use Rattle.py_tokens.specs.Numbers.{Read}
use Rattle.front_laws.specs.Spells.{Whole, Spells}
use Rattle.front_laws.specs.Fronts.{BadNumber}

-- a digit, or a point and a digit
abbrev pub starts_number : List Character → Bool
starts_number cs = next_is (Digit Ten) cs || (next_is (Byte 46) cs && next_is (Digit Ten) (drop 1 cs))

-- a front of it is a whole number that is too wide
pub record WideFront (cs : List Character) : Type 0 where
  pub front : List Character
  pub rest : List Character
  pub splits : cs ≡ front ++ rest
  pub number : ℕ
  pub whole : Whole front number
  pub wide : 2 ^ 63 ≤ number

-- what was read is spelled by the front that was taken; of a number that is too wide such a front is there
abbrev pub Spelled : List Character → Read → Type 0
Spelled cs (Ok p) = (front : List Character) × (cs ≡ front ++ p.1) × Spells front p.0
Spelled cs (Err (NumberWide l)) = WideFront cs
Spelled cs (Err _) = Unit {0}

-- no more than so many characters are left
abbrev pub Within : ℕ → Read → Type 0
Within n (Ok p) = length p.1 ≤ n
Within n (Err e) = Unit {0}

-- something was read, and no more than so many characters are left
abbrev pub Found : ℕ → Read → Type 0
Found n (Ok p) = length p.1 ≤ n
Found n (Err e) = ⊥

-- of a bad character: it is on this line, and the text begins as a number that is none
abbrev pub CausedBy : ℕ → List Character → Refusal → Type 0
CausedBy line cs (BadCharacter l) = (l ≡ line) × BadNumber cs
CausedBy line cs _ = Unit {0}

abbrev pub Caused : ℕ → List Character → Read → Type 0
Caused line cs (Ok p) = Unit {0}
Caused line cs (Err e) = CausedBy line cs e

-- a case of two readings, each with what it is known by
pub read_cases : (P : Read → Type 0) (b : Bool) (r s : Read) → (b ≡ true → P r) → (b ≡ false → P s) →
    P (if b then r else s)
read_cases P true r s f g = f refl
read_cases P false r s f g = g refl
