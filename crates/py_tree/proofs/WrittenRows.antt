-- The characters of what is written: rows of bytes of one line, and what is read at them.
use Rattle.std.proofs.Common.{◌≡◌, ℕ, ◌+◌, ◌==◌, Bool, true, false, not, ◌&&◌, List, [], ◌∷◌, ◌++◌, Ok, refl, ap}
use Rattle.std.specs.List.{list_all}
use Rattle.py_tokens.specs.declared.character.Character.{Character}
use Rattle.py_tokens.specs.declared.token.Token.{Token}
use Rattle.py_tokens.specs.declared.token.TokenKind.{TokenKind}
use Rattle.py_tokens.specs.declared.token.TokenKind.TheVariants as k
use Rattle.py_tokens.specs.declared.word.Word.{Word}
use Rattle.py_tokens.specs.declared.word.Word.TheVariants.{Plain}
use Rattle.py_tokens.specs.Place.{place, token_at}
use Rattle.py_tokens.specs.Characters.{character, line_after}
use Rattle.py_tokens.specs.Words.{bracketed, word_at}

-- ---- rows

-- the characters of bytes among which is no carriage return
abbrev pub plain : ℕ → ℕ → List ℕ → List Character
plain at line [] = []
plain at line (b ∷ bs) = character b at (at + 1) line ∷ plain (at + 1) (line_after b line) bs

-- the characters of bytes of one line
abbrev pub row : ℕ → ℕ → List ℕ → List Character
row at line [] = []
row at line (b ∷ bs) = character b at (at + 1) line ∷ row (at + 1) line bs

-- the place after these bytes
abbrev pub ahead : ℕ → List ℕ → ℕ
ahead at [] = at
ahead at (b ∷ bs) = ahead (at + 1) bs

-- a byte that ends no line and begins no byte order mark
abbrev pub is_quiet : ℕ → Bool
is_quiet b = not (b == 10) && (not (b == 13) && not (b == 239))

abbrev pub quiet : List ℕ → Bool
quiet bs = list_all is_quiet bs

pub both : (p q : Bool) → (p && q) ≡ true → (p ≡ true) × (q ≡ true)
both true q e = (refl, e)
both false q e = absurd (cc)

pub quiet_byte : (p q r : Bool) → (not p && (not q && not r)) ≡ true → (p ≡ false) × (q ≡ false) × (r ≡ false)
quiet_byte false false false e = (refl, refl, refl)
quiet_byte false false true e = absurd (cc)
quiet_byte false true r e = absurd (cc)
quiet_byte true q r e = absurd (cc)

pub plain_row : (at line : ℕ) (bs more : List ℕ) → quiet bs ≡ true →
    plain at line (bs ++ more) ≡ row at line bs ++ plain (ahead at bs) line more
plain_row at line [] more q = refl
plain_row at line (b ∷ bs) more q =
    let each = both (is_quiet b) (quiet bs) q in
    let h : (b == 10) ≡ false = (quiet_byte (b == 10) (b == 13) (b == 239) each.0).0 in
    rw h (ap (λ z. character b at (at + 1) line ∷ z) (plain_row (at + 1) line bs more each.1))

-- ---- what is read

abbrev pub word_for : TokenKind → Token → Word
word_for (k.Op n) t = bracketed n t
word_for _ t = Plain t

-- at a row of these bytes, before a blank, a word of this kind is read
abbrev pub ReadsAs : TokenKind → List ℕ → Type 0
ReadsAs kind bytes = (size at line from to after : ℕ) (rest : List Character) →
    word_at size (row at line bytes ++ character 32 from to after ∷ rest) ≡ Ok
    (word_for kind (token_at kind (place at from line)), character 32 from to after ∷ rest)

-- how a token of this kind is spelled
pub record Spelt (kind : TokenKind) (bytes : List ℕ) : Type 0 where
  pub first : ℕ
  pub others : List ℕ
  pub is : bytes ≡ first ∷ others
  pub quiet : quiet bytes ≡ true
  pub reads : ReadsAs kind bytes

pub entry : (kind : TokenKind) (b : ℕ) (bs : List ℕ) → quiet (b ∷ bs) ≡ true → ReadsAs kind (b ∷ bs) →
    Spelt kind (b ∷ bs)
entry kind b bs q r = record { first = b; others = bs; is = refl; quiet = q; reads = r }
