-- A text is cut from the front, again and again, into its longest pieces. States `docs/LANGUAGE.md`, "Tokens".
use Rattle.std.specs.Prelude.{◌≡◌, ◌≢◌, ℕ, ◌^◌, ◌≤◌, Bool, true, false, if◌then◌else◌, List, [], ◌∷◌, ◌++◌, length, map, Option, Some, None}
use Rattle.py_base.specs.declared.refusal.Refusal.{Refusal}
use Rattle.py_base.specs.declared.refusal.Refusal.TheVariants.{BadCharacter, NumberWide, OpenString, BadEscape}
use Rattle.py_tokens.specs.declared.character.Character.{Character}
use Rattle.py_tokens.specs.declared.class.Class.TheVariants.{Byte, Blank, InLine}
use Rattle.py_tokens.specs.declared.literal.Prefix.{Prefix}
use Rattle.py_tokens.specs.declared.literal.Quoting.{Quoting}
use Rattle.py_tokens.specs.declared.token.Token.{Token}
use Rattle.py_tokens.specs.declared.token.TokenKind.{TokenKind}
use Rattle.py_tokens.specs.declared.token.TokenKind.TheVariants as k
use Rattle.py_text.specs.Escape.{unescaped}
use Rattle.py_tokens.specs.Characters.{byte_of}
use Rattle.py_tokens.specs.Classes.{next_is}
use Rattle.py_tokens.specs.Strings.{quotes, two_hex}
use Rattle.front_laws.specs.Spells.{Is, Each, Whole, Prefixes, IsMark, Quotes, Closed, Spells}
use Rattle.front_laws.specs.Fronts.{IsLongest, BadNumber}

-- where these characters begin, in a text of this size
abbrev pub begin : ℕ → List Character → ℕ
begin size [] = size
begin size (c ∷ cs) = c.from

-- A string begins: a prefix, if any, and quotes, three where three stand there.
pub record Opens (q : Quoting) (p : Prefix) (inner cs : List Character) : Type 0 where
  pub prefix : List Character
  pub marks : List Character
  pub splits : cs ≡ prefix ++ marks ++ inner
  pub prefixes : Prefixes prefix p
  pub mark : IsMark q.mark
  pub opens : Quotes q marks
  pub most : q.triple ≡ false → quotes (record { mark = q.mark; triple = true }) (marks ++ inner) ≡ false

abbrev pub BeginsString : List Character → Type 0
BeginsString cs = (q : Quoting) × (p : Prefix) × (inner : List Character) × Opens q p inner cs

-- a string begins, and no body is closed by its quotes
pub record IsOpen (cs : List Character) : Type 0 where
  pub quoting : Quoting
  pub prefix : Prefix
  pub inner : List Character
  pub opens : Opens quoting prefix inner cs
  pub none_closes : (body closed rest : List Character) → inner ≡ closed ++ rest → Closed quoting body closed → ⊥

-- a body goes on over these characters: on the way no quotes close it, no line end ends it, and each `\x` has two
-- hexadecimal digits
pub data Goes (q : Quoting) : List Character → List Character → Type 0 where
  here : {cs : List Character} → Goes q [] cs
  more : (c : Character) {body cs : List Character} → c.byte ≢ 92 → quotes q (c ∷ cs) ≡ false →
      (q.triple ≡ false → c.byte ≢ 10) →
      Goes q body cs → Goes q (c ∷ body) (c ∷ cs)
  kept : (c d : Character) {body cs : List Character} → c.byte ≡ 92 → (d.byte ≡ 120 → two_hex cs ≡ true) →
      Goes q body cs →
      Goes q (c ∷ d ∷ body) (c ∷ d ∷ cs)

-- A string that isn't unicode begins on the first line. It isn't raw, and its body goes on up to an `\x` without two
-- hexadecimal digits, whose backslash is on the other line; or it has a body in which an escape has no meaning, and
-- both lines are one.
pub data HasBadEscape (first line : ℕ) (cs : List Character) : Type 0 where
  no_digits : (q : Quoting) (p : Prefix) (inner before : List Character) (slash x : Character) (after : List Character)
      → Opens q p inner cs →
      p.raw ≡ false → p.unicode ≡ false → Goes q before inner → inner ≡ before ++ (slash ∷ x ∷ after) →
      slash.byte ≡ 92 → x.byte ≡ 120 →
      two_hex after ≡ false → line ≡ slash.line → HasBadEscape first line cs
  no_meaning : (q : Quoting) (p : Prefix) (inner body closed rest : List Character) → Opens q p inner cs →
      p.unicode ≡ false →
      inner ≡ closed ++ rest → Closed q body closed → unescaped p.raw (map byte_of body) ≡ None → line ≡ first →
      HasBadEscape first line cs

-- its longest front that is a number is a whole number that is too wide
pub record TooWide (cs : List Character) : Type 0 where
  pub front : List Character
  pub rest : List Character
  pub splits : cs ≡ front ++ rest
  pub number : ℕ
  pub whole : Whole front number
  pub wide : 2 ^ 63 ≤ number
  pub longest : (more after : List Character) (kind : TokenKind) → cs ≡ more ++ after → Spells more kind →
      length more ≤ length front

-- No blank, line end, comment or joint stands at the front.
pub record IsNoSpace (c : Character) (cs : List Character) : Type 0 where
  pub blank : Is Blank c → ⊥
  pub line_end : c.byte ≢ 10
  pub comment : c.byte ≢ 35
  pub joint : c.byte ≡ 92 → next_is (Byte 10) cs ≡ false

-- Why no piece stands at the front. It is a bad character where no front spells a token; and where one does, the text
-- begins as a number that is none.
abbrev pub Cause : Character → List Character → Refusal → Type 0
Cause c cs (BadCharacter l) =
    (l ≡ c.line) × ((front rest : List Character) (kind : TokenKind) → c ∷ cs ≡ front ++ rest → Spells front kind →
    BadNumber (c ∷ cs))
Cause c cs (NumberWide l) = (l ≡ c.line) × TooWide (c ∷ cs)
Cause c cs (OpenString l) = (l ≡ c.line) × IsOpen (c ∷ cs)
Cause c cs (BadEscape l) = HasBadEscape c.line l (c ∷ cs)
Cause c cs _ = ⊥

-- the pieces of these characters, in a text of this size: their tokens, and why there is no further one, if it ends
-- before the text does
pub data Pieces (size : ℕ) : List Character → List Token → Option Refusal → Type 0 where
  end : Pieces size [] [] None
  blank : (c : Character) {cs : List Character} {ts : List Token} {e : Option Refusal} → Is Blank c →
      Pieces size cs ts e → Pieces size (c ∷ cs) ts e
  line_end : (c : Character) {cs : List Character} {ts : List Token} {e : Option Refusal} → c.byte ≡ 10 →
      Pieces size cs ts e →
      Pieces size (c ∷ cs) ts e
  comment : (c : Character) (ds : List Character) {cs : List Character} {ts : List Token} {e : Option Refusal} →
      c.byte ≡ 35 → Each InLine ds →
      next_is InLine cs ≡ false → Pieces size cs ts e → Pieces size ((c ∷ ds) ++ cs) ts e
  joint : (c d : Character) {cs : List Character} {ts : List Token} {e : Option Refusal} → c.byte ≡ 92 → d.byte ≡ 10 →
      Pieces size cs ts e →
      Pieces size (c ∷ d ∷ cs) ts e
  token : (c : Character) (ds : List Character) {cs : List Character} {ts : List Token} {e : Option Refusal}
      (kind : TokenKind) →
      IsLongest (c ∷ ds) cs kind → Pieces size cs ts e →
      Pieces size ((c ∷ ds) ++ cs) (record { kind = kind; from = c.from; to = begin size cs; line = c.line } ∷ ts) e
  none : (c : Character) {cs : List Character} (e : Refusal) → IsNoSpace c cs → Cause c cs e →
      Pieces size (c ∷ cs) [] (Some e)

-- ---- the tokens of the lines, without those of their layout

abbrev pub is_layout : TokenKind → Bool
is_layout k.Newline = true
is_layout k.Indent = true
is_layout k.Dedent = true
is_layout k.End = true
is_layout _ = false

abbrev pub in_line : List Token → List Token
in_line [] = []
in_line (t ∷ ts) = if is_layout t.kind then in_line ts else t ∷ in_line ts
