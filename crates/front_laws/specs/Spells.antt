-- Which characters spell which token: one case for each form. States `docs/LANGUAGE.md`, "Names and keywords",
-- "Numbers", "Strings" and "Operators". Of py_tokens it takes the classes of characters, the tables of keywords and
-- operators, and what an escape stands for.
use Rattle.std.specs.Prelude.{◌≡◌, ◌≢◌, ℕ, ◌^◌, ◌<◌, pos, true, false, List, [], ◌∷◌, ◌++◌, map, Some, ◌⊎◌}
use Rattle.std.specs.Str.Parse.{digits_value}
use Rattle.py_text.specs.Escape.{unescaped}
use Rattle.py_tokens.specs.declared.character.Character.{Character}
use Rattle.py_tokens.specs.declared.class.Base.{Base}
use Rattle.py_tokens.specs.declared.class.Base.TheVariants.{Two, Eight, Ten, Sixteen}
use Rattle.py_tokens.specs.declared.class.Class.{Class}
use Rattle.py_tokens.specs.declared.class.Class.TheVariants.{Letter, Digit, NameStart, Name, Sign}
use Rattle.py_tokens.specs.declared.literal.Prefix.{Prefix}
use Rattle.py_tokens.specs.declared.literal.Quoting.{Quoting}
use Rattle.py_tokens.specs.declared.token.Other.TheVariants as other
use Rattle.py_tokens.specs.declared.token.TokenKind.{TokenKind}
use Rattle.py_tokens.specs.declared.token.TokenKind.TheVariants as k
use Rattle.py_tokens.specs.Characters.{byte_of}
use Rattle.py_tokens.specs.Classes.{base_of, in_class}
use Rattle.py_tokens.specs.Strings.{prefix, quotes}
use Rattle.py_tokens.specs.Tables.{keywords, operators}

abbrev pub Is : Class → Character → Type 0
Is k c = in_class k c ≡ true

abbrev pub Each : Class → List Character → Type 0
Each k [] = Unit {0}
Each k (c ∷ cs) = Is k c × Each k cs

-- ---- numbers

abbrev pub value : Base → List Character → ℕ
value base cs = digits_value (base_of base) (map byte_of cs)

-- `0b`, `0o` and `0x`
pub data BaseLetter : Base → ℕ → Type 0 where
  two : BaseLetter Two 98
  eight : BaseLetter Eight 111
  sixteen : BaseLetter Sixteen 120

-- a whole number, and its value
pub data Whole : List Character → ℕ → Type 0 where
  zero_digit : (c : Character) → c.byte ≡ 48 → Whole (c ∷ []) 0
  decimal : (c : Character) (cs : List Character) → c.byte ≢ 48 → Each (Digit Ten) (c ∷ cs) →
      Whole (c ∷ cs) (value Ten (c ∷ cs))
  octal : (c d : Character) (cs : List Character) → c.byte ≡ 48 → Each (Digit Eight) (d ∷ cs) →
      Whole (c ∷ d ∷ cs) (value Eight (d ∷ cs))
  in_base : (base : Base) (letter : ℕ) → BaseLetter base letter → (c x d : Character) (cs : List Character) →
      c.byte ≡ 48 → Is (Letter letter) x →
      Each (Digit base) (d ∷ cs) → Whole (c ∷ x ∷ d ∷ cs) (value base (d ∷ cs))

-- `e`, a sign if any, and digits
pub data Exponent : List Character → Type 0 where
  plain : (e d : Character) (cs : List Character) → Is (Letter 101) e → Each (Digit Ten) (d ∷ cs) →
      Exponent (e ∷ d ∷ cs)
  signed : (e s d : Character) (cs : List Character) → Is (Letter 101) e → Is Sign s → Each (Digit Ten) (d ∷ cs) →
      Exponent (e ∷ s ∷ d ∷ cs)

-- digits with a point before, between or behind them
pub data Pointed : List Character → Type 0 where
  behind : (p f : Character) (fs : List Character) → p.byte ≡ 46 → Each (Digit Ten) (f ∷ fs) → Pointed (p ∷ f ∷ fs)
  before : (d : Character) (ds : List Character) (p : Character) (fs : List Character) → Each (Digit Ten) (d ∷ ds) →
      p.byte ≡ 46 →
      Each (Digit Ten) fs → Pointed ((d ∷ ds) ++ (p ∷ fs))

pub data Float : List Character → Type 0 where
  pointed : {cs : List Character} → Pointed cs → Float cs
  raised : {cs es : List Character} → Pointed cs → Exponent es → Float (cs ++ es)
  power : (d : Character) (ds : List Character) {es : List Character} → Each (Digit Ten) (d ∷ ds) → Exponent es →
      Float ((d ∷ ds) ++ es)

-- ---- strings

-- a prefix, if any, in either case
pub data Prefixes : List Character → Prefix → Type 0 where
  none : Prefixes [] (prefix false false)
  raw : (c : Character) → Is (Letter 114) c → Prefixes (c ∷ []) (prefix true false)
  bytes : (c : Character) → Is (Letter 98) c → Prefixes (c ∷ []) (prefix false false)
  unicode : (c : Character) → Is (Letter 117) c → Prefixes (c ∷ []) (prefix false true)
  raw_bytes : (c d : Character) → Is (Letter 98) c → Is (Letter 114) d → Prefixes (c ∷ d ∷ []) (prefix true false)
  raw_unicode : (c d : Character) → Is (Letter 117) c → Is (Letter 114) d → Prefixes (c ∷ d ∷ []) (prefix true true)

abbrev pub IsMark : ℕ → Type 0
IsMark m = (m ≡ 39) ⊎ (m ≡ 34)

-- such quotes: the mark once, or three times
pub data Quotes : Quoting → List Character → Type 0 where
  one : (m : ℕ) (c : Character) → c.byte ≡ m → Quotes (record { mark = m; triple = false }) (c ∷ [])
  three : (m : ℕ) (c d e : Character) → c.byte ≡ m → d.byte ≡ m → e.byte ≡ m →
      Quotes (record { mark = m; triple = true }) (c ∷ d ∷ e ∷ [])

-- A body, and the body with its closing quotes. The first closing quotes end it; a backslash keeps the character after
-- it from ending it, and a line end stands in triple quotes or behind a backslash alone.
pub data Closed (q : Quoting) : List Character → List Character → Type 0 where
  end : {qs : List Character} → Quotes q qs → Closed q [] qs
  more : (c : Character) {body cs : List Character} → c.byte ≢ 92 → quotes q (c ∷ cs) ≡ false →
      (q.triple ≡ false → c.byte ≢ 10) → Closed q body cs →
      Closed q (c ∷ body) (c ∷ cs)
  kept : (c d : Character) {body cs : List Character} → c.byte ≡ 92 → Closed q body cs →
      Closed q (c ∷ d ∷ body) (c ∷ d ∷ cs)

-- a prefix, quotes, a body and the same quotes
pub data Literal : List Character → Prefix → List Character → Type 0 where
  literal : (q : Quoting) {ps qs body cs : List Character} {p : Prefix} → Prefixes ps p → IsMark q.mark → Quotes q qs →
      Closed q body cs →
      Literal (ps ++ qs ++ cs) p body

-- ---- tokens

-- the table has the word, with this number
abbrev pub Lists : List (List ℕ × ℕ) → List ℕ → ℕ → Type 0
Lists [] word n = ⊥
Lists (w ∷ ws) word n = ((w.0 ≡ word) × (w.1 ≡ n)) ⊎ Lists ws word n

pub data Spells : List Character → TokenKind → Type 0 where
  keyword : {cs : List Character} (n : ℕ) → Lists keywords (map byte_of cs) n → Spells cs (k.Keyword n)
  name : (c : Character) (cs : List Character) → Is NameStart c → Each Name cs →
      ((n : ℕ) → Lists keywords (map byte_of (c ∷ cs)) n → ⊥) →
      Spells (c ∷ cs) (k.Name (map byte_of (c ∷ cs)))
  operator : {cs : List Character} (n : ℕ) → Lists operators (map byte_of cs) n → Spells cs (k.Op n)
  int : {cs : List Character} {n : ℕ} → Whole cs n → n < 2 ^ 63 → Spells cs (k.Int (pos n))
  -- what the tokens tell apart, though the language leaves it out
  long : {cs : List Character} {n : ℕ} (l : Character) → Whole cs n → Is (Letter 108) l →
      Spells (cs ++ l ∷ []) (k.Other other.Long)
  float : {cs : List Character} → Float cs → Spells cs (k.Other other.Float)
  imaginary : {cs : List Character} (j : Character) → Float cs → Is (Letter 106) j →
      Spells (cs ++ j ∷ []) (k.Other other.Float)
  imaginary_whole : (d : Character) (ds : List Character) (j : Character) → Each (Digit Ten) (d ∷ ds) →
      Is (Letter 106) j →
      Spells ((d ∷ ds) ++ j ∷ []) (k.Other other.Float)
  string : {cs body : List Character} {p : Prefix} {bs : List ℕ} → Literal cs p body → p.unicode ≡ false →
      unescaped p.raw (map byte_of body) ≡ Some bs → Spells cs (k.Str bs)
  unicode_string : {cs body : List Character} {p : Prefix} → Literal cs p body → p.unicode ≡ true →
      Spells cs (k.Other other.Unicode)
