-- From a text to its words: the longest piece at the front, again and again. States `docs/LANGUAGE.md`, "Tokens".
use Rattle.std.specs.Prelude.{◌≡◌, ℕ, zero, suc, Bool, false, ◌==◌, ◌&&◌, ◌||◌, if◌then◌else◌, List, [], ◌∷◌, drop, Option, Some, None, Result, Ok, Err, ◌+◌, length}
use Rattle.py_base.specs.declared.refusal.Refusal.{Refusal}
use Rattle.py_base.specs.declared.refusal.Refusal.TheVariants.{BadCharacter}
use Rattle.py_tokens.specs.declared.character.Character.{Character}
use Rattle.py_tokens.specs.declared.class.Class.TheVariants.{Byte, NameStart, InLine, Quote}
use Rattle.py_tokens.specs.declared.class.Class.TheVariants as class
use Rattle.py_tokens.specs.declared.error.TokenError.{TokenError}
use Rattle.py_tokens.specs.declared.error.TokenError.TheVariants as error
use Rattle.py_tokens.specs.declared.operator.TheConstants as operator
use Rattle.py_tokens.specs.declared.token.Place.{Place}
use Rattle.py_tokens.specs.declared.token.Token.{Token}
use Rattle.py_tokens.specs.declared.token.TokenKind.TheVariants as k
use Rattle.py_tokens.specs.declared.word.Word.{Word}
use Rattle.py_tokens.specs.declared.word.Word.TheVariants.{Blank, Comment, Joint, LineEnd, Opens, Closes, Plain}
use Rattle.py_tokens.specs.Place.{place, place_of, token_at}
use Rattle.py_tokens.specs.Classes.{holds, next_is, after}
use Rattle.py_tokens.specs.Numbers.{Read, ten, number_at}
use Rattle.py_tokens.specs.Strings.{prefix, string_at}
use Rattle.py_tokens.specs.Names.{name_at, operator_at}
use Rattle.py_tokens.specs.Tables.{operators}

abbrev pub Piece : Type 0
Piece = Result (Word × List Character) Refusal

-- the place that begins with c and ends before the rest, in a text of this size
abbrev pub place_before : ℕ → Character → List Character → Place
place_before size c [] = place c.from size c.line
place_before size c (d ∷ ds) = place c.from d.from c.line

abbrev pub token_word : ℕ → Character → Read → Piece
token_word size c (Ok r) = Ok (Plain (token_at r.0 (place_before size c r.1)), r.1)
token_word size c (Err e) = Err e

abbrev pub is_opening : ℕ → Bool
is_opening n = n == operator.OPEN_ROUND || n == operator.OPEN_SQUARE || n == operator.OPEN_BRACE

abbrev pub is_closing : ℕ → Bool
is_closing n = n == operator.CLOSE_ROUND || n == operator.CLOSE_SQUARE || n == operator.CLOSE_BRACE

abbrev pub bracketed : ℕ → Token → Word
bracketed n t = if is_opening n then Opens t else (if is_closing n then Closes t else Plain t)

-- the operator that was found at the front, if any
abbrev pub operator_word : ℕ → Character → List Character → Option (ℕ × ℕ) → Piece
operator_word size c all None = Err (BadCharacter c.line)
operator_word size c all (Some o) = Ok (
  bracketed o.0 (token_at (k.Op o.0) (place_before size c (drop o.1 all))),
  drop o.1 all,
)

-- A backslash joins two lines only right before a line end.
abbrev pub joint : Character → List Character → Piece
joint c cs = if next_is (Byte 10) cs then Ok (Joint (place_of c), drop 1 cs) else Err (BadCharacter c.line)

-- the token at the front of these characters, of which c is the first and cs are the others
abbrev pub token_front : ℕ → Character → List Character → List Character → Piece
token_front size c cs all =
    if holds NameStart c.byte then token_word size c (name_at c.line all) else
    (if holds Quote c.byte then token_word size c (string_at c.line (prefix false false) all) else
    (if holds ten c.byte || (c.byte == 46 && next_is ten cs) then token_word size c (number_at c.line all) else
    operator_word size c all (operator_at operators all)))

-- the word at the front of the characters, of a text of this size
unfoldable pub word_at : ℕ → List Character → Piece
word_at size [] = Ok (Comment, [])
word_at size (c ∷ cs) =
    if c.byte == 10 then Ok (LineEnd (place_of c), cs) else
    (if holds class.Blank c.byte then Ok (Blank c.byte, cs) else
    (if c.byte == 35 then Ok (Comment, after InLine cs) else
    (if c.byte == 92 then joint c cs else token_front size c cs (c ∷ cs))))

-- the words of a text, and what it is refused for
pub record Cut : Type 0 where
  pub words : List Word
  pub stop : Option Refusal

abbrev pub with_word : Word → Cut → Cut
with_word w c = record { words = w ∷ c.words; stop = c.stop }

-- Where no rule continues, a token (a name without bytes) stands for the rest, so that its indentation counts.
abbrev pub cut_more : Character → (List Character → Cut) → Piece → Cut
cut_more c rest (Ok p) = with_word p.0 (rest p.1)
cut_more c rest (Err e) = record { words = Plain (token_at (k.Name []) (place_of c)) ∷ []; stop = Some e }

-- The first number bounds the words: each takes a character, so the count of characters is enough.
unfoldable pub cut : ℕ → ℕ → List Character → Cut
cut zero size cs = record { words = []; stop = None }
cut (suc n) size [] = record { words = []; stop = None }
cut (suc n) size (c ∷ cs) = cut_more c (cut n size) (word_at size (c ∷ cs))

-- Further turns give no further words: no part of the text is left out.
abbrev pub IsWhole : ℕ → List Character → Type 0
IsWhole size cs = (n : ℕ) → cut (length cs + n) size cs ≡ cut (length cs) size cs

-- ---- contracts

-- what the code reads at the front, where `view` gives the rest as a list
abbrev pub Reads : {W X : Type 0} → (X → List Character) → Result (W × X) TokenError →
    Result (W × List Character) Refusal → Type 0
Reads view (Ok p) r = r ≡ Ok (p.0, view p.1)
Reads view (Err (error.Refused e)) r = r ≡ Err e
Reads view (Err error.OutOfMemory) r = Unit {0}
