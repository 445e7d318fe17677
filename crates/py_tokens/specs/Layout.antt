-- From the words of a text to its tokens, by logical lines and the indentation stack. States `docs/LANGUAGE.md`,
-- "Lines" and "Indentation".
use Rattle.std.specs.Prelude.{ℕ, ◌+◌, ◌-◌, ◌*◌, ◌/◌, nat_lt, ◌==◌, if◌then◌else◌, List, [], ◌∷◌, ◌++◌, length, Option, Some, None, Result, Ok, Err}
use Rattle.py_base.specs.declared.refusal.Refusal.{Refusal}
use Rattle.py_base.specs.declared.refusal.Refusal.TheVariants.{BadDedent}
use Rattle.py_tokens.specs.declared.character.Character.{Character}
use Rattle.py_tokens.specs.declared.token.Place.{Place}
use Rattle.py_tokens.specs.declared.token.Token.{Token}
use Rattle.py_tokens.specs.declared.token.TokenKind.TheVariants as k
use Rattle.py_tokens.specs.declared.word.Word.{Word}
use Rattle.py_tokens.specs.declared.word.Word.TheVariants.{Blank, Comment, Joint, LineEnd, Opens, Closes, Plain}
use Rattle.py_tokens.specs.Place.{place, token_at, before_place, before_token}
use Rattle.py_tokens.specs.Characters.{last_line, text_characters}
use Rattle.py_tokens.specs.Words.{cut}

-- ---- logical lines

-- Line ends inside brackets join lines. Each closing bracket closes one level, whatever its kind, where one is open.
abbrev pub joined : ℕ → List Word → List Word
joined depth [] = []
joined depth (Opens t ∷ ws) = Opens t ∷ joined (depth + 1) ws
joined depth (Closes t ∷ ws) = Closes t ∷ joined (depth - 1) ws
joined depth (LineEnd p ∷ ws) = if depth == 0 then LineEnd p ∷ joined 0 ws else joined depth ws
joined depth (Blank b ∷ ws) = Blank b ∷ joined depth ws
joined depth (Comment ∷ ws) = Comment ∷ joined depth ws
joined depth (Joint p ∷ ws) = Joint p ∷ joined depth ws
joined depth (Plain t ∷ ws) = Plain t ∷ joined depth ws

-- a logical line, and the place of its end
pub record Line : Type 0 where
  pub words : List Word
  pub end : Place

-- one or more lines
abbrev pub Lines : Type 0
Lines = Line × List Line

abbrev pub longer : Word → Lines → Lines
longer w ls = (record { words = w ∷ ls.0.words; end = ls.0.end }, ls.1)

-- The last line ends at the text's end, where it has no line end.
abbrev pub lines : Place → List Word → Lines
lines last [] = (record { words = []; end = last }, [])
lines last (LineEnd p ∷ ws) = (record { words = []; end = p }, (lines last ws).0 ∷ (lines last ws).1)
lines last (Blank b ∷ ws) = longer (Blank b) (lines last ws)
lines last (Comment ∷ ws) = longer Comment (lines last ws)
lines last (Joint p ∷ ws) = longer (Joint p) (lines last ws)
lines last (Opens t ∷ ws) = longer (Opens t) (lines last ws)
lines last (Closes t ∷ ws) = longer (Closes t) (lines last ws)
lines last (Plain t ∷ ws) = longer (Plain t) (lines last ws)

abbrev pub tokens_in : List Word → List Token
tokens_in [] = []
tokens_in (Opens t ∷ ws) = t ∷ tokens_in ws
tokens_in (Closes t ∷ ws) = t ∷ tokens_in ws
tokens_in (Plain t ∷ ws) = t ∷ tokens_in ws
tokens_in (Blank b ∷ ws) = tokens_in ws
tokens_in (Comment ∷ ws) = tokens_in ws
tokens_in (Joint p ∷ ws) = tokens_in ws
tokens_in (LineEnd p ∷ ws) = tokens_in ws

-- ---- indentation

-- A space adds 1, a tab moves to the next multiple of eight, a form feed sets 0.
abbrev pub after_blank : ℕ → ℕ → ℕ
after_blank column b = if b == 9 then (column / 8 + 1) * 8 else (if b == 12 then 0 else column + 1)

-- the column after the blanks at a line's start; only a line end follows a comment
abbrev pub column_after : ℕ → List Word → ℕ
column_after column (Blank b ∷ ws) = column_after (after_blank column b) ws
column_after column (Comment ∷ ws) = column_after column ws
column_after column _ = column

-- the joint before a line's first token, the first of several
abbrev pub first_joint : List Word → Option Place
first_joint (Blank b ∷ ws) = first_joint ws
first_joint (Comment ∷ ws) = first_joint ws
first_joint (Joint p ∷ ws) = Some p
first_joint _ = None

-- Where a line begins, behind its blanks: before that joint, if there is one, and else before its first token. So this
-- place stands on the line on which the logical line begins.
abbrev pub before_line : Option Place → Token → Place
before_line (Some p) t = before_place p
before_line None t = before_token t

-- the tokens of a text, or why it has none
abbrev pub Laid : Type 0
Laid = Result (List Token) Refusal

abbrev pub before : List Token → Laid → Laid
before ts (Ok us) = Ok (ts ++ us)
before ts (Err e) = Err e

-- Entries above the column are popped, each with a Dedent; the next must equal it.
abbrev pub popped : Place → ℕ → List ℕ → (List ℕ → Laid) → Laid
popped p column [] rest = Err (BadDedent p.line)
popped p column (e ∷ stack) rest =
    if column == e then rest (e ∷ stack) else
    (if nat_lt e column then Err (BadDedent p.line) else before (token_at k.Dedent p ∷ []) (popped p column stack rest))

-- A greater column is pushed, and gives Indent.
abbrev pub indented : Place → ℕ → List ℕ → (List ℕ → Laid) → Laid
indented p column [] rest = Err (BadDedent p.line)
indented p column (e ∷ stack) rest =
    if nat_lt e column then before (token_at k.Indent p ∷ []) (rest (column ∷ e ∷ stack)) else popped p column
    (e ∷ stack) rest

-- the open Dedents and End
abbrev pub closing : Place → List ℕ → List Token
closing last [] = token_at k.End last ∷ []
closing last (e ∷ []) = token_at k.End last ∷ []
closing last (e ∷ f ∷ stack) = token_at k.Dedent last ∷ closing last (f ∷ stack)

-- what comes after the last line: the end, or what the text is refused for
abbrev pub ending : Place → Option Refusal → List ℕ → Laid
ending last None stack = Ok (closing last stack)
ending last (Some e) stack = Err e

-- One line at this column, behind this joint, if any: its indentation, its tokens and Newline. One without tokens
-- gives none.
abbrev pub line_laid : ℕ → Option Place → List Token → Place → List ℕ → (List ℕ → Laid) → Laid
line_laid column joint [] end stack rest = rest stack
line_laid column joint (t ∷ ts) end stack rest =
    indented (before_line joint t) column stack (λ s. before ((t ∷ ts) ++ token_at k.Newline end ∷ []) (rest s))

abbrev pub lines_laid : Place → Option Refusal → List ℕ → List Line → Laid
lines_laid last stop stack [] = ending last stop stack
lines_laid last stop stack (l ∷ ls) =
    line_laid (column_after 0 l.words) (first_joint l.words) (tokens_in l.words) l.end stack
    (λ s. lines_laid last stop s ls)

unfoldable pub laid : Place → Option Refusal → List Word → Laid
laid last stop ws = let ls = lines last (joined 0 ws) in lines_laid last stop (0 ∷ []) (ls.0 ∷ ls.1)

-- the tokens of these characters, of a text of this size
unfoldable pub lexed : ℕ → List Character → Laid
lexed size cs = let c = cut (length cs) size cs in laid (place size size (last_line 1 cs)) c.stop c.words

-- the tokens of a text, or the earliest place where no rule continues
unfoldable pub tokens_of_text : List ℕ → Laid
tokens_of_text text = lexed (length text) (text_characters text)
