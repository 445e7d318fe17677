-- How lexemes are written. States `docs/LANGUAGE.md`, "The canonical text".
use Rattle.std.specs.Prelude.{ℕ, zero, suc, ◌+◌, ◌-◌, ◌==◌, Bool, true, false, if◌then◌else◌, List, [], ◌∷◌, ◌++◌, replicate}
use Rattle.std.specs.Fmt.{signed_decimal}
use Rattle.py_text.specs.Repr.{repr_of}
use Rattle.py_tokens.specs.declared.token.TokenKind.{TokenKind}
use Rattle.py_tokens.specs.declared.token.TokenKind.TheVariants.{Name, Keyword, Int, Str, Op, Newline, Indent, Dedent, End}
use Rattle.py_tokens.specs.Tables.{keywords, operators}
use Rattle.py_tree.specs.Lexeme.{Lexeme}

-- ---- single tokens

-- the first word of a table with this number
abbrev pub word_of : List (List ℕ × ℕ) → ℕ → List ℕ
word_of [] n = []
word_of (w ∷ ws) n = if w.1 == n then w.0 else word_of ws n

abbrev pub spelling : TokenKind → List ℕ
spelling (Name bs) = bs
spelling (Keyword n) = word_of keywords n
spelling (Int n) = signed_decimal n
spelling (Str bs) = repr_of bs
spelling (Op n) = word_of operators n
spelling _ = []

-- ---- lines

-- the line that is written on, how many blocks are open, and whether the line has nothing yet
pub record Pen : Type 0 where
  pub line : ℕ
  pub depth : ℕ
  pub fresh : Bool

abbrev pub pen : ℕ → ℕ → Bool → Pen
pen line depth fresh = record { line = line; depth = depth; fresh = fresh }

-- so many line ends after backslashes
abbrev pub joints : ℕ → List ℕ
joints zero = []
joints (suc n) = 92 ∷ 10 ∷ joints n

-- What leads to a word on this line: before a logical line empty lines, and a space for each open block; within it line
-- ends after backslashes.
abbrev pub gap : Pen → ℕ → List ℕ
gap p line = if p.fresh then replicate (line - p.line) 10 ++ replicate p.depth 32 else joints (line - p.line)

-- a space follows each word
abbrev pub worded : Pen → ℕ → List ℕ → List ℕ
worded p line bytes = gap p line ++ bytes ++ 32 ∷ []

abbrev pub mark : Pen → Lexeme → List ℕ
mark p l = marked l.kind
  where
    marked : TokenKind → List ℕ
    marked Newline = 10 ∷ []
    marked Indent = []
    marked Dedent = []
    marked End = []
    marked kind = worded p l.line (spelling kind)

abbrev pub moved : Pen → Lexeme → Pen
moved p l = after l.kind
  where
    after : TokenKind → Pen
    after Newline = pen (p.line + 1) p.depth true
    after Indent = pen p.line (p.depth + 1) p.fresh
    after Dedent = pen p.line (p.depth - 1) p.fresh
    after End = p
    after kind = pen l.line p.depth false

-- what is written from here on, and where the pen stands afterwards
abbrev pub written : Pen → List Lexeme → List ℕ
written p [] = []
written p (l ∷ ls) = mark p l ++ written (moved p l) ls

abbrev pub moved_by : Pen → List Lexeme → Pen
moved_by p [] = p
moved_by p (l ∷ ls) = moved_by (moved p l) ls

-- before the text's first line
abbrev pub first_pen : Pen
first_pen = pen 1 0 true
