-- What code and proofs say to each other: nothing public rests on it.
-- What a writer has after lexemes: their text, and where its pen stands. States `docs/LANGUAGE.md`, "The canonical
-- text".
use Rattle.std.specs.Prelude.{ℕ, Bool, true, false, List, [], ◌∷◌, ◌++◌}
use Rattle.py_tokens.specs.declared.operator.TheConstants as operator
use Rattle.py_tokens.specs.declared.token.TokenKind.TheVariants.{Op}
use Rattle.py_tree.specs.declared.writer.Writer.{Writer}
use Rattle.py_tree.specs.Lexeme.{Lexeme, lexeme}
use Rattle.py_tree.specs.Spelling.{Words, led, commas}
use Rattle.py_tree.specs.Writing.{Pen, pen, worded, mark, moved}

abbrev pub pen_of : Writer → Pen
pen_of w = pen w.line w.depth w.fresh

-- a word of these bytes on a line
abbrev pub with_word : Writer → ℕ → List ℕ → Writer
with_word w line bytes = record w { text = w.text ++ worded (pen_of w) line bytes; line = line; fresh = false }

-- after one more lexeme
unfoldable pub put : Writer → Lexeme → Writer
put w l = let p = moved (pen_of w) l in record w {
  text = w.text ++ mark (pen_of w) l;
  line = p.line;
  depth = p.depth;
  fresh = p.fresh;
}

abbrev pub put_all : Writer → List Lexeme → Writer
put_all w [] = w
put_all w (l ∷ ls) = put_all (put w l) ls

-- after these words on a line
abbrev pub spell : ℕ → Writer → Words → Writer
spell line w [] = w
spell line w (k ∷ ks) = spell line (put w (lexeme k line)) ks

-- a comma, if it is needed
abbrev pub comma_if : Bool → Words
comma_if true = Op operator.COMMA ∷ []
comma_if false = []

-- with commas between them, and one before the first if it is wanted there
abbrev pub listed : Bool → List Words → Words
listed true wss = led (Op operator.COMMA) wss
listed false wss = commas wss
