-- What a tree is written with: kinds of tokens, each on its line. States `docs/LANGUAGE.md`, "The canonical text".
use Rattle.std.specs.Prelude.{ℕ}
use Rattle.py_tokens.specs.declared.token.Token.{Token}
use Rattle.py_tokens.specs.declared.token.TokenKind.{TokenKind}
use Rattle.py_tokens.specs.declared.token.TokenKind.TheVariants.{Newline, Indent, Dedent, End}

pub record Lexeme : Type 0 where
  pub kind : TokenKind
  pub line : ℕ

abbrev pub lexeme : TokenKind → ℕ → Lexeme
lexeme kind line = record { kind = kind; line = line }

-- the line of a token, which the kinds that lay lines out haven't
abbrev pub line_kept : TokenKind → ℕ → ℕ
line_kept Newline line = 0
line_kept Indent line = 0
line_kept Dedent line = 0
line_kept End line = 0
line_kept _ line = line

-- a token without its place, but for its line
abbrev pub lexeme_of : Token → Lexeme
lexeme_of t = lexeme t.kind (line_kept t.kind t.line)
