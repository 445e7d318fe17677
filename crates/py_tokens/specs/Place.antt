-- Where a token stands. States `docs/LANGUAGE.md`, "Lines".
use Rattle.std.specs.Prelude.{ℕ}
use Rattle.py_tokens.specs.declared.character.Character.{Character}
use Rattle.py_tokens.specs.declared.token.Place.{Place}
use Rattle.py_tokens.specs.declared.token.Token.{Token}
use Rattle.py_tokens.specs.declared.token.TokenKind.{TokenKind}

abbrev pub place : ℕ → ℕ → ℕ → Place
place from to line = record { from = from; to = to; line = line }

-- a token of this kind, at some place
abbrev pub token_at : TokenKind → Place → Token
token_at kind p = record { kind = kind; from = p.from; to = p.to; line = p.line }

-- the empty place before a part of the text, and before a token
abbrev pub before_place : Place → Place
before_place p = place p.from p.from p.line

abbrev pub before_token : Token → Place
before_token t = place t.from t.from t.line

abbrev pub place_of : Character → Place
place_of c = place c.from c.to c.line
