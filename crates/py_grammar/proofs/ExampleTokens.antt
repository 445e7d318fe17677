-- Tokens by hand, and what is told of reading them.
use Rattle.std.proofs.Common.{ℕ, zero, suc, ◌+◌, List, [], ◌∷◌, Result, Ok, Err}
use Rattle.py_tokens.specs.declared.token.Token.{Token}
use Rattle.py_tokens.specs.declared.token.TokenKind.{TokenKind}
use Rattle.py_tokens.specs.declared.token.Place.{Place}
use Rattle.py_tokens.specs.Place.{token_at as at}
use Rattle.py_tree.specs.declared.expr.Trailer.TheVariants as t
use Rattle.py_grammar.specs.declared.fault.Fault.{Fault}
use Rattle.py_grammar.specs.inner.Reading.{Reads}

abbrev place : ℕ → Place
place l = record { from = 0; to = 0; line = l }

-- a token on line 1
abbrev pub tk : TokenKind → Token
tk kind = at kind (place 1)

-- so many of a token before the others
abbrev pub many : ℕ → Token → List Token → List Token
many zero t us = us
many (suc n) t us = t ∷ many n t us

abbrev length' : {A : Type 0} → List A → ℕ
length' [] = 0
length' (y ∷ ys) = length' ys + 1

-- how many tokens are left, and what the first of them is refused for
abbrev pub told : {A : Type 0} → Reads A → Result ℕ (Fault × ℕ)
told (Ok v) = Ok (length' v.1)
told (Err v) = Err (v.0, length' v.1)
