-- What every list of a text's tokens is like. States `docs/LANGUAGE.md`, "Tokens", "Lines" and "Indentation".
use Rattle.std.specs.Prelude.{◌≡◌, ℕ, ◌+◌, ◌-◌, ◌<◌, ◌≤◌, List, [], ◌∷◌}
use Rattle.py_tokens.specs.declared.token.Token.{Token}
use Rattle.py_tokens.specs.declared.token.TokenKind.{TokenKind}
use Rattle.py_tokens.specs.declared.token.TokenKind.TheVariants.{Name, Keyword, Int, Str, Op, Newline, Indent, Dedent, End, Other}

-- what holds after a token of this kind, inside so many indented blocks: of the tokens that follow, at a depth, and of
-- the last one
abbrev pub after_kind : TokenKind → ℕ → (ℕ → Type 0) → Type 0 → Type 0
after_kind Indent depth rest last = rest (depth + 1)
after_kind Dedent depth rest last = (0 < depth) × rest (depth - 1)
after_kind End depth rest last = (depth ≡ 0) × last
after_kind Newline depth rest last = rest depth
after_kind (Name bs) depth rest last = rest depth
after_kind (Keyword n) depth rest last = rest depth
after_kind (Int n) depth rest last = rest depth
after_kind (Str bs) depth rest last = rest depth
after_kind (Op n) depth rest last = rest depth
after_kind (Other o) depth rest last = rest depth

-- Slices of a text of this size, each of which begins where the one before it ends, or later. Each Dedent ends a block
-- that an Indent began. End comes where no block is open, and is the last.
abbrev pub IsStream : ℕ → ℕ → ℕ → List Token → Type 0
IsStream size at depth [] = ⊥
IsStream size at depth (t ∷ ts) = (at ≤ t.from) × (t.from ≤ t.to) × (t.to ≤ size) × after_kind t.kind depth
    (λ d. IsStream size t.to d ts) (ts ≡ [])
