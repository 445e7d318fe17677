-- On which lines the tokens of a text stand, and what the tokens of a line are.
use Rattle.std.proofs.Common.{ℕ, ◌+◌, ◌≤◌, List, [], ◌∷◌, ◌++◌, arith}
use Rattle.py_tokens.specs.declared.token.Token.{Token}
use Rattle.py_tokens.specs.declared.token.TokenKind.{TokenKind}
use Rattle.py_tokens.specs.declared.token.TokenKind.TheVariants.{Name, Keyword, Int, Str, Op, Newline, Indent, Dedent, End, Other}
use Rattle.py_tree.specs.inner.Laid.{IsWord}

-- a token of this kind on this line, from a line on: what holds of the tokens that follow
abbrev pub lined_kind : TokenKind → ℕ → ℕ → (ℕ → Type 0) → Type 0
lined_kind Newline at line rest = (line ≤ at) × rest (at + 1)
lined_kind Indent at line rest = rest line
lined_kind Dedent at line rest = rest line
lined_kind End at line rest = rest line
lined_kind (Name bs) at line rest = (line ≤ at) × rest at
lined_kind (Keyword n) at line rest = (line ≤ at) × rest at
lined_kind (Int n) at line rest = (line ≤ at) × rest at
lined_kind (Str bs) at line rest = (line ≤ at) × rest at
lined_kind (Op n) at line rest = (line ≤ at) × rest at
lined_kind (Other o) at line rest = (line ≤ at) × rest at

-- Lines don't fall, and rise at a Newline: from this line on.
abbrev pub IsLined : ℕ → List Token → Type 0
IsLined line [] = Unit {0}
IsLined line (t ∷ ts) = lined_kind t.kind t.line line (λ n. IsLined n ts)

-- a token of a text: those that stand in a line are as texts have them
abbrev pub IsKept : TokenKind → Type 0
IsKept Newline = Unit {0}
IsKept Indent = Unit {0}
IsKept Dedent = Unit {0}
IsKept End = Unit {0}
IsKept (Name bs) = IsWord (Name bs)
IsKept (Keyword n) = IsWord (Keyword n)
IsKept (Int n) = IsWord (Int n)
IsKept (Str bs) = IsWord (Str bs)
IsKept (Op n) = IsWord (Op n)
IsKept (Other o) = Unit {0}

abbrev pub AllKept : List Token → Type 0
AllKept [] = Unit {0}
AllKept (t ∷ ts) = IsKept t.kind × AllKept ts

le_kind : (kind : TokenKind) (at a b : ℕ) (rest : ℕ → Type 0) → a ≤ b → ((c d : ℕ) → c ≤ d → rest d → rest c) →
    lined_kind kind at b rest → lined_kind kind at a rest
le_kind Newline at a b rest h f g = (let q : b ≤ at = g.0 in omega arith, g.1)
le_kind Indent at a b rest h f g = f a b h g
le_kind Dedent at a b rest h f g = f a b h g
le_kind End at a b rest h f g = f a b h g
le_kind (Name bs) at a b rest h f g = (let q : b ≤ at = g.0 in omega arith, g.1)
le_kind (Keyword n) at a b rest h f g = (let q : b ≤ at = g.0 in omega arith, g.1)
le_kind (Int n) at a b rest h f g = (let q : b ≤ at = g.0 in omega arith, g.1)
le_kind (Str bs) at a b rest h f g = (let q : b ≤ at = g.0 in omega arith, g.1)
le_kind (Op n) at a b rest h f g = (let q : b ≤ at = g.0 in omega arith, g.1)
le_kind (Other o) at a b rest h f g = (let q : b ≤ at = g.0 in omega arith, g.1)

pub lined_le : (ts : List Token) (a b : ℕ) → a ≤ b → IsLined b ts → IsLined a ts
lined_le [] a b h g = tt
lined_le (t ∷ ts) a b h g = le_kind t.kind t.line a b (λ n. IsLined n ts) h (λ c d. lined_le ts c d) g

drop_kind : (kind : TokenKind) (at a : ℕ) (rest : ℕ → Type 0) → ((c d : ℕ) → c ≤ d → rest d → rest c) →
    lined_kind kind at a rest → rest a
drop_kind Newline at a rest f g = let q : a ≤ at = g.0 in f a (at + 1) (omega arith) g.1
drop_kind Indent at a rest f g = g
drop_kind Dedent at a rest f g = g
drop_kind End at a rest f g = g
drop_kind (Name bs) at a rest f g = f a at g.0 g.1
drop_kind (Keyword n) at a rest f g = f a at g.0 g.1
drop_kind (Int n) at a rest f g = f a at g.0 g.1
drop_kind (Str bs) at a rest f g = f a at g.0 g.1
drop_kind (Op n) at a rest f g = f a at g.0 g.1
drop_kind (Other o) at a rest f g = f a at g.0 g.1

pub lined_tail : (t : Token) (ts : List Token) (a : ℕ) → IsLined a (t ∷ ts) → IsLined a ts
lined_tail t ts a g = drop_kind t.kind t.line a (λ n. IsLined n ts) (λ c d. lined_le ts c d) g

-- what follows some tokens
pub lined_after : (ts us : List Token) (a : ℕ) → IsLined a (ts ++ us) → IsLined a us
lined_after [] us a g = g
lined_after (t ∷ ts) us a g = lined_after ts us a (lined_tail t (ts ++ us) a g)

pub kept_front : (ts us : List Token) → AllKept (ts ++ us) → AllKept ts
kept_front [] us k = tt
kept_front (t ∷ ts) us k = (k.0, kept_front ts us k.1)

pub kept_after : (ts us : List Token) → AllKept (ts ++ us) → AllKept us
kept_after [] us k = k
kept_after (t ∷ ts) us k = kept_after ts us k.1
