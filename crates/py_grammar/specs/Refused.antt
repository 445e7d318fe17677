-- Where a list of tokens without a tree is refused. States `docs/LANGUAGE.md`, "What is refused".
use Rattle.std.specs.Prelude.{◌≡◌, ℕ, ◌≤◌, ◌⊎◌, List, [], ◌∷◌, ◌++◌, Some}
use Rattle.py_tokens.specs.declared.token.Token.{Token}
use Rattle.py_tokens.specs.declared.token.TokenKind.TheVariants as k
use Rattle.py_tree.specs.declared.stmt.Module.{Module}
use Rattle.py_tree.specs.declared.stmt.Stmt.{Stmt}
use Rattle.py_tree.specs.Tall.{tall_module}
use Rattle.py_base.specs.declared.refusal.Construct.{Construct}
use Rattle.py_base.specs.declared.refusal.Refusal.{Refusal}
use Rattle.py_base.specs.declared.refusal.Refusal.TheVariants as refusal
use Rattle.py_grammar.specs.declared.fault.Fault.{Fault}
use Rattle.py_grammar.specs.declared.fault.Fault.TheVariants.{Unexpected, LeftOut, Deep}
use Rattle.py_grammar.specs.Statements.{IsModule, Body}

-- the refusal of a token for a reason, with the token's line
abbrev pub refusal_of : Fault → ℕ → Refusal
refusal_of Unexpected line = refusal.Unexpected line
refusal_of (LeftOut c) line = refusal.LeftOut c line
refusal_of Deep line = refusal.Deep line

-- some module, of a height of at most d, begins with these tokens
abbrev pub Begins : ℕ → List Token → Type 0
Begins d ts = (m : Module) × (more : List Token) × IsModule m (ts ++ more) × (tall_module m ≤ d)

-- some module in which the construct c is allowed begins with these tokens
abbrev pub BeginsWith : Construct → List Token → Type 0
BeginsWith c ts = (ss : List Stmt) × (more : List Token) × Body (Some c) ss (ts ++ more)

-- no module at all begins with these tokens
abbrev pub NoneBegins : List Token → Type 0
NoneBegins ts = (d : ℕ) → Begins d ts → ⊥

-- what the last of these tokens, with which no module of a height of at most 100 begins, is refused for
abbrev pub Because : Fault → List Token → Type 0
Because Deep ts = (d : ℕ) × Begins d ts
Because (LeftOut c) ts = NoneBegins ts × BeginsWith c ts
Because Unexpected ts = NoneBegins ts × ((c : Construct) → BeginsWith c ts → ⊥)

-- The refused token is the first with which no module of a height of at most 100 begins.
pub record RefusedAt (ts : List Token) (f : Fault) (line : ℕ) : Type 0 where
  pub front : List Token
  pub token : Token
  pub rest : List Token
  pub split : ts ≡ front ++ token ∷ rest
  pub line_is : line ≡ token.line
  pub before : Begins 100 front
  pub here : Begins 100 (front ++ token ∷ []) → ⊥
  pub because : Because f (front ++ token ∷ [])

-- End is the last token, and there is no other.
abbrev pub EndsOnce : List Token → Type 0
EndsOnce [] = ⊥
EndsOnce (t ∷ ts) = ((t.kind ≡ k.End) × (ts ≡ [])) ⊎ ((t.kind ≡ k.End → ⊥) × EndsOnce ts)
