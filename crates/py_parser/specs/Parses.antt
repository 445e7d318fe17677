-- What a call of the parser answers for a list of tokens. States `docs/LANGUAGE.md`, "Grammar", "Height" and "What is
-- refused".
use Rattle.std.specs.Prelude.{◌≡◌, ℕ, ◌≤◌, List, Result, Ok, Err}
use Rattle.py_tokens.specs.declared.token.Token.{Token}
use Rattle.py_tree.specs.declared.stmt.Module.{Module}
use Rattle.py_tree.specs.Tall.{tall_module}
use Rattle.py_atoms.specs.declared.error.ParseError.{ParseError}
use Rattle.py_atoms.specs.declared.error.ParseError.TheVariants.{Refused, OutOfMemory}
use Rattle.py_grammar.specs.declared.fault.Fault.{Fault}
use Rattle.py_grammar.specs.Statements.{IsModule}
use Rattle.py_grammar.specs.Refused.{refusal_of, RefusedAt}

-- the answer is a module of these tokens and of a height of at most 100, or says where and why there is none
abbrev pub Answers : List Token → Result Module ParseError → Type 0
Answers ts (Ok m) = IsModule m ts × (tall_module m ≤ 100)
Answers ts (Err OutOfMemory) = Unit {0}
Answers ts (Err (Refused r)) = (f : Fault) × (line : ℕ) × (r ≡ refusal_of f line) × RefusedAt ts f line

-- what is answered where this is the module
abbrev pub Accepts : Module → Result Module ParseError → Type 0
Accepts m (Ok x) = x ≡ m
Accepts m (Err OutOfMemory) = Unit {0}
Accepts m (Err (Refused r)) = ⊥

-- and every such module is the answer
abbrev pub Parses : List Token → Result Module ParseError → Type 0
Parses ts result = Answers ts result × ((m : Module) → IsModule m ts → tall_module m ≤ 100 → Accepts m result)
