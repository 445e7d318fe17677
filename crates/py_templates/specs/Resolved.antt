-- What `compile` asks of a tree and its scopes. States `docs/LANGUAGE.md`, "Grammar" and "Names and their scopes".
use Rattle.std.specs.Prelude.{List, Ok}
use Rattle.py_tokens.specs.declared.token.Token.{Token}
use Rattle.py_tree.specs.declared.stmt.Module.{Module}
use Rattle.py_grammar.specs.Statements.{IsModule}
use Rattle.py_names.specs.declared.scope.Scope.{Scope}
use Rattle.py_names.specs.Resolves.{Resolves}

-- the tree of some text, whose bodies have these scopes
pub record IsResolved (m : Module) (scopes : List Scope) : Type 0 where
  pub tokens : List Token
  pub is : IsModule m tokens
  pub resolves : Resolves m (Ok scopes)
