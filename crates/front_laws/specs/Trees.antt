-- The tree of a text. States `docs/LANGUAGE.md`, "From a text to its program".
use Rattle.std.specs.Prelude.{◌≡◌, ℕ, ◌≤◌, List, Ok}
use Rattle.py_tokens.specs.declared.token.Token.{Token}
use Rattle.py_tokens.specs.Layout.{tokens_of_text}
use Rattle.py_tree.specs.declared.stmt.Module.{Module}
use Rattle.py_tree.specs.Tall.{tall_module}
use Rattle.py_grammar.specs.Statements.{IsModule}

-- the text's tokens have this tree, of a height of at most 100
pub record IsTree (text : List ℕ) (tree : Module) : Type 0 where
  pub tokens : List Token
  pub are : tokens_of_text text ≡ Ok tokens
  pub is : IsModule tree tokens
  pub low : tall_module tree ≤ 100
