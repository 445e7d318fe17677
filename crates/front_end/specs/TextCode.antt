-- The program of a text, or why it has none. States `docs/LANGUAGE.md`, "From a text to its program".
use Rattle.std.specs.Prelude.{◌≡◌, ℕ, ◌⊎◌, List, Some, None, option_map, Ok, Err}
use Rattle.py_base.specs.declared.refusal.Refusal.{Refusal}
use Rattle.py_base.specs.declared.refusal.Refusal.TheVariants.{TooLarge}
use Rattle.py_tokens.specs.declared.token.Token.{Token}
use Rattle.py_tokens.specs.Layout.{tokens_of_text}
use Rattle.py_tree.specs.declared.stmt.Module.{Module}
use Rattle.py_grammar.specs.declared.fault.Fault.{Fault}
use Rattle.py_grammar.specs.Refused.{refusal_of, RefusedAt}
use Rattle.front_laws.specs.Trees.{IsTree}
use Rattle.py_names.specs.Outline.{outline}
use Rattle.py_names.specs.declared.scope.Scope.{Scope}
use Rattle.py_names.specs.Scopes.{AreScopes, fault}
use Rattle.py_code.specs.declared.program.Program.{Program}
use Rattle.py_templates.specs.Compiles.{bound_in}
use Rattle.py_templates.specs.Whole.{program_of, too_large_in}
use Rattle.front_end.specs.declared.text_code.TextFault.{TextFault}
use Rattle.front_end.specs.declared.text_code.TextFault.TheVariants.{Refused, OutOfMemory}

-- ---- the tree
-- the text's tokens have no tree of a height of at most 100, and are refused where that shows first
pub record HasNoTree (text : List ℕ) (refusal : Refusal) : Type 0 where
  pub tokens : List Token
  pub are : tokens_of_text text ≡ Ok tokens
  pub fault : Fault
  pub line : ℕ
  pub is : refusal ≡ refusal_of fault line
  pub refused : RefusedAt tokens fault line

-- ---- the scopes
-- it has a tree whose bodies have these scopes, since no name and no statement is refused in it
pub record HasScopes (text : List ℕ) (tree : Module) (scopes : List Scope) : Type 0 where
  pub is : IsTree text tree
  pub allowed : fault (outline tree) ≡ None
  pub are : AreScopes (outline tree) scopes

-- it has a tree in which a name or a statement is refused, where that shows first
pub record HasNoScopes (text : List ℕ) (refusal : Refusal) : Type 0 where
  pub tree : Module
  pub is : IsTree text tree
  pub refused : fault (outline tree) ≡ Some refusal

-- ---- the program
-- it has scopes, nothing in its program is too large, and this is its program
pub record HasCode (text : List ℕ) (program : Program) : Type 0 where
  pub tree : Module
  pub scopes : List Scope
  pub has : HasScopes text tree scopes
  pub fits : too_large_in (bound_in scopes) tree ≡ None
  pub is : program ≡ program_of (bound_in scopes) tree

-- it has scopes, and something in its program is too large, with the least line
pub record HasNoCode (text : List ℕ) (refusal : Refusal) : Type 0 where
  pub tree : Module
  pub scopes : List Scope
  pub has : HasScopes text tree scopes
  pub refused : option_map TooLarge (too_large_in (bound_in scopes) tree) ≡ Some refusal

-- why it has no program: it has no tokens; or they have no tree; or that has no scopes, or no code
abbrev pub IsRefused : List ℕ → Refusal → Type 0
IsRefused text refusal = (tokens_of_text text ≡ Err refusal) ⊎
    (HasNoTree text refusal ⊎ (HasNoScopes text refusal ⊎ HasNoCode text refusal))

-- the cause of each fault of `compile_text`; want of memory is free
abbrev pub IsFault : List ℕ → TextFault → Type 0
IsFault text (Refused refusal) = IsRefused text refusal
IsFault text OutOfMemory = Unit {0}
