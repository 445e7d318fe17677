-- What `compile` answers. States `docs/LANGUAGE.md`, "Code of a tree".
use Rattle.std.specs.Prelude.{◌≡◌, ℕ, List, map, option_map, Some, None, Result, Ok, Err}
use Rattle.py_base.specs.declared.refusal.Refusal.TheVariants.{TooLarge}
use Rattle.py_code.specs.declared.program.Program.{Program}
use Rattle.py_tree.specs.declared.stmt.Module.{Module}
use Rattle.py_names.specs.declared.scope.Scope.{Scope}
use Rattle.py_templates.specs.declared.error.CompileError.{CompileError}
use Rattle.py_templates.specs.declared.error.CompileError.TheVariants.{Refused, OutOfMemory}
use Rattle.py_templates.specs.Whole.{program_of, too_large_in}

-- the names that the bodies bind
abbrev pub bound_in : List Scope → List (List (List ℕ))
bound_in scopes = map (λ s. s.locals) scopes

-- The program where nothing is too large, and else its line; want of memory is free.
abbrev pub Compiles : Module → List Scope → Result Program CompileError → Type 0
Compiles m scopes (Ok p) = (too_large_in (bound_in scopes) m ≡ None) × (p ≡ program_of (bound_in scopes) m)
Compiles m scopes (Err (Refused r)) = option_map TooLarge (too_large_in (bound_in scopes) m) ≡ Some r
Compiles m scopes (Err OutOfMemory) = Unit {0}
