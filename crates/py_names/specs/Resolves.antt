-- What `resolve` answers. States `docs/LANGUAGE.md`, "Names and their scopes".
use Rattle.std.specs.Prelude.{◌≡◌, List, Result, Ok, Err, Some, None}
use Rattle.py_tree.specs.declared.stmt.Module.{Module}
use Rattle.py_names.specs.declared.error.NameFault.{NameFault}
use Rattle.py_names.specs.declared.error.NameFault.TheVariants.{Refused, OutOfMemory}
use Rattle.py_names.specs.declared.scope.Scope.{Scope}
use Rattle.py_names.specs.Outline.{outline}
use Rattle.py_names.specs.Scopes.{AreScopes, fault}

-- The scopes of all bodies where no place is refused, and else the earliest refused place; want of memory is free.
abbrev pub Resolves : Module → Result (List Scope) NameFault → Type 0
Resolves m (Ok scopes) = (fault (outline m) ≡ None) × AreScopes (outline m) scopes
Resolves m (Err (Refused r)) = fault (outline m) ≡ Some r
Resolves m (Err OutOfMemory) = Unit {0}
