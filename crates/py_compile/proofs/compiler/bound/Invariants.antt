use Rattle.std.proofs.Common.{◌≡◌, ◌++◌, length}
use Rattle.py_templates.specs.Compiles.{bound_in}
use Rattle.py_compile.specs.inner.Bodies.{NamedOnce}
use Rattle.py_compile.proofs.compiler.bound.Given as goal

abbrev pub invariant-scopes : goal.invariant-scopes
invariant-scopes l = (l.sets.items ++ bound_in l.rest ≡ bound_in l.scopes) × NamedOnce l.rest

abbrev pub decreases-scopes : goal.decreases-scopes
decreases-scopes l = length l.rest
