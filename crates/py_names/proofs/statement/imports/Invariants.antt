use Rattle.std.proofs.Common.{◌≡◌, ◌++◌, length}
use Rattle.py_names.specs.Outline.{imported}
use Rattle.py_names.proofs.statement.imports.Given as goal

abbrev pub invariant-items : goal.invariant-items
invariant-items l = l.out ++ imported l.line l.rest ≡ l.initial.out ++ imported l.line l.items

abbrev pub decreases-items : goal.decreases-items
decreases-items l = length l.rest
