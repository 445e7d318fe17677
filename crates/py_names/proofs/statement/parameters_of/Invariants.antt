use Rattle.std.proofs.Common.{◌≡◌, ◌++◌, [], length}
use Rattle.py_names.specs.Outline.{parameters}
use Rattle.py_names.proofs.statement.parameters_of.Given as goal

abbrev pub invariant-items : goal.invariant-items
invariant-items l = l.out ++ parameters l.line l.before l.rest ≡ l.initial.out ++ parameters l.line [] l.items

abbrev pub decreases-items : goal.decreases-items
decreases-items l = length l.rest
