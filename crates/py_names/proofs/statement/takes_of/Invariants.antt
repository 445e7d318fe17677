use Rattle.std.proofs.Common.{◌≡◌, ◌++◌, length}
use Rattle.py_names.specs.Outline.{takes}
use Rattle.py_names.proofs.statement.takes_of.Given as goal

abbrev pub invariant-items : goal.invariant-items
invariant-items l = l.out ++ takes l.rest ≡ l.initial.out ++ takes l.items

abbrev pub decreases-items : goal.decreases-items
decreases-items l = length l.rest
