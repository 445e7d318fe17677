use Rattle.std.proofs.Common.{◌≡◌, ◌++◌, length}
use Rattle.py_names.specs.Outline.{declared}
use Rattle.py_names.proofs.statement.declares.Given as goal

abbrev pub invariant-names : goal.invariant-names
invariant-names l = l.out ++ declared l.line l.rest ≡ l.initial.out ++ declared l.line l.names

abbrev pub decreases-names : goal.decreases-names
decreases-names l = length l.rest
