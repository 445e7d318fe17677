use Rattle.std.proofs.Common.{◌≡◌, ◌++◌, length}
use Rattle.py_compile.proofs.compiler.set_of.Given as goal

abbrev pub invariant-names : goal.invariant-names
invariant-names l = l.set ++ l.rest ≡ l.names

abbrev pub decreases-names : goal.decreases-names
decreases-names l = length l.rest
