use Rattle.std.proofs.Common.{◌≡◌, length}
use Rattle.py_templates.specs.Statements.{defaults}
use Rattle.py_compile.proofs.planning.from_default.Given as goal

abbrev pub invariant-params : goal.invariant-params
invariant-params l = defaults l.rest ≡ defaults l.params

abbrev pub decreases-params : goal.decreases-params
decreases-params l = length l.rest
