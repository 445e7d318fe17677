use Rattle.std.proofs.Common.{◌≡◌, length}
use Rattle.py_verify.specs.inner.Tests.{no_setup}
use Rattle.py_verify.proofs.setup.no_setup.Given as goal

abbrev pub invariant-instrs : goal.invariant-instrs
invariant-instrs l = no_setup l.rest ≡ no_setup l.instrs

abbrev pub decreases-instrs : goal.decreases-instrs
decreases-instrs l = length l.rest
