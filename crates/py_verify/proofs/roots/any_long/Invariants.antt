use Rattle.std.proofs.Common.{◌≡◌, length}
use Rattle.py_verify.specs.inner.Tests.{any_long}
use Rattle.py_verify.proofs.roots.any_long.Given as goal

abbrev pub invariant-roots : goal.invariant-roots
invariant-roots l = any_long l.rest ≡ any_long l.roots

abbrev pub decreases-roots : goal.decreases-roots
decreases-roots l = length l.rest
