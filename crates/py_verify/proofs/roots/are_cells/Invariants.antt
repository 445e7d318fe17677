use Rattle.std.proofs.Common.{◌≡◌, length}
use Rattle.py_verify.specs.inner.Tests.{are_cells}
use Rattle.py_verify.proofs.roots.are_cells.Given as goal

abbrev pub invariant-roots : goal.invariant-roots
invariant-roots l = are_cells l.rest ≡ are_cells l.roots

abbrev pub decreases-roots : goal.decreases-roots
decreases-roots l = length l.rest
