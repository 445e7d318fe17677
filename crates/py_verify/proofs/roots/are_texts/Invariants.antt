use Rattle.std.proofs.Common.{◌≡◌, length}
use Rattle.py_verify.specs.inner.Tests.{are_texts}
use Rattle.py_verify.proofs.roots.are_texts.Given as goal

abbrev pub invariant-roots : goal.invariant-roots
invariant-roots l = are_texts l.rest ≡ are_texts l.roots

abbrev pub decreases-roots : goal.decreases-roots
decreases-roots l = length l.rest
