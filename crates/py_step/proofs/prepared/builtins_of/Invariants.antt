use Rattle.std.proofs.Common.{◌≡◌, length}
use Rattle.py_step.specs.inner.Builtins.{AreBuiltins}
use Rattle.py_step.proofs.prepared.builtins_of.Given as goal

abbrev pub invariant-roots : goal.invariant-roots
invariant-roots l = record {
  all : AreBuiltins l.p l.found.items;
  count : length l.found.items ≡ l.n;
}
