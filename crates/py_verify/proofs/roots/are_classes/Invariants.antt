use Rattle.std.proofs.Common.{◌≡◌, ◌-◌}
use Rattle.py_verify.specs.inner.Tests.{are_classes}
use Rattle.py_verify.proofs.roots.are_classes.Given as goal

abbrev pub invariant-loop-c : goal.invariant-loop-c
invariant-loop-c l = are_classes (20 - l.c) l.c l.rest ≡ are_classes 20 0 l.roots
