use Rattle.std.proofs.Common.{◌≡◌, replicate, None}
use Rattle.py_verify.proofs.typing.unknown.Given as goal

abbrev pub invariant-loop : goal.invariant-loop
invariant-loop l = l.shapes.items ≡ replicate l.counter None
