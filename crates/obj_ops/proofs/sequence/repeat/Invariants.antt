use Rattle.std.proofs.Common.{◌≡◌}
use Rattle.std.specs.List.{repeat}
use Rattle.obj_ops.proofs.sequence.repeat.Given as goal

abbrev pub invariant-turns : goal.invariant-turns
invariant-turns g l = l.all ≡ repeat l.counter l.xs
