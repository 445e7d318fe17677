use Rattle.std.proofs.Common.{◌≡◌, length, pos}
use Rattle.obj_builtins.specs.Sums.{summed}
use Rattle.obj_builtins.proofs.sums.sum_of.Given as goal

abbrev pub invariant-turns : goal.invariant-turns
invariant-turns l = summed (pos 0) l.values ≡ summed l.sum l.rest

abbrev pub decreases-turns : goal.decreases-turns
decreases-turns l = length l.rest
