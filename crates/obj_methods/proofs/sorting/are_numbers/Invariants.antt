use Rattle.std.proofs.Common.{◌≡◌, length}
use Rattle.obj_methods.specs.Sorting.{are_numbers}
use Rattle.obj_methods.proofs.sorting.are_numbers.Given as goal

abbrev pub invariant-turns : goal.invariant-turns
invariant-turns l = are_numbers l.fn.values ≡ are_numbers l.rest

abbrev pub decreases-turns : goal.decreases-turns
decreases-turns l = length l.rest
