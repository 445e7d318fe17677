use Rattle.std.proofs.Common.{◌≡◌, ◌++◌, length, map}
use Rattle.obj_methods.specs.Sorting.{value_of}
use Rattle.obj_methods.proofs.words.values_of.Given as goal

abbrev pub invariant-turns : goal.invariant-turns
invariant-turns l = l.values ++ map value_of l.rest ≡ map value_of l.fn.words

abbrev pub decreases-turns : goal.decreases-turns
decreases-turns l = length l.rest
