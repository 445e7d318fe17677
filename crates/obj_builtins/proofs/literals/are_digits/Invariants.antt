use Rattle.std.proofs.Common.{◌≡◌, length}
use Rattle.obj_builtins.specs.Literals as literals
use Rattle.obj_builtins.proofs.literals.are_digits.Given as goal

abbrev pub invariant-turns : goal.invariant-turns
invariant-turns l = literals.are_digits l.bytes ≡ literals.are_digits l.rest

abbrev pub decreases-turns : goal.decreases-turns
decreases-turns l = length l.rest
