use Rattle.std.proofs.Common.{◌≡◌, ◌++◌, length}
use Rattle.obj_str.specs.Pieces as pieces
use Rattle.obj_str.proofs.replace.between_all.Given as goal

abbrev pub invariant-turns : goal.invariant-turns
invariant-turns l = pieces.between_all l.new l.bytes ≡ l.text ++ pieces.between_all l.new l.rest

abbrev pub decreases-turns : goal.decreases-turns
decreases-turns l = length l.rest
