use Rattle.std.proofs.Common.{◌≡◌, ◌++◌, length}
use Rattle.obj_str.specs.Pieces as pieces
use Rattle.obj_str.proofs.replace.replace_parts.Given as goal

abbrev pub invariant-turns : goal.invariant-turns
invariant-turns l = pieces.joined l.new (pieces.split l.old l.bytes) ≡ l.text ++ pieces.joined l.new
    (pieces.split l.old l.rest)

abbrev pub decreases-turns : goal.decreases-turns
decreases-turns l = length l.rest
