use Rattle.std.proofs.Common.{◌≡◌, ◌+◌, ◌≤◌, length}
use Rattle.obj_str.specs.Cutting.{pieces_of}
use Rattle.obj_str.proofs.cutting.count_pieces.Given as goal

abbrev pub invariant-turns : goal.invariant-turns
invariant-turns l = (length (pieces_of l.separator l.bytes) ≡ l.n + length (pieces_of l.separator l.rest)) ×
    (l.n + length l.rest ≤ length l.bytes)

abbrev pub decreases-turns : goal.decreases-turns
decreases-turns l = length l.rest
