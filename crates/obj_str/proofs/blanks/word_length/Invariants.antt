use Rattle.std.proofs.Common.{◌≡◌, ◌+◌, length}
use Rattle.obj_str.specs.Cutting as cutting
use Rattle.obj_str.proofs.blanks.word_length.Given as goal

abbrev pub invariant-turns : goal.invariant-turns
invariant-turns l = (cutting.word_length l.bytes ≡ l.n + cutting.word_length l.rest) ×
    (l.n + length l.rest ≡ length l.bytes)

abbrev pub decreases-turns : goal.decreases-turns
decreases-turns l = length l.rest
