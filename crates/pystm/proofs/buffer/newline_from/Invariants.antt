-- No newline stands before `i`.
use Rattle.std.proofs.Common.{◌≢◌, All, take}
use Rattle.pystm.proofs.buffer.newline_from.Given as goal

abbrev pub invariant-loop-i : goal.invariant-loop-i
invariant-loop-i l = All (λ b. b ≢ 10) (take l.i l.bytes)
