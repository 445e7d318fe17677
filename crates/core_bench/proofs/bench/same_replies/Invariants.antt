use Rattle.std.proofs.Common.{◌≡◌, take, length}
use Rattle.core_bench.proofs.bench.same_replies.Given as goal

-- so far they are equal, and both are as long
abbrev pub invariant-replies : goal.invariant-replies
invariant-replies l = (take l.i l.came ≡ take l.i l.wanted) × (length l.came ≡ length l.wanted)
