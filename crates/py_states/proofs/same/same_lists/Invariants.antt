use Rattle.std.proofs.Common.{◌≡◌, take, length}
use Rattle.py_states.proofs.same.same_lists.Given as goal

abbrev pub invariant-loop-i : goal.invariant-loop-i
invariant-loop-i g l = (take l.i l.xs ≡ take l.i l.ys) × (length l.xs ≡ length l.ys)
