use Rattle.std.proofs.Common.{length}
use Rattle.py_text.proofs.Spelling.{Reaches}
use Rattle.py_text.proofs.literal.spelled.Given as goal

abbrev pub invariant-loop-b : goal.invariant-loop-b
invariant-loop-b l = Reaches l.fn.body l.text l.rest

abbrev pub decreases-loop-b : goal.decreases-loop-b
decreases-loop-b l = length l.rest
