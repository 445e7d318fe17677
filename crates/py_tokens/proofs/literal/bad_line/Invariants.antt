use Rattle.std.proofs.Common.{◌≡◌, length}
use Rattle.py_tokens.specs.Strings.{bad_line}
use Rattle.py_tokens.proofs.literal.bad_line.Given as goal

abbrev pub invariant-loop-c : goal.invariant-loop-c
invariant-loop-c l = bad_line l.fn.body ≡ bad_line l.rest

abbrev pub decreases-loop-c : goal.decreases-loop-c
decreases-loop-c l = length l.rest
