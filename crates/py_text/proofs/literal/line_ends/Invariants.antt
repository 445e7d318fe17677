use Rattle.std.proofs.Common.{◌≡◌, ◌++◌, length}
use Rattle.py_text.specs.Escape.{line_ends}
use Rattle.py_text.proofs.literal.line_ends.Given as goal

abbrev pub invariant-loop-b : goal.invariant-loop-b
invariant-loop-b l = line_ends l.fn.body ≡ l.text ++ line_ends l.rest

abbrev pub decreases-loop-b : goal.decreases-loop-b
decreases-loop-b l = length l.rest
