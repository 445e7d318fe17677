use Rattle.std.proofs.Common.{◌≡◌, length}
use Rattle.py_tokens.specs.Names.{begins}
use Rattle.py_tokens.proofs.word.begins.Given as goal

abbrev pub invariant-loop-b : goal.invariant-loop-b
invariant-loop-b l = begins l.fn.bytes l.fn.chars ≡ begins l.left l.rest

abbrev pub decreases-loop-b : goal.decreases-loop-b
decreases-loop-b l = length l.left
