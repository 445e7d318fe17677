use Rattle.std.proofs.Common.{◌≡◌, length}
use Rattle.py_tokens.specs.Characters.{last_line}
use Rattle.py_tokens.proofs.lex.last_line.Given as goal

abbrev pub invariant-loop-c : goal.invariant-loop-c
invariant-loop-c l = last_line 1 l.fn.chars ≡ last_line l.line l.rest

abbrev pub decreases-loop-c : goal.decreases-loop-c
decreases-loop-c l = length l.rest
