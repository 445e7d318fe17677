use Rattle.std.proofs.Common.{◌≡◌, ◌+◌, length}
use Rattle.py_code.specs.Right.{texts_of}
use Rattle.py_parts.proofs.programs.count_texts.Given as goal

abbrev pub invariant-roots : goal.invariant-roots
invariant-roots l = length (texts_of l.roots) ≡ l.n + length (texts_of l.rest)

abbrev pub decreases-roots : goal.decreases-roots
decreases-roots l = length l.rest
