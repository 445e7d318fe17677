use Rattle.std.proofs.Common.{◌≡◌, length}
use Rattle.py_base.specs.Numbers.{number_from}
use Rattle.py_code.specs.Right.{texts_of}
use Rattle.py_parts.proofs.programs.text_from.Given as goal

abbrev pub invariant-roots : goal.invariant-roots
invariant-roots l = number_from l.start (texts_of l.roots) l.text ≡ number_from l.n (texts_of l.rest) l.text

abbrev pub decreases-roots : goal.decreases-roots
decreases-roots l = length l.rest
