use Rattle.std.proofs.Common.{◌≡◌, length}
use Rattle.py_base.specs.Numbers.{number_from}
use Rattle.py_code.specs.Right.{cells_of}
use Rattle.py_parts.proofs.programs.cell_from.Given as goal

abbrev pub invariant-roots : goal.invariant-roots
invariant-roots l = number_from l.start (cells_of l.roots) l.name ≡ number_from l.n (cells_of l.rest) l.name

abbrev pub decreases-roots : goal.decreases-roots
decreases-roots l = length l.rest
