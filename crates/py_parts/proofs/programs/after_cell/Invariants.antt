use Rattle.std.proofs.Common.{◌≡◌, length, drop}
use Rattle.py_code.specs.Right.{cells_of}
use Rattle.py_parts.proofs.programs.after_cell.Given as goal

abbrev pub invariant-roots : goal.invariant-roots
invariant-roots l = drop 1 (cells_of l.roots) ≡ drop 1 (cells_of l.rest)

abbrev pub decreases-roots : goal.decreases-roots
decreases-roots l = length l.rest
