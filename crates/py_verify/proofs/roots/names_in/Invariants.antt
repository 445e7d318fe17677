use Rattle.std.proofs.Common.{◌≡◌, ◌++◌, [], length}
use Rattle.py_code.specs.Right.{cells_of, differ}
use Rattle.py_verify.proofs.roots.names_in.Given as goal

abbrev pub invariant-roots : goal.invariant-roots
invariant-roots l = (l.names ++ cells_of l.rest ≡ cells_of l.roots) ×
    (differ l.names (cells_of l.rest) ≡ differ [] (cells_of l.roots))

abbrev pub decreases-roots : goal.decreases-roots
decreases-roots l = length l.rest
