use Rattle.std.proofs.Common.{◌≡◌, ◌+◌, ◌++◌, length}
use Rattle.py_code.specs.Listing.{numbered, root_line}
use Rattle.py_code.proofs.assembly.push_roots.Given as goal

abbrev pub invariant-roots : goal.invariant-roots
invariant-roots l = (l.text ++ numbered root_line l.n l.rest ≡ l.fn.text ++ numbered root_line 0 l.roots) ×
    (l.n + length l.rest ≡ length l.roots)

abbrev pub decreases-roots : goal.decreases-roots
decreases-roots l = length l.rest
