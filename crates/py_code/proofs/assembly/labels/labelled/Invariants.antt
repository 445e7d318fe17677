use Rattle.std.proofs.Common.{◌≡◌, ◌+◌, ◌≤◌, ◌++◌, length}
use Rattle.py_code.specs.Listing.{labelled}
use Rattle.py_code.proofs.assembly.labels.labelled.Given as goal

abbrev pub invariant-places : goal.invariant-places
invariant-places l = (l.labels ++ labelled l.next l.rest ≡ labelled 1 l.marks) ×
    (l.next + length l.rest ≤ length l.marks + 1)

abbrev pub decreases-places : goal.decreases-places
decreases-places l = length l.rest
