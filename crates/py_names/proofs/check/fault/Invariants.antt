use Rattle.std.proofs.Common.{◌≡◌, ◌+◌, ◌≤◌, [], length}
use Rattle.py_names.specs.Scopes.{first_fault, placed}
use Rattle.py_names.specs.inner.Tables.{at}
use Rattle.py_names.proofs.check.fault.Given as goal

abbrev pub invariant-events : goal.invariant-events
invariant-events l = (first_fault (at l.tables) (placed l.nest l.count l.rest) ≡ first_fault (at l.tables)
    (placed [] 0 l.events)) × (l.count + length l.rest ≤ length l.events)

abbrev pub decreases-events : goal.decreases-events
decreases-events l = length l.rest
