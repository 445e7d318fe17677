use Rattle.std.proofs.Common.{◌≡◌, [], length}
use Rattle.py_names.specs.inner.Tables.{tables_by}
use Rattle.py_names.proofs.gather.tables.Given as goal

abbrev pub invariant-events : goal.invariant-events
invariant-events l = tables_by l.tables.items l.nest l.rest ≡ tables_by [] [] l.events

abbrev pub decreases-events : goal.decreases-events
decreases-events l = length l.rest
