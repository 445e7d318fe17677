use Rattle.std.proofs.Common.{◌≡◌, length}
use Rattle.py_base.specs.NameLists.{has}
use Rattle.py_calls.proofs.named.has.Given as goal

abbrev pub invariant-names : goal.invariant-names
invariant-names l = has l.name l.names ≡ has l.name l.rest

abbrev pub decreases-names : goal.decreases-names
decreases-names l = length l.rest
