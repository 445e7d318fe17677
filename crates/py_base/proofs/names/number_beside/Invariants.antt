use Rattle.std.proofs.Common.{◌≡◌, drop}
use Rattle.py_base.specs.Numbers.{number_beside}
use Rattle.py_base.proofs.Numbering.{beside}
use Rattle.py_base.proofs.names.number_beside.Given as goal

abbrev pub invariant-loop-entry : goal.invariant-loop-entry
invariant-loop-entry l = number_beside (beside l.table) l.name ≡ number_beside (beside (drop l.entry-index l.table))
    l.name
