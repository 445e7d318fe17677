use Rattle.std.proofs.Common.{◌≡◌, map, take}
use Rattle.py_names.specs.Scopes.{scope_of}
use Rattle.py_names.proofs.gather.scopes.Given as goal

abbrev pub invariant-loop-table : goal.invariant-loop-table
invariant-loop-table l = l.scopes ≡ map scope_of (take l.table-index l.tables)
