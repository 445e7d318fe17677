use Rattle.std.proofs.Common.{◌≡◌, ◌&&◌, drop}
use Rattle.std.specs.List.{list_any}
use Rattle.py_names.specs.Scopes.{is_function, is_local}
use Rattle.py_names.specs.inner.Tables.{at}
use Rattle.py_names.proofs.check.any_function.Given as goal

abbrev pub invariant-loop-body : goal.invariant-loop-body
invariant-loop-body l = list_any (λ j. is_function (at l.tables j).kind && is_local (at l.tables j) l.name)
    (drop l.body-index l.outer) ≡ list_any (λ j. is_function (at l.tables j).kind && is_local (at l.tables j) l.name)
    l.outer
