use Rattle.std.proofs.Common.{◌≡◌, filter, map, take}
use Rattle.py_names.specs.inner.Tables.{chooses}
use Rattle.py_names.proofs.gather.chosen.Given as goal

abbrev pub invariant-loop-name : goal.invariant-loop-name
invariant-loop-name l = (map (λ x. x.now) l.name-items ≡ l.table.mentioned) ×
    (l.texts ≡ filter (chooses l.table l.local) (map (λ x. x.now) (take l.name-index l.name-items)))
