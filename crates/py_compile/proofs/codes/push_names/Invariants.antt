use Rattle.std.proofs.Common.{◌≡◌, ◌++◌, map, take}
use Rattle.py_compile.proofs.codes.push_names.Given as goal

abbrev pub invariant-loop-name : goal.invariant-loop-name
invariant-loop-name l = (map (λ x. x.now) l.name-items ≡ l.names) ×
    (l.out ≡ l.initial.out ++ map (λ x. x.now) (take l.name-index l.name-items))
