use Rattle.std.proofs.Common.{◌≡◌, map, take}
use Rattle.py_templates.specs.Names.{text}
use Rattle.py_compile.proofs.codes.key_lists.Given as goal

abbrev pub invariant-loop-list : goal.invariant-loop-list
invariant-loop-list l = (l.list-items ≡ l.lists) × (l.out ≡ map (map (text l.names)) (take l.list-index l.list-items))
