use Rattle.std.proofs.Common.{◌≡◌, ◌++◌, length, map}
use Rattle.py_templates.specs.Expressions.{key_names}
use Rattle.py_templates.specs.Names.{text}
use Rattle.py_compile.proofs.codes.keys.Given as goal

abbrev pub invariant-names : goal.invariant-names
invariant-names l = l.out ++ map (text l.names) (key_names l.rest) ≡ map (text l.names) (key_names l.named)

abbrev pub decreases-names : goal.decreases-names
decreases-names l = length l.rest
