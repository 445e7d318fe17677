use Rattle.std.proofs.Common.{◌≡◌, length}
use Rattle.py_templates.specs.Expressions.{key_names}
use Rattle.py_templates.specs.Names.{same_names}
use Rattle.py_templates.proofs.key_set.same_names.Given as goal

abbrev pub invariant-names : goal.invariant-names
invariant-names l = same_names (key_names l.left) (key_names l.right) ≡ same_names (key_names l.named)
    (key_names l.other)

abbrev pub decreases-names : goal.decreases-names
decreases-names l = length l.left
