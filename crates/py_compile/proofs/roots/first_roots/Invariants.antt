use Rattle.std.proofs.Common.{◌≡◌, ◌∷◌, []}
use Rattle.py_code.specs.Right.{cell_root, class_roots}
use Rattle.py_compile.proofs.roots.first_roots.Given as goal

abbrev pub invariant-loop-class : goal.invariant-loop-class
invariant-loop-class l = l.out ≡ cell_root [] ∷ class_roots 0 l.class
