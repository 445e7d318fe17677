use Rattle.std.proofs.Common.{◌≡◌, ◌-◌, ◌++◌}
use Rattle.py_tree.specs.Writing.{joints}
use Rattle.py_tree.proofs.writer.push_joints.Given as goal

abbrev pub invariant-times : goal.invariant-times
invariant-times l = l.text ++ joints (l.n - l.counter) ≡ l.initial.text ++ joints l.n
