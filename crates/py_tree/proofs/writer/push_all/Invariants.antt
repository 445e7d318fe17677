use Rattle.std.proofs.Common.{◌≡◌, ◌-◌, ◌++◌, replicate}
use Rattle.py_tree.proofs.writer.push_all.Given as goal

abbrev pub invariant-times : goal.invariant-times
invariant-times l = l.text ++ replicate (l.n - l.counter) l.byte ≡ l.initial.text ++ replicate l.n l.byte
