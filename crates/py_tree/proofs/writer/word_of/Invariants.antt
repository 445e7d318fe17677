use Rattle.std.proofs.Common.{◌≡◌, length, map}
use Rattle.py_tree.specs.Writing.{word_of}
use Rattle.py_tree.proofs.writer.word_of.Given as goal

abbrev pub invariant-loop-table : goal.invariant-loop-table
invariant-loop-table l = word_of (map (λ w. (w.0.now, w.1)) l.table) l.number ≡ word_of
    (map (λ w. (w.0.now, w.1)) l.initial.table) l.number

abbrev pub decreases-loop-table : goal.decreases-loop-table
decreases-loop-table l = length l.table
