use Rattle.std.proofs.Common.{◌≡◌, length, map}
use Rattle.py_tokens.specs.Names.{word_number}
use Rattle.py_tokens.proofs.word.word_number.Given as goal

abbrev pub invariant-loop-table : goal.invariant-loop-table
invariant-loop-table l = word_number (map (λ w. (w.0.now, w.1)) l.table) l.name ≡ word_number
    (map (λ w. (w.0.now, w.1)) l.initial.table) l.name

abbrev pub decreases-loop-table : goal.decreases-loop-table
decreases-loop-table l = length l.table
