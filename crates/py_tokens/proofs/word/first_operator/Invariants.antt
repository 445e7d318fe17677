use Rattle.std.proofs.Common.{◌≡◌, length, map}
use Rattle.py_tokens.specs.Names.{operator_at}
use Rattle.py_tokens.proofs.word.first_operator.Given as goal

abbrev pub invariant-loop-table : goal.invariant-loop-table
invariant-loop-table l = operator_at (map (λ o. (o.0.now, o.1)) l.table) l.chars ≡ operator_at
    (map (λ o. (o.0.now, o.1)) l.initial.table) l.chars

abbrev pub decreases-loop-table : goal.decreases-loop-table
decreases-loop-table l = length l.table
