use Rattle.std.proofs.Common.{◌≡◌, ◌-◌, [], ◌∷◌}
use Rattle.py_grammar.specs.inner.Lines.{names_at}
use Rattle.py_lines.proofs.statement.names.Given as goal

abbrev pub invariant-turns : goal.invariant-turns
invariant-turns l = names_at l.fn.turns (l.fn.first ∷ []) l.fn.tokens ≡ names_at (l.fn.turns - l._turn) l.found l.more
