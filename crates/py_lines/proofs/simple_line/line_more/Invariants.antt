use Rattle.std.proofs.Common.{◌≡◌, ◌-◌, [], ◌∷◌}
use Rattle.py_grammar.specs.inner.Lines.{simple_at, line_more}
use Rattle.py_grammar.specs.inner.Aiming.{readers}
use Rattle.py_lines.proofs.simple_line.line_more.Given as goal

abbrev pub invariant-turns : goal.invariant-turns
invariant-turns l = line_more (simple_at (readers l.fn.turns (l.fn.budget - 1)) l.fn.turns l.fn.budget) l.fn.turns
    (l.fn.first ∷ []) l.fn.tokens ≡ line_more (simple_at (readers l.fn.turns (l.fn.budget - 1)) l.fn.turns l.fn.budget)
    (l.fn.turns - l._turn) l.found l.more
