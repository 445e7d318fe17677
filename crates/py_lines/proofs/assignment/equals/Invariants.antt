use Rattle.std.proofs.Common.{◌≡◌, ◌-◌, []}
use Rattle.py_grammar.specs.inner.Lines.{equals_at}
use Rattle.py_grammar.specs.inner.Aiming.{readers}
use Rattle.py_lines.proofs.assignment.equals.Given as goal

abbrev pub invariant-turns : goal.invariant-turns
invariant-turns l = equals_at (readers l.fn.turns l.fn.budget) l.fn.turns [] (l.fn.first, l.fn.tokens) ≡ equals_at
    (readers l.fn.turns l.fn.budget) (l.fn.turns - l._turn) l.targets (l.value, l.more)
