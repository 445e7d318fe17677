use Rattle.std.proofs.Common.{◌≡◌, ◌-◌}
use Rattle.py_grammar.specs.inner.Lines.{targets_at}
use Rattle.py_grammar.specs.inner.Aiming.{readers}
use Rattle.py_grammar.specs.inner.Tall.{start}
use Rattle.py_lines.proofs.target.targets.Given as goal

abbrev pub invariant-turns : goal.invariant-turns
invariant-turns l = targets_at (readers l.fn.turns l.fn.budget) l.fn.turns (start l.fn.first) l.fn.tokens ≡ targets_at
    (readers l.fn.turns l.fn.budget) (l.fn.turns - l._turn) l.found l.more
