use Rattle.std.proofs.Common.{◌≡◌, ◌-◌, ◌≤◌}
use Rattle.py_grammar.specs.inner.Lines.{loops_at}
use Rattle.py_grammar.specs.inner.Aiming.{readers}
use Rattle.py_grammar.specs.inner.Tall.{start}
use Rattle.py_parser.proofs.header.loop_targets.Given as goal

abbrev pub invariant-turns : goal.invariant-turns
invariant-turns l = (loops_at (readers l.fn.turns l.fn.budget) l.fn.turns (start l.fn.first) l.fn.tokens ≡ loops_at
    (readers l.fn.turns l.fn.budget) (l.fn.turns - l._turn) l.found l.more) × (l.found.tall ≤ l.fn.budget)
