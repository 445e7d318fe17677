use Rattle.std.proofs.Common.{◌≡◌, ◌-◌, [], false}
use Rattle.py_grammar.specs.inner.Lines.{params_at}
use Rattle.py_grammar.specs.inner.Aiming.{readers}
use Rattle.py_parser.proofs.header.params.Given as goal

abbrev pub invariant-turns : goal.invariant-turns
invariant-turns l = params_at (readers l.fn.turns l.fn.budget) l.fn.turns false [] l.fn.tokens ≡ params_at
    (readers l.fn.turns l.fn.budget) (l.fn.turns - l._turn) l.later l.found l.more
