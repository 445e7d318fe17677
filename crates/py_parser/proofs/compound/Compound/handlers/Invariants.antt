use Rattle.std.proofs.Common.{◌≡◌, ◌-◌, []}
use Rattle.py_grammar.specs.inner.Lines.{handlers_at}
use Rattle.py_grammar.specs.inner.Aiming.{readers}
use Rattle.py_parser.specs.inner.Suites.{inner_block}
use Rattle.py_parser.proofs.compound.Compound.handlers.Given as goal

abbrev pub invariant-turns : goal.invariant-turns
invariant-turns g l = handlers_at (readers l.fn.self.turns l.fn.self.budget)
    (inner_block l.fn.self.turns l.fn.self.budget) l.fn.self.turns [] l.fn.tokens ≡ handlers_at
    (readers l.fn.self.turns l.fn.self.budget) (inner_block l.fn.self.turns l.fn.self.budget)
    (l.fn.self.turns - l._turn) l.found l.more
