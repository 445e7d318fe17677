use Rattle.std.proofs.Common.{◌≡◌, ◌-◌, []}
use Rattle.py_grammar.specs.inner.Lines.{suite_at, statements_at}
use Rattle.py_parser.proofs.compound.Compound.suite.Given as goal

abbrev pub invariant-turns : goal.invariant-turns
invariant-turns g l = suite_at (statements_at l.fn.self.turns (l.fn.self.budget - 1)) l.fn.self.turns [] l.fn.tokens ≡
    suite_at (statements_at l.fn.self.turns (l.fn.self.budget - 1)) (l.fn.self.turns - l._turn) l.found l.more
