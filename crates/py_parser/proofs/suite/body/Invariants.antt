use Rattle.std.proofs.Common.{◌≡◌, ◌-◌, []}
use Rattle.py_grammar.specs.inner.Lines.{body_more, statements_at}
use Rattle.py_parser.proofs.suite.body.Given as goal

abbrev pub invariant-turns : goal.invariant-turns
invariant-turns l = body_more (statements_at l.fn.turns 99) l.fn.turns [] l.fn.tokens ≡ body_more
    (statements_at l.fn.turns 99) (l.fn.turns - l._turn) l.found l.more
