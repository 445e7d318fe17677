use Rattle.std.proofs.Common.{◌≡◌, ◌-◌, [], ◌∷◌}
use Rattle.py_grammar.specs.inner.Lines.{elifs_at}
use Rattle.py_grammar.specs.inner.Aiming.{readers}
use Rattle.py_parser.specs.inner.Suites.{inner_block}
use Rattle.py_parser.proofs.compound.Compound.elifs.Given as goal

abbrev pub invariant-turns : goal.invariant-turns
invariant-turns g l = elifs_at (readers l.fn.self.turns l.fn.self.budget)
    (inner_block l.fn.self.turns l.fn.self.budget) l.fn.self.turns (l.fn.first ∷ []) l.fn.tokens ≡ elifs_at
    (readers l.fn.self.turns l.fn.self.budget) (inner_block l.fn.self.turns l.fn.self.budget)
    (l.fn.self.turns - l._turn) l.found l.more
