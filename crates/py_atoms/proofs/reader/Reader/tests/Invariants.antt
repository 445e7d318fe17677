use Rattle.std.proofs.Common.{◌≡◌, ◌-◌, ◌≤◌}
use Rattle.py_grammar.specs.inner.Reading.{reads, tests_at}
use Rattle.py_grammar.specs.inner.Tall.{start}
use Rattle.py_atoms.proofs.reader.Reader.tests.Given as goal

abbrev pub invariant-turns : goal.invariant-turns
invariant-turns g l =
    (tests_at ((reads l.fn.self.turns l.fn.self.budget).read 14) l.fn.self.turns (start l.fn.first) l.fn.tokens ≡
    tests_at ((reads l.fn.self.turns l.fn.self.budget).read 14) (l.fn.self.turns - l._turn) l.found l.more)
    × (l.found.tall ≤ l.fn.self.budget)
