use Rattle.std.proofs.Common.{◌≡◌, ◌-◌, ◌≤◌, []}
use Rattle.py_grammar.specs.inner.Reading.{reads, trailers_at}
use Rattle.py_grammar.specs.inner.Tall.{plain}
use Rattle.py_atoms.proofs.reader.Reader.trailers.Given as goal

abbrev pub invariant-turns : goal.invariant-turns
invariant-turns g l =
    (trailers_at (reads l.fn.self.turns l.fn.self.budget) l.fn.self.turns l.fn.self.turns (plain [] 0) l.fn.tokens ≡
    trailers_at (reads l.fn.self.turns l.fn.self.budget) l.fn.self.turns (l.fn.self.turns - l._turn) l.found l.more)
    × (l.found.tall ≤ l.fn.self.budget)
