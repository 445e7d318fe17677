use Rattle.std.proofs.Common.{◌≡◌, ◌-◌, ◌≤◌}
use Rattle.py_grammar.specs.inner.Reading.{reads, args_at}
use Rattle.py_grammar.specs.inner.Tall.{none}
use Rattle.py_atoms.proofs.reader.Reader.arguments.Given as goal

abbrev pub invariant-turns : goal.invariant-turns
invariant-turns g l =
    (args_at ((reads l.fn.self.turns l.fn.self.budget).read 14) l.fn.self.turns none l.fn.tokens ≡ args_at
    ((reads l.fn.self.turns l.fn.self.budget).read 14) (l.fn.self.turns - l.turn) l.found l.more)
    × (l.found.tall ≤ l.fn.self.budget)
