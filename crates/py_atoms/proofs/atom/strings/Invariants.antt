use Rattle.std.proofs.Common.{◌≡◌, ◌-◌}
use Rattle.py_grammar.specs.inner.Reading.{strings_at}
use Rattle.py_atoms.proofs.atom.strings.Given as goal

abbrev pub invariant-turns : goal.invariant-turns
invariant-turns l = strings_at l.fn.turns l.fn.first l.fn.tokens ≡ strings_at (l.fn.turns - l._turn) l.found l.more
