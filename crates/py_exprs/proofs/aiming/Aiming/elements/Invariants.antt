use Rattle.std.proofs.Common.{◌≡◌, ◌-◌, ◌≤◌}
use Rattle.py_grammar.specs.inner.Aiming.{aim_at, elements_at}
use Rattle.py_grammar.specs.inner.Tall.{start}
use Rattle.py_exprs.proofs.aiming.Aiming.elements.Given as goal

abbrev pub invariant-turns : goal.invariant-turns
invariant-turns g l =
    (elements_at (aim_at l.fn.self.turns l.fn.self.room) l.fn.self.turns l.fn.self.room l.fn.self.turns
    (start l.fn.first) l.fn.tokens ≡ elements_at (aim_at l.fn.self.turns l.fn.self.room) l.fn.self.turns
    l.fn.self.room (l.fn.self.turns - l._turn) l.found l.more)
    × (l.found.tall ≤ l.fn.self.room)
