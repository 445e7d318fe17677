use Rattle.std.proofs.Common.{◌≡◌, length}
use Rattle.py_uses.specs.inner.Tallies.{inside, tally}
use Rattle.py_templates.specs.Uses.{read_defaults}
use Rattle.py_uses.proofs.body_uses.defaults.Given as goal

abbrev pub invariant-items : goal.invariant-items
invariant-items l = tally l.out (read_defaults (inside l.all l.b) l.rest) ≡ tally l.initial.out
    (read_defaults (inside l.all l.b) l.items)

abbrev pub decreases-items : goal.decreases-items
decreases-items l = length l.rest
