use Rattle.std.proofs.Common.{◌≡◌, length}
use Rattle.py_templates.specs.Statements.{last_target, stores_before}
use Rattle.py_emit.specs.inner.State.{no_frames}
use Rattle.py_emit.proofs.Rests.{Rest}
use Rattle.py_emit.proofs.simple.store_in_turn.Given as goal

abbrev pub invariant-targets : goal.invariant-targets
invariant-targets l = Rest no_frames l.initial.e (stores_before l.names l.line l.first l.more) l.e
    (stores_before l.names l.line l.last l.rest) × (last_target l.first l.more ≡ last_target l.last l.rest)

abbrev pub decreases-targets : goal.decreases-targets
decreases-targets l = length l.rest
