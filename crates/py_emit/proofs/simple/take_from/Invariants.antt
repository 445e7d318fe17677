use Rattle.std.proofs.Common.{length, List, ℕ}
use Rattle.py_templates.specs.Template.{Frame}
use Rattle.py_templates.specs.Statements.{taken_from}
use Rattle.py_emit.proofs.Rests.{Rest}
use Rattle.py_emit.proofs.simple.take_from.Given as goal

abbrev pub invariant-items : goal.invariant-items
invariant-items l = (env : List ℕ → List Frame) → Rest env l.initial.e (taken_from l.names l.line l.items) l.e
    (taken_from l.names l.line l.rest)

abbrev pub decreases-items : goal.decreases-items
decreases-items l = length l.rest
