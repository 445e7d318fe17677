use Rattle.std.proofs.Common.{length, List, ℕ}
use Rattle.py_templates.specs.Template.{Frame}
use Rattle.py_templates.specs.Statements.{imported}
use Rattle.py_emit.proofs.Rests.{Rest}
use Rattle.py_emit.proofs.simple.import.Given as goal

abbrev pub invariant-items : goal.invariant-items
invariant-items l = (env : List ℕ → List Frame) → Rest env l.initial.e (imported l.names l.line l.items) l.e
    (imported l.names l.line l.rest)

abbrev pub decreases-items : goal.decreases-items
decreases-items l = length l.rest
