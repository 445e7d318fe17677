use Rattle.std.proofs.Common.{◌≡◌, ◌≤◌, ◌+◌, length}
use Rattle.py_templates.specs.Expressions.{values}
use Rattle.py_templates.specs.Statements.{defaults}
use Rattle.py_emit.specs.inner.State.{no_frames}
use Rattle.py_emit.proofs.Rests.{Rest}
use Rattle.py_emit.proofs.simple.defaults.Given as goal

abbrev pub invariant-params : goal.invariant-params
invariant-params l = Rest no_frames l.initial.e (values l.names l.line (defaults l.params)) l.e
    (values l.names l.line (defaults l.rest)) ×
    (l.count + length (values l.names l.line (defaults l.rest)) ≡ length (values l.names l.line (defaults l.params))) ×
    (l.count + length l.rest ≤ length l.params)

abbrev pub decreases-params : goal.decreases-params
decreases-params l = length l.rest
