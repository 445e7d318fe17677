use Rattle.std.specs.Prelude.{[], ◌∷◌}
use Rattle.py_emit.specs.inner.Tasks.{Leads, plain}
use Rattle.py_emit.specs.inner.TaskWeights.{all_weights}
use Rattle.py_emit.proofs.expression.run.Given as goal

abbrev pub invariant-tasks : goal.invariant-tasks
invariant-tasks l = Leads l.names l.line (plain l.fn.first ∷ []) l.fn.e l.tasks l.e

abbrev pub decreases-tasks : goal.decreases-tasks
decreases-tasks l = all_weights l.tasks
