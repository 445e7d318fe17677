use Rattle.std.proofs.Common.{drop, map}
use Rattle.py_templates.specs.Expressions.{all_deleted}
use Rattle.py_emit.specs.inner.State.{no_frames}
use Rattle.py_emit.proofs.Rests.{Rest}
use Rattle.py_emit.proofs.simple.delete.Given as goal

abbrev pub invariant-loop-x : goal.invariant-loop-x
invariant-loop-x l = Rest no_frames l.initial.e (all_deleted l.names l.line (map (λ y. y.now) l.items)) l.e
    (all_deleted l.names l.line (map (λ y. y.now) (drop l.x-index l.items)))
