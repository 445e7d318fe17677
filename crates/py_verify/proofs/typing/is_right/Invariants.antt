use Rattle.py_verify.specs.inner.Work.{left, Going}
use Rattle.py_verify.proofs.typing.is_right.Given as goal

abbrev pub invariant-loop-place : goal.invariant-loop-place
invariant-loop-place l = Going l.k l.code l.shapes.items l.work.items

abbrev pub decreases-loop-place : goal.decreases-loop-place
decreases-loop-place l = left l.shapes.items l.work.items
