use Rattle.std.proofs.Common.{◌≤◌, ◌+◌, ◌*◌, ◌++◌, length, map}
use Rattle.py_tree.specs.Height.{height, tops}
use Rattle.py_compile.specs.inner.Deletions.{SameDeletions}
use Rattle.py_compile.proofs.deletion.+deletions.Given as goal

abbrev pub invariant-add_targets-items : goal.invariant-add_targets-items
invariant-add_targets-items l = SameDeletions (map (λ y. y.now) l.out ++ l.rest)
    (map (λ y. y.now) l.initial.out ++ l.items) × (tops l.rest ≤ tops l.items)

abbrev pub decreases-add_targets-items : goal.decreases-add_targets-items
decreases-add_targets-items l = length l.rest

abbrev pub decreases-add_target : goal.decreases-add_target
decreases-add_target l = 2 * height l.x.now

abbrev pub decreases-add_targets : goal.decreases-add_targets
decreases-add_targets l = 2 * tops l.items.now + 1
