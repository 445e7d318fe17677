use Rattle.std.proofs.Common.{◌≡◌, ◌≤◌, ◌+◌, ◌++◌, length}
use Rattle.py_uses.specs.inner.Gathered.{numbered}
use Rattle.py_templates.specs.Statements.{all_stated, armed_count, armed_inner, count, handled_count, handled_inner, inners, stated_arms, stated_handlers}
use Rattle.py_templates.specs.inner.Weights.{weight, weights, weights_arms, weights_handlers, weights_some}
use Rattle.py_uses.proofs.bodies.+gatherings.Given as goal

abbrev pub decreases-gather_one : goal.decreases-gather_one
decreases-gather_one l = weight l.x.now

abbrev pub decreases-gather_both : goal.decreases-gather_both
decreases-gather_both l = 2 + (weights l.items.now + weights_some l.other.now)

abbrev pub decreases-gather_try : goal.decreases-gather_try
decreases-gather_try l = 4 + (weights l.block.now.body + (weights_handlers l.handlers.now + weights_some l.other.now))

abbrev pub decreases-gather : goal.decreases-gather
decreases-gather l = 1 + weights l.items.now

abbrev pub decreases-gather_arms : goal.decreases-gather_arms
decreases-gather_arms l = 2 + weights_arms l.items.now

abbrev pub decreases-gather_handlers : goal.decreases-gather_handlers
decreases-gather_handlers l = 2 + weights_handlers l.items.now

abbrev pub invariant-gather-items : goal.invariant-gather-items
invariant-gather-items l = (numbered 0 l.out ++ inners (all_stated l.rest) (length l.out) ≡ numbered 0 l.initial.out ++
    inners (all_stated l.items) (length l.initial.out)) ×
    (length l.out + count (all_stated l.rest) ≡ length l.initial.out + count (all_stated l.items)) ×
    (weights l.rest ≤ weights l.items)

abbrev pub decreases-gather-items : goal.decreases-gather-items
decreases-gather-items l = length l.rest

abbrev pub invariant-gather_arms-items : goal.invariant-gather_arms-items
invariant-gather_arms-items l = (numbered 0 l.out ++ armed_inner (stated_arms l.rest) (length l.out) ≡ numbered 0
    l.initial.out ++ armed_inner (stated_arms l.items) (length l.initial.out)) ×
    (length l.out + armed_count (stated_arms l.rest) ≡ length l.initial.out + armed_count (stated_arms l.items)) ×
    (weights_arms l.rest ≤ weights_arms l.items)

abbrev pub decreases-gather_arms-items : goal.decreases-gather_arms-items
decreases-gather_arms-items l = length l.rest

abbrev pub invariant-gather_handlers-items : goal.invariant-gather_handlers-items
invariant-gather_handlers-items l = (numbered 0 l.out ++ handled_inner (stated_handlers l.rest) (length l.out) ≡
    numbered 0 l.initial.out ++ handled_inner (stated_handlers l.items) (length l.initial.out)) ×
    (length l.out + handled_count (stated_handlers l.rest) ≡ length l.initial.out + handled_count
    (stated_handlers l.items)) × (weights_handlers l.rest ≤ weights_handlers l.items)

abbrev pub decreases-gather_handlers-items : goal.decreases-gather_handlers-items
decreases-gather_handlers-items l = length l.rest
