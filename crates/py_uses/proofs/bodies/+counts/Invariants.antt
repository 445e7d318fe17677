use Rattle.std.proofs.Common.{◌≡◌, ◌≤◌, ◌+◌, length}
use Rattle.py_templates.specs.Statements.{all_stated, armed_count, count, handled_count, stated_arms, stated_handlers}
use Rattle.py_templates.specs.inner.Weights.{weight, weights, weights_arms, weights_handlers, weights_some}
use Rattle.py_uses.proofs.bodies.+counts.Given as goal

abbrev pub decreases-bodies_in : goal.decreases-bodies_in
decreases-bodies_in l = weight l.x.now

abbrev pub decreases-bodies_in_both : goal.decreases-bodies_in_both
decreases-bodies_in_both l = 2 + (weights l.items.now + weights_some l.other.now)

abbrev pub decreases-bodies_with : goal.decreases-bodies_with
decreases-bodies_with l = 2 + weights l.items.now

abbrev pub decreases-bodies_in_try : goal.decreases-bodies_in_try
decreases-bodies_in_try l = 4 + (weights l.block.now.body +
    (weights_handlers l.handlers.now + weights_some l.other.now))

abbrev pub decreases-bodies_in_block : goal.decreases-bodies_in_block
decreases-bodies_in_block l = 1 + weights l.items.now

abbrev pub decreases-bodies_in_arms : goal.decreases-bodies_in_arms
decreases-bodies_in_arms l = 2 + weights_arms l.items.now

abbrev pub decreases-bodies_in_handlers : goal.decreases-bodies_in_handlers
decreases-bodies_in_handlers l = 2 + weights_handlers l.items.now

abbrev pub invariant-bodies_in_block-items : goal.invariant-bodies_in_block-items
invariant-bodies_in_block-items l = (l.n + count (all_stated l.rest) ≡ count (all_stated l.items)) ×
    (weights l.rest ≤ weights l.items)

abbrev pub decreases-bodies_in_block-items : goal.decreases-bodies_in_block-items
decreases-bodies_in_block-items l = length l.rest

abbrev pub invariant-bodies_in_arms-items : goal.invariant-bodies_in_arms-items
invariant-bodies_in_arms-items l = (l.n + armed_count (stated_arms l.rest) ≡ armed_count (stated_arms l.items)) ×
    (weights_arms l.rest ≤ weights_arms l.items)

abbrev pub decreases-bodies_in_arms-items : goal.decreases-bodies_in_arms-items
decreases-bodies_in_arms-items l = length l.rest

abbrev pub invariant-bodies_in_handlers-items : goal.invariant-bodies_in_handlers-items
invariant-bodies_in_handlers-items l = (l.n + handled_count (stated_handlers l.rest) ≡ handled_count
    (stated_handlers l.items)) × (weights_handlers l.rest ≤ weights_handlers l.items)

abbrev pub decreases-bodies_in_handlers-items : goal.decreases-bodies_in_handlers-items
decreases-bodies_in_handlers-items l = length l.rest
