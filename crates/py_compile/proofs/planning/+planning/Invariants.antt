use Rattle.std.proofs.Common.{◌≡◌, ◌≤◌, ◌+◌, ◌++◌, List, length}
use Rattle.py_templates.specs.Names.{Known}
use Rattle.py_compile.specs.inner.Plans.{planned_arms, planned_handlers}
use Rattle.py_templates.specs.Statements.{all_stated, armed, armed_count, count, handled, handled_count, stated_arms, stated_handlers}
use Rattle.py_templates.specs.Table.{Around}
use Rattle.py_templates.specs.inner.Weights.{weight, weights, weights_arms, weights_handlers, weights_some}
use Rattle.py_compile.proofs.Plans.{Added}
use Rattle.py_compile.proofs.planning.+planning.Given as goal

abbrev pub decreases-block : goal.decreases-block
decreases-block l = 2 + weights l.items.now

abbrev pub decreases-add_block : goal.decreases-add_block
decreases-add_block l = 1 + weights l.items.now

abbrev pub decreases-statement : goal.decreases-statement
decreases-statement l = weight l.s.now

abbrev pub decreases-if_else : goal.decreases-if_else
decreases-if_else l = 4 + (weights_arms l.items.now + weights_some l.other.now)

abbrev pub decreases-arms : goal.decreases-arms
decreases-arms l = 3 + weights_arms l.items.now

abbrev pub decreases-while_loop : goal.decreases-while_loop
decreases-while_loop l = 4 + (weights l.arm.now.body + weights_some l.other.now)

abbrev pub decreases-for_loop : goal.decreases-for_loop
decreases-for_loop l = 4 + (weights l.body.now + weights_some l.other.now)

abbrev pub decreases-handlers : goal.decreases-handlers
decreases-handlers l = 3 + weights_handlers l.items.now

abbrev pub decreases-tried : goal.decreases-tried
decreases-tried l = 4 + (weights l.x.now.body + (weights_handlers l.items.now + weights_some l.other.now))

abbrev pub decreases-tried_finally : goal.decreases-tried_finally
decreases-tried_finally l = 8 + (weights l.x.now.body +
    (weights_handlers l.items.now + (weights_some l.other.now + weights l.last.now.body)))

abbrev pub invariant-add_block-items : goal.invariant-add_block-items
invariant-add_block-items l = Added l.initial.out (all_stated l.items) l.first l.out (all_stated l.rest) l.number ×
    (l.number + count (all_stated l.rest) ≡ l.first + count (all_stated l.items)) × (weights l.rest ≤ weights l.items)

abbrev pub decreases-add_block-items : goal.decreases-add_block-items
decreases-add_block-items l = length l.rest

abbrev pub invariant-arms-items : goal.invariant-arms-items
invariant-arms-items l = ((n : Known) (c : List Around) → planned_arms l.out n c ++ armed (stated_arms l.rest) n c
    l.number ≡ armed (stated_arms l.items) n c l.first) ×
    (l.number + armed_count (stated_arms l.rest) ≡ l.first + armed_count (stated_arms l.items)) ×
    (weights_arms l.rest ≤ weights_arms l.items)

abbrev pub decreases-arms-items : goal.decreases-arms-items
decreases-arms-items l = length l.rest

abbrev pub invariant-handlers-items : goal.invariant-handlers-items
invariant-handlers-items l = ((n : Known) (c : List Around) →
    planned_handlers l.out n c ++ handled (stated_handlers l.rest) n c l.number ≡ handled (stated_handlers l.items) n c
    l.first) × (l.number + handled_count (stated_handlers l.rest) ≡ l.first + handled_count (stated_handlers l.items))
    × (weights_handlers l.rest ≤ weights_handlers l.items)

abbrev pub decreases-handlers-items : goal.decreases-handlers-items
decreases-handlers-items l = length l.rest
