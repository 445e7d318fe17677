use Rattle.std.proofs.Common.{◌≤◌, ◌+◌, ◌∷◌, drop}
use Rattle.py_emit.specs.inner.State.{frame_there}
use Rattle.py_compile.specs.inner.Plans.{planned_all, planned_arms, planned_handlers}
use Rattle.py_compile.specs.inner.Rounds.{around_of, env_of}
use Rattle.py_compile.proofs.PlanBounds.{outside, plan_weight, plan_weights, plan_weights_arms, plan_weights_handlers}
use Rattle.py_emit.proofs.Rests.{Rest}
use Rattle.py_compile.proofs.statement.+statements.Given as goal

abbrev pub decreases-leave : goal.decreases-leave
decreases-leave l = outside l.around.now

abbrev pub decreases-block : goal.decreases-block
decreases-block l = 1 + plan_weights l.items.now + outside l.around.now

abbrev pub decreases-statement : goal.decreases-statement
decreases-statement l = plan_weight l.p.now + outside l.around.now

abbrev pub decreases-simple : goal.decreases-simple
decreases-simple l = 2 + outside l.around.now

abbrev pub decreases-returned : goal.decreases-returned
decreases-returned l = 1 + outside l.around.now

abbrev pub decreases-if_else : goal.decreases-if_else
decreases-if_else l = 3 + (plan_weights_arms l.items.now + plan_weights l.other.now) + outside l.around.now

abbrev pub decreases-arms : goal.decreases-arms
decreases-arms l = 2 + plan_weights_arms l.items.now + outside l.around.now

abbrev pub decreases-while_loop : goal.decreases-while_loop
decreases-while_loop l = 3 + (plan_weights l.body.now + plan_weights l.other.now) + outside l.around.now

abbrev pub decreases-for_loop : goal.decreases-for_loop
decreases-for_loop l = 3 + (plan_weights l.body.now + plan_weights l.other.now) + outside l.around.now

abbrev pub decreases-handlers : goal.decreases-handlers
decreases-handlers l = 3 + plan_weights_handlers l.items.now + outside l.outer.now

abbrev pub decreases-tried : goal.decreases-tried
decreases-tried l = 4 + (plan_weights l.body.now + (plan_weights_handlers l.items.now + plan_weights l.other.now)) +
    outside l.around.now

abbrev pub decreases-tried_finally : goal.decreases-tried_finally
decreases-tried_finally l = 5 + (plan_weights l.inner.now + plan_weights l.last.now) + outside l.around.now

abbrev pub invariant-block-loop-x : goal.invariant-block-loop-x
invariant-block-loop-x l = Rest (env_of l.around) l.initial.e
    (planned_all l.items l.names (around_of l.names l.around)) l.e
    (planned_all (drop l.x-index l.items) l.names (around_of l.names l.around)) ×
    (plan_weights (drop l.x-index l.items) ≤ plan_weights l.items)

abbrev pub invariant-arms-loop-x : goal.invariant-arms-loop-x
invariant-arms-loop-x l = Rest (λ ls. frame_there l.end 1 0 ls ∷ env_of l.around ls) l.initial.e
    (planned_arms l.items l.names (around_of l.names l.around)) l.e
    (planned_arms (drop l.x-index l.items) l.names (around_of l.names l.around)) ×
    (plan_weights_arms (drop l.x-index l.items) ≤ plan_weights_arms l.items)

abbrev pub invariant-handlers-loop-x : goal.invariant-handlers-loop-x
invariant-handlers-loop-x l = Rest (λ ls. frame_there l.base 2 l.slot ls ∷ env_of l.outer ls) l.initial.e
    (planned_handlers l.items l.names (around_of l.names l.outer)) l.e
    (planned_handlers (drop l.x-index l.items) l.names (around_of l.names l.outer)) ×
    (plan_weights_handlers (drop l.x-index l.items) ≤ plan_weights_handlers l.items)
