use Rattle.std.proofs.Common.{◌≡◌, ◌++◌, ◌+◌, ◌*◌, ◌≤◌, length, max}
use Rattle.py_tree.specs.Tall.{tall, talls, tall_arm, tall_arms, tall_block, tall_clause, tall_handlers}
use Rattle.py_names.specs.Outline.{says_block, says_arms, says_handlers}
use Rattle.py_names.proofs.statement.+statements.Given as goal

abbrev pub invariant-block-items : goal.invariant-block-items
invariant-block-items l = (l.out ++ says_block l.rest l.place ≡ l.initial.out ++ says_block l.items l.place) ×
    (talls l.rest ≤ talls l.items)

abbrev pub decreases-block-items : goal.decreases-block-items
decreases-block-items l = length l.rest

abbrev pub invariant-arms-items : goal.invariant-arms-items
invariant-arms-items l = (l.out ++ says_arms l.rest l.place ≡ l.initial.out ++ says_arms l.items l.place) ×
    (tall_arms l.rest ≤ tall_arms l.items)

abbrev pub decreases-arms-items : goal.decreases-arms-items
decreases-arms-items l = length l.rest

abbrev pub invariant-handlers-items : goal.invariant-handlers-items
invariant-handlers-items l = (l.out ++ says_handlers l.rest l.place ≡ l.initial.out ++ says_handlers l.items l.place) ×
    (tall_handlers l.rest ≤ tall_handlers l.items)

abbrev pub decreases-handlers-items : goal.decreases-handlers-items
decreases-handlers-items l = length l.rest

abbrev pub decreases-statement : goal.decreases-statement
decreases-statement l = 8 * tall l.x.now

abbrev pub decreases-branches : goal.decreases-branches
decreases-branches l = 8 * max (tall_arms l.items.now) (tall_clause l.otherwise.now) + 5

abbrev pub decreases-while_loop : goal.decreases-while_loop
decreases-while_loop l = 8 * max (tall_arm l.x.now) (tall_clause l.otherwise.now) + 5

abbrev pub decreases-for_loop : goal.decreases-for_loop
decreases-for_loop l = 8 * max (tall_block l.body.now) (tall_clause l.otherwise.now) + 5

abbrev pub decreases-guarded : goal.decreases-guarded
decreases-guarded l = 8 * max (max (tall_block l.x.now.body) (tall_handlers l.items.now))
    (max (tall_clause l.otherwise.now) (tall_clause l.last.now)) + 5

abbrev pub decreases-function : goal.decreases-function
decreases-function l = 8 * talls l.body.now + 5

abbrev pub decreases-class : goal.decreases-class
decreases-class l = 8 * talls l.body.now + 5

abbrev pub decreases-block : goal.decreases-block
decreases-block l = 8 * talls l.items.now + 2

abbrev pub decreases-arm : goal.decreases-arm
decreases-arm l = 8 * tall_arm l.x.now + 3

abbrev pub decreases-arms : goal.decreases-arms
decreases-arms l = 8 * tall_arms l.items.now + 4

abbrev pub decreases-clause : goal.decreases-clause
decreases-clause l = 8 * tall_clause l.x.now + 3

abbrev pub decreases-handlers : goal.decreases-handlers
decreases-handlers l = 8 * tall_handlers l.items.now + 4
