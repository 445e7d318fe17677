use Rattle.std.proofs.Common.{◌≡◌, ◌+◌, ◌*◌, ◌≤◌, length}
use Rattle.py_tree.specs.Tall.{tall, talls, tall_arm, tall_arms, tall_clause, tall_handler, tall_handlers}
use Rattle.py_uses.specs.inner.Tallies.{arms_uses, block_uses, done, handlers_uses, inside}
use Rattle.py_uses.proofs.body_uses.+statements.Given as goal

abbrev pub invariant-block-items : goal.invariant-block-items
invariant-block-items l = (done l.out (inside l.all l.b) (block_uses l.all l.rest) ≡ done l.initial.out
    (inside l.all l.b) (block_uses l.all l.items)) × (talls l.rest ≤ talls l.items)

abbrev pub decreases-block-items : goal.decreases-block-items
decreases-block-items l = length l.rest

abbrev pub invariant-arms-items : goal.invariant-arms-items
invariant-arms-items l = (done l.out (inside l.all l.b) (arms_uses l.all l.rest) ≡ done l.initial.out
    (inside l.all l.b) (arms_uses l.all l.items)) × (tall_arms l.rest ≤ tall_arms l.items)

abbrev pub decreases-arms-items : goal.decreases-arms-items
decreases-arms-items l = length l.rest

abbrev pub invariant-handlers-items : goal.invariant-handlers-items
invariant-handlers-items l = (done l.out (inside l.all l.b) (handlers_uses l.all l.rest) ≡ done l.initial.out
    (inside l.all l.b) (handlers_uses l.all l.items)) × (tall_handlers l.rest ≤ tall_handlers l.items)

abbrev pub decreases-handlers-items : goal.decreases-handlers-items
decreases-handlers-items l = length l.rest

abbrev pub decreases-statement : goal.decreases-statement
decreases-statement l = 8 * tall l.x.now

abbrev pub decreases-def : goal.decreases-def
decreases-def l = 8 * talls l.body.now + 3

abbrev pub decreases-class : goal.decreases-class
decreases-class l = 8 * talls l.body.now + 3

abbrev pub decreases-block : goal.decreases-block
decreases-block l = 8 * talls l.items.now + 2

abbrev pub decreases-arm : goal.decreases-arm
decreases-arm l = 8 * tall_arm l.x.now + 3

abbrev pub decreases-arms : goal.decreases-arms
decreases-arms l = 8 * tall_arms l.items.now + 4

abbrev pub decreases-clause : goal.decreases-clause
decreases-clause l = 8 * tall_clause l.x.now + 3

abbrev pub decreases-handler : goal.decreases-handler
decreases-handler l = 8 * tall_handler l.x.now + 3

abbrev pub decreases-handlers : goal.decreases-handlers
decreases-handlers l = 8 * tall_handlers l.items.now + 4
