use Rattle.std.proofs.Common.{◌≡◌, length}
use Rattle.stm_segment.specs.Books.{AllIdle}
use Rattle.stm_core.proofs.finish.empty_hands.Given as goal

abbrev pub invariant-hands : goal.invariant-hands
invariant-hands g l = (length l.hands.items ≡ l._j) × AllIdle l.hands.items
