use Rattle.std.proofs.Common.{◌≡◌, ◌≤◌, ◌++◌, length, drop}
use Rattle.py_states.proofs.pile.Pile.push_all.Given as goal

abbrev pub invariant-items : goal.invariant-items
invariant-items g l = (l.self.entries ≡ drop l.left l.xs ++ l.initial.self.entries) × (l.left ≤ length l.xs) ×
    (l.left ≤ l.self.room)

abbrev pub decreases-items : goal.decreases-items
decreases-items g l = l.left
