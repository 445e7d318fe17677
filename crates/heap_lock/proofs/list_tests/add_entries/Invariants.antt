use Rattle.std.proofs.Common.{◌≡◌, ◌≤◌, ◌++◌, ℕ, List, All, true, length}
use Rattle.heap_lock.specs.declared.list_tests.Log.{Log}
use Rattle.heap_lock.proofs.list_tests.add_entries.Given as goal

-- what has grown from all that the seat has seen is no shorter than the list that it gave last
abbrev pub invariant-loop : goal.invariant-loop
invariant-loop g l =
    (l.none_shorter ≡ true)
    × (l.seat ≡ record l.initial.seat { seen = l.seat.seen; taken = l.seat.taken })
    × ((x : Log) → All (λ (y : Log). (more : List ℕ) × (x.entries.items ≡ y.entries.items ++ more)) l.seat.seen →
    l.last ≤ length x.entries.items)
