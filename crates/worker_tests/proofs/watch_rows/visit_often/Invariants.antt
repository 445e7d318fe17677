use Rattle.std.proofs.Common.{◌≡◌, ◌≤◌, All, true}
use Rattle.worker_tests.proofs.watch_rows.visit_often.Given as goal

-- what has grown from all that the seat has seen has no fewer turns than the value that it gave last
abbrev pub invariant-loop : goal.invariant-loop
invariant-loop g l =
    (l.none_fewer ≡ true)
    × (l.seat ≡ record l.initial.seat { seen = l.seat.seen; taken = l.seat.taken })
    × ((x : g.row.T.Denot) → All (λ y. g.T.Job.grows y x) l.seat.seen → l.last ≤ g.W.Watch.turns x)
