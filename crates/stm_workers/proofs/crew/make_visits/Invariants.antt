use Rattle.std.proofs.Common.{◌≡◌, All, IfSome}
use Rattle.stm_workers.proofs.crew.make_visits.Given as goal

abbrev pub invariant-loop : goal.invariant-loop
invariant-loop g l =
    (l.seat ≡ record l.initial.seat { seen = l.seat.seen; taken = l.seat.taken })
    × ((x : g.row.T.Denot) → All (λ y. g.T.Job.grows y x) l.seat.seen →
    All (λ y. g.T.Job.grows y x) l.initial.seat.seen)
    × IfSome l.done (λ d. IfSome l.seat.job (λ j. g.W.Crew.done_of j d))
