use Rattle.std.proofs.Common.{All, ap, subst}
use Rattle.heap_lock.specs.Views.{SeatView}
use Rattle.stm_workers.proofs.Joined.{seen_before_join}
use Rattle.stm_workers.proofs.crew.+fn-run_all-join+arg2+run_all.Goals as goal

pub returns-clause-seen : goal.returns-clause-seen
returns-clause-seen g t c =
    let seen = λ (s : SeatView g.row.T.Denot g.row.T-Description.Denot). s.seen in
    λ x all. subst (λ l. All (λ y. g.T.Job.grows y x) l) (ap seen c.split-other.ensures.seat)
    (c.join-seat.ensures.first.1 x (seen_before_join (λ y. g.T.Job.grows y x) c.join-seat.result.0.seen
    c.join-seat.result.1.seen c.join.new.seat.seen (ap seen c.join.ensures.seat) all))
