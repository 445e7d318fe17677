use Rattle.std.proofs.Common.{rules, ap}
use Rattle.heap_lock.specs.Views.{SeatView}
use Rattle.heap_lock.proofs.SeenLemmas.{seen_before_give}
use Rattle.stm_workers.proofs.crew.make_visits.Goals as goal

pub loop-preserved : goal.loop-preserved
loop-preserved g c =
    let gave = ap (λ (s : SeatView g.row.T.Denot g.row.T-Description.Denot). s.seen) c.give.ensures.seat in
    let job = g.T.Job in (
      search rules,
      λ x all. c.loop.invariant.1 x (seen_before_give job.grows job.grows_then c.loop.seat.seen c.give.new.seat.seen
          c.take-value.result c.visit-visit.new.value x
          c.take-value.ensures.later c.visit-visit.ensures.grows gave all),
      search rules,
    )

pub returns-then-is_last-clause-seen : goal.returns-then-is_last-clause-seen
returns-then-is_last-clause-seen g c =
    let gave = ap (λ (s : SeatView g.row.T.Denot g.row.T-Description.Denot). s.seen) c.give.ensures.seat in
    let job = g.T.Job in
    λ x all. c.loop.invariant.1 x (seen_before_give job.grows job.grows_then c.loop.seat.seen c.give.new.seat.seen
    c.take-value.result c.visit-visit.new.value x
    c.take-value.ensures.later c.visit-visit.ensures.grows gave all)
