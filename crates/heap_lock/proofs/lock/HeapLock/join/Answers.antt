use Rattle.std.proofs.Common.{rules, arith, ◌≡◌, ap, ◌∙◌, ◌++◌, false}
use Rattle.heap_lock.specs.Parts.{merged}
use Rattle.heap_lock.specs.Views.{SeatView}
use Rattle.heap_lock.proofs.PartsLemmas.{merged_some, descending_merged, length_merged}
use Rattle.heap_lock.proofs.RuleLemmas.{joins_lock, seat_with}
use Rattle.heap_lock.proofs.lock.HeapLock.join.Goals as goal

pub join_seat-requires : goal.join_seat-requires
join_seat-requires g c =
    let v = c.seat.inside.inner.me.0 in
    let other = c.into_inner.result.me.0 in
    let free : v.holds ≡ false = ap (λ (s : SeatView g.row.T.Denot g.row.T-Description.Denot). s.holds) c.seat.view_is
    ∙ c.requires.free.0 in
    let other_free : other.holds ≡ false = c.into_inner.ensures.holds ∙ c.requires.free.1 in
    let job = g.T.Job in
    let key = c.self.inside.table.shared.key in (
      search rules,
      search rules,
      c.into_inner.ensures.seat.nothing_out other_free,
      search rules,
      joins_lock job.job job.good job.grows job.grows_same job.grows_then key.parts (job.job key.opening.value) _ v _
          other c.seat.invariant.live free other_free,
    )

pub invariant_of-seat : goal.invariant_of-seat
invariant_of-seat g c =
    let seat = c.seat.inside.inner.me in
    let is = c.seat.invariant in
    let other = c.into_inner.result.me.0.parts in
    let seen = c.into_inner.result.me.0.seen in
    rw c.join_seat.ensures.2
    (seat_with seat (merged other seat.0.parts) (seat.0.seen ++ seen) is (merged_some other seat.0.parts is.live)
    (descending_merged other seat.0.parts is.descending))

pub returns-clause-count : goal.returns-clause-count
returns-clause-count g c =
    let mine : c.seat.inside.inner.me.0.parts ≡ c.args.seat.now.parts =
    ap (λ (s : SeatView g.row.T.Denot g.row.T-Description.Denot). s.parts) c.seat.view_is in
    rw (
      c.join_seat.ensures.2,
      length_merged c.into_inner.result.me.0.parts c.seat.inside.inner.me.0.parts,
      mine,
      c.into_inner.ensures.parts,
    ) (omega arith)
