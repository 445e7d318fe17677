use Rattle.std.proofs.Common.{rules, ◌≡◌, ◌≤◌, length, sym, ap, ◌∙◌, subst, false}
use Rattle.heap_lock.specs.Views.{SeatView}
use Rattle.heap_lock.proofs.RuleLemmas.{splits_lock}
use Rattle.heap_lock.proofs.lock.HeapLock.split.Goals as goal

pub split_seat-inner-requires : goal.split_seat-inner-requires
split_seat-inner-requires g c =
    let v = c.seat.inside.inner.me.0 in
    let free : v.holds ≡ false = ap (λ (s : SeatView g.row.T.Denot g.row.T-Description.Denot). s.holds) c.seat.view_is
    ∙ c.requires.free in
    let two : 2 ≤ length v.parts = subst (λ (s : SeatView g.row.T.Denot g.row.T-Description.Denot). 2 ≤ length s.parts)
    (sym c.seat.view_is) c.requires.parts in
    let job = g.T.Job in
    let key = c.self.inside.table.shared.key in (
      search rules,
      search rules,
      splits_lock job.job job.good job.grows job.grows_same job.grows_then key.parts
          (job.job key.opening.value) _ v free two,
    )
