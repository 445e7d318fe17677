use Rattle.std.proofs.Common.{rules, ◌≡◌, List, ◌∷◌, ℕ, Option, Some, sym, ap, ◌∙◌, false}
use Rattle.atomic_table.specs.Table.{rest, Me}
use Rattle.heap_lock.specs.declared.view.View.{View}
use Rattle.heap_lock.specs.Views.{SeatView}
use Rattle.heap_lock.proofs.RuleLemmas.{takes_at}
use Rattle.heap_lock.proofs.lock.HeapLock.try_take.Goals as goal

pub compare_exchange-found-requires : goal.compare_exchange-found-requires
compare_exchange-found-requires g c =
    let seat = c.seat.inside.inner in
    let free : seat.me.0.holds ≡ false = ap (λ (s : SeatView g.row.T.Denot g.row.T-Description.Denot). s.holds)
    c.seat.view_is ∙ c.requires.free in
    let job = g.T.Job in
    let key = c.self.inside.table.shared.key in (
      search rules,
      search rules,
      takes_at job.job job.good job.grows job.grows_same job.grows_then key.parts (job.job key.opening.value) _ seat.id
          seat.me c.self.invariant.1 c.seat.invariant free,
    )

-- where the word was 0, the slot is out with the seat
pub exchange-requires : goal.exchange-requires
exchange-requires g c =
    let taken = c.compare_exchange-found.ensures.2.0 c.if-found-ne0.false in
    let out = ap (λ (m : Me (Option g.row.T.Denot) (View g.row.T.Denot g.row.T-Description.Denot)). m.1) taken.1 in (
      search rules,
      (
        Some taken.0,
        out ∙ ap (λ (l : List (ℕ × Option g.row.T.Denot)). (0, Some taken.0) ∷ rest l)
            (sym out),
      ),
    )
