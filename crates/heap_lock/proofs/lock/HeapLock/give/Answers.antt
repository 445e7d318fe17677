use Rattle.std.proofs.Common.{rules, ◌≡◌, Some, IfSome, ap, ◌∙◌, sym, subst, true}
use Rattle.heap_lock.specs.Views.{SeatView}
use Rattle.heap_lock.proofs.RuleLemmas.{gives_at}
use Rattle.heap_lock.proofs.lock.HeapLock.give.Goals as goal

pub store-requires : goal.store-requires
store-requires g c =
    let seat = c.seat.inside.inner.me in
    let after = c.exchange-before.new.seat in
    let holds : seat.0.holds ≡ true = ap (λ (s : SeatView g.row.T.Denot g.row.T-Description.Denot). s.holds)
    c.seat.view_is ∙ c.requires.holds in
    let fits : seat.0.job ≡ Some (g.T.Job.job c.args.value) =
    ap (λ (s : SeatView g.row.T.Denot g.row.T-Description.Denot). s.job) c.seat.view_is ∙ c.requires.job in
    let taken : seat.0.taken ≡ c.args.seat.now.taken =
    ap (λ (s : SeatView g.row.T.Denot g.row.T-Description.Denot). s.taken) c.seat.view_is in
    let grown : (y : g.row.T.Denot) → seat.0.taken ≡ Some y → g.T.Job.grows y c.args.value =
    λ y is. subst (λ o. IfSome o (λ x. g.T.Job.grows x c.args.value)) (sym taken ∙ is) c.requires.grown in
    let job = g.T.Job in
    let key = c.self.inside.table.shared.key in (
      search rules,
      search rules,
      gives_at job.job job.good job.grows job.grows_same job.grows_then key.parts (job.job key.opening.value) _
          after.id seat after.me c.args.value
          c.self.invariant.1 c.seat.invariant holds c.requires.good fits grown c.exchange-before.ensures.3,
    )
