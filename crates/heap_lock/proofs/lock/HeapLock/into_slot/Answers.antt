use Rattle.std.proofs.Common.{List, ℕ, All, sym, ◌∙◌, subst}
use Rattle.heap_lock.specs.Parts.{HasAllParts}
use Rattle.heap_lock.specs.Views.{LockView}
use Rattle.heap_lock.proofs.RuleLemmas.{closes_lock}
use Rattle.heap_lock.proofs.lock.HeapLock.into_slot.Goals as goal

pub returns : goal.returns
returns g c =
    let seat = c.into_inner.ensures in
    let job = g.T.Job in
    let key = c.self.inside.table.shared.key in
    let all : HasAllParts key.parts c.args.seat.parts = subst (λ (l : LockView). HasAllParts l.parts c.args.seat.parts)
    (sym c.self.view_is) c.requires.all in
    let all_parts : HasAllParts key.parts c.into_inner.result.me.0.parts =
    subst (λ (parts : List ℕ). HasAllParts key.parts parts) (sym seat.parts) all in
    let got = closes_lock job.job job.good job.grows job.grows_same job.grows_then key.parts
    (job.job key.opening.value) _ c.into_inner.result.me.0 _ _ c.take-value.result
    c.close_with-closed.ensures.values.2 seat.seat.live (seat.holds ∙ c.requires.free) all_parts
    c.take-value.ensures.value in
    (got.0, got.1, got.2, sym seat.job ∙ got.3, subst (All (λ y. job.grows y got.0)) seat.seen got.4)
