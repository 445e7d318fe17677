use Rattle.std.proofs.Common.{◌≡◌, ◌≢◌, slice_get, Some, arith, sym, subst, below_more}
use Rattle.std.proofs.lemmas.Option.{slice_get_within}
use Rattle.stm_segment.specs.declared.books.Work.{Work}
use Rattle.stm_segment.specs.declared.books.Hand.TheVariants.{Runs}
use Rattle.stm_segment.proofs.Hands.{at_turn, other_thread, not_running}
use Rattle.stm_segment.proofs.books.Books.runs_thread.Goals.{in-Runs+else-work-t, in_default}
use Rattle.stm_segment.proofs.books.Books.runs_thread.Goals as goal

pub returns-then-work-t-clause-yes : goal.returns-then-work-t-clause-yes
returns-then-work-t-clause-yes g c = λ e.
    let hs = c.deref-hand-items.result.now in
    let at = at_turn hs c.loop-hand.hand-index c.hand-item.result c.loop-hand-test.true c.hand-item.is in
    let same : c.hand-item.result ≡ Runs c.in-Runs.work = c.in-Runs.is in (
      c.loop-hand.hand-index,
      c.in-Runs.work,
      subst (λ l. slice_get l c.loop-hand.hand-index ≡ Some (Runs c.in-Runs.work)) c.deref-hand-items.ensures.value
          (subst (λ h. slice_get hs c.loop-hand.hand-index ≡ Some h) same at),
      c.if-work-t.true,
    )

pub loop-hand-preserved : goal.loop-hand-preserved
loop-hand-preserved g c = λ j y lt is.
    let hs = c.deref-hand-items.result.now in
    let at = at_turn hs c.loop-hand.hand-index c.hand-item.result c.loop-hand-test.true c.hand-item.is in
    below_more (λ k. (z : Work g.row.T.Denot) → slice_get hs k ≡ Some (Runs z) → c.args.t ≢ z.thread)
    c.loop-hand.hand-index (λ k l z e. c.loop-hand.invariant k z l e)
    (λ z e. elim c.match-hand.branch [
      | in-Runs+else-work-t w ↦ other_thread hs c.loop-hand.hand-index c.args.t c.hand-item.result w.in-Runs.work z at
          w.in-Runs.is w.if-work-t.false e
      | in_default w ↦ λ q. w.in_default.not-Runs z (not_running hs c.loop-hand.hand-index c.hand-item.result z at e)
    ]) j lt y is

pub returns-clause-not : goal.returns-clause-not
returns-clause-not g c = λ e j y is.
    let hs = c.deref-hand-items.result.now in
    let is1 : slice_get hs j ≡ Some (Runs y) =
    subst (λ l. slice_get l j ≡ Some (Runs y)) (sym c.deref-hand-items.ensures.value) is in
    c.loop-hand.invariant j y (let lt = slice_get_within hs j (Runs y) is1 in let f = c.loop-hand-test.false in
    omega (arith, lt, f)) is1
