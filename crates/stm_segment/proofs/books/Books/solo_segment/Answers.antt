use Rattle.std.proofs.Common.{◌≡◌, false, slice_get, Some, arith, sym, ap, ◌∙◌, below_more}
use Rattle.std.proofs.lemmas.Option.{slice_get_within}
use Rattle.stm_segment.specs.declared.books.Work.{Work}
use Rattle.stm_segment.specs.declared.books.Hand.TheVariants.{Runs}
use Rattle.stm_segment.proofs.Hands.{at_turn, not_running}
use Rattle.stm_segment.proofs.books.Books.solo_segment.Goals.{in-Runs+else-work, in_default}
use Rattle.stm_segment.proofs.books.Books.solo_segment.Goals as goal

pub returns-then-work : goal.returns-then-work
returns-then-work g c =
    let n = c.len-j-end.ensures in
    let lt = c.loop-j-test.true in (
      c.in-Runs.work,
      at_turn c.args.self.now.hands.items c.loop-j.j c.index.result.now (omega (arith, n, lt))
          c.index.ensures ∙ ap Some c.in-Runs.is,
      c.if-work.true,
    )

pub loop-j-preserved : goal.loop-j-preserved
loop-j-preserved g c = λ i x lt is.
    let hs = c.args.self.now.hands.items in
    let n = c.len-j-end.ensures in
    let turn = c.loop-j-test.true in
    let at = at_turn hs c.loop-j.j c.index.result.now (omega (arith, n, turn)) c.index.ensures in
    below_more (λ k. (z : Work g.row.T.Denot) → slice_get hs k ≡ Some (Runs z) → z.solo ≡ false) c.loop-j.j
    (λ k l z e. c.loop-j.invariant k z l e)
    (λ z e. elim c.match-index.branch [
      | in-Runs+else-work w ↦ let same : w.in-Runs.work ≡ z =
          (let u : Some (Runs w.in-Runs.work) ≡ Some (Runs z) = sym (at ∙ ap Some w.in-Runs.is) ∙ e in cc) in
          ap (λ (q : Work g.row.T.Denot). q.solo) (sym same) ∙ w.if-work.false
      | in_default w ↦ absurd (w.in_default.not-Runs z (not_running hs c.loop-j.j c.index.result.now z at e))
    ]) i lt x is

pub returns : goal.returns
returns g c = λ i x is. c.loop-j.invariant i x (let lt = slice_get_within c.args.self.now.hands.items i (Runs x) is in
    let n = c.len-j-end.ensures in let f = c.loop-j-test.false in omega (arith, lt, n, f)) is
