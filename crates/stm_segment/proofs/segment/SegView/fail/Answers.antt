use Rattle.std.proofs.Common.{◌≡◌, Some, refl, ap, subst, arith}
use Rattle.seg_store.specs.Meaning.{sees}
use Rattle.stm_segment.specs.declared.halt.LastStop.{LastStop}
use Rattle.stm_segment.specs.inner.Halts.{gave}
use Rattle.stm_segment.specs.inner.Hold.{SegWhy, holding}
use Rattle.stm_segment.proofs.Seeing.{refused_alone}
use Rattle.stm_segment.proofs.segment.SegView.fail.Goals as goal

pub returns-clause-refuses : goal.returns-clause-refuses
returns-clause-refuses g c = λ q why.
    let v = c.args.self.now in
    let m = g.S.SegStore.meaning v.store.now in
    let r = g.S.SegStore.reserved v.store.now in
    let last : LastStop = record { stopped = Some c.stop-stop.result; halt = c.args.halt } in
    let is : last ≡ gave c.args.halt = ap (λ z. record { stopped = Some z; halt = c.args.halt }) c.stop-stop.ensures in
    refused_alone v.segment v.side q m m r r v.books.now v.books.now v.progress.now v.progress.now v.last last
    c.args.halt refl (omega arith) refl refl is
    (subst (λ z. SegWhy v.segment v.side c.args.halt q (sees m v.segment)
    (holding m r v.books.now v.progress.now z)) is why)
