use Rattle.stm_segment.proofs.Fits.{fit_mark_result}
use Rattle.stm_segment.proofs.segment.SegView.look.Goals as goal

pub invariant_of-self : goal.invariant_of-self
invariant_of-self g c = record {
  fits = fit_mark_result c.mark.result c.args.self.now.segment c.args.a.0
      (g.S.SegStore.meaning c.args.self.now.store.now) (g.S.SegStore.meaning c.mark.new.self) c.args.self.now.books.now
      c.args.self.now.progress.now c.args.self.now.fits c.mark.ensures.ok c.mark.ensures.err;
}
