use Rattle.stm_segment.proofs.Fits.{fit_open}
use Rattle.stm_segment.proofs.view.SegViewView.open_step.Goals as goal

pub invariant_of-self : goal.invariant_of-self
invariant_of-self g c = record {
  fits = fit_open c.args.self.now.segment
      (g.S.SegStore.meaning c.args.self.now.store.now) (g.S.SegStore.meaning c.open_step.new.self)
      c.args.self.now.books.now c.args.self.now.progress.now c.open.new.self c.args.self.now.fits
      c.open_step.ensures.meaning c.open.ensures;
}
