use Rattle.std.proofs.Common.{refl, length}
use Rattle.stm_segment.proofs.Fits.{fit_undo, undone_pending}
use Rattle.stm_segment.proofs.view.SegViewView.undo_step.Goals as goal

pub invariant_of-self : goal.invariant_of-self
invariant_of-self g c = record {
  fits = fit_undo c.args.self.now.segment (g.S.SegStore.meaning c.args.self.now.store.now)
      (g.S.SegStore.meaning c.undo_step.new.self) c.args.self.now.books.now _ c.args.self.now.progress.now
      c.undo.new.self c.undo.result c.args.self.now.fits c.undo_step.ensures.meaning c.undo.ensures.back
      c.undo.ensures.count refl
      (undone_pending c.args.self.now.segment (g.S.SegStore.meaning c.args.self.now.store.now)
      c.args.self.now.books.now c.args.self.now.progress.now c.undo.result (length c.undo.new.self.started)
      c.args.self.now.fits c.undo.ensures.count);
}
