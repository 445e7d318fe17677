use Rattle.std.proofs.Common.{refl, ap}
use Rattle.stm_segment.specs.Devices.{device_state}
use Rattle.stm_segment.proofs.Fits.{fit_start}
use Rattle.stm_segment.proofs.Seeing.{start_done, start_refused}
use Rattle.stm_segment.proofs.view.SegViewView.start_thread.Goals as goal

pub returns-in-Ok : goal.returns-in-Ok
returns-in-Ok g c = (
  (
    start_done c.args.self.now.segment c.args.self.now.side (g.S.SegStore.meaning c.args.self.now.store.now)
        (g.S.SegStore.reserved c.args.self.now.store.now) c.args.self.now.books.now c.start.new.self
        c.args.self.now.progress.now c.start.new.progress
        c.args.self.now.last c.args.s c.args.self.now.fits.out c.requires.live c.start.ensures.rest
        c.start.ensures.threads c.in-Ok.ensures.ok.2,
    refl,
    record { segment_is = refl; me_is = refl; same_is = (refl, refl, refl, refl) },
    tt,
  ),
  refl,
)

pub returns-in-Err : goal.returns-in-Err
returns-in-Err g c = (
  (
    start_refused c.args.self.now.segment c.args.self.now.side c.args.s (g.S.SegStore.meaning c.args.self.now.store.now)
        (g.S.SegStore.meaning c.fail.new.self.store.now) (g.S.SegStore.reserved c.args.self.now.store.now)
        (g.S.SegStore.reserved c.fail.new.self.store.now)
        c.args.self.now.books.now c.start.new.self c.fail.new.self.books.now c.args.self.now.progress.now
        c.start.new.progress c.fail.new.self.progress.now c.args.self.now.last c.fail.new.self.last
        c.fail.ensures.last
        (ap g.S.SegStore.meaning c.fail.ensures.store) (ap g.S.SegStore.reserved c.fail.ensures.store)
        c.start.ensures.rest c.start.ensures.threads c.fail.ensures.books c.in-Err.ensures.err.1
        c.fail.ensures.progress,
    ap (λ z. device_state g.I.Source.state g.O.Sink.state g.E.Sink.state z.now) c.fail.ensures.stays.2,
    record {
      segment_is = c.fail.ensures.stays.0;
      me_is = c.fail.ensures.stays.1;
      same_is = (
        c.fail.ensures.refs.0,
        c.fail.ensures.refs.1,
        c.fail.ensures.refs.2,
        ap (λ z. z.ghost_name) c.fail.ensures.stays.2,
      );
    },
    tt,
    c.fail.ensures.word,
  ),
  ap g.S.SegStore.peaks c.fail.ensures.store,
)

pub invariant_of-self : goal.invariant_of-self
invariant_of-self g c = record {
  fits = fit_start c.start.result c.args.self.now.segment
      (g.S.SegStore.meaning c.args.self.now.store.now) c.args.self.now.books.now c.start.new.self
      c.args.self.now.progress.now c.start.new.progress c.args.s c.args.self.now.fits c.start.ensures.rest
      c.start.ensures.room c.start.ensures.ok c.start.ensures.err;
}
