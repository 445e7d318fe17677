use Rattle.std.proofs.Common.{None, refl, sym, ◌∙◌, ap, subst, ◌≤◌}
use Rattle.py_data.specs.Made.{rec_of}
use Rattle.seg_store.specs.Extents.{Wants, extents}
use Rattle.stm_segment.specs.Devices.{device_state}
use Rattle.stm_segment.specs.inner.Hold.{FaultWhy}
use Rattle.stm_segment.proofs.Peaks.{there_done, there_refused}
use Rattle.stm_segment.proofs.Seeing.{make_done, make_refused}
use Rattle.stm_segment.proofs.view.SegViewView.make.Goals as goal

pub returns-in-Ok : goal.returns-in-Ok
returns-in-Ok g c = (
  (
    make_done c.args.self.now.segment c.args.self.now.side (g.S.SegStore.meaning c.args.self.now.store.now)
        (g.S.SegStore.meaning c.name_made.new.self.store.now) (g.S.SegStore.reserved c.args.self.now.store.now)
        (g.S.SegStore.reserved c.name_made.new.self.store.now) c.args.self.now.books.now c.name_made.new.self.books.now
        c.args.self.now.progress.now c.name_made.new.self.progress.now c.args.self.now.last
        c.name_made.new.self.last
        (rec_of c.args.r.now) c.in-Ok.n c.args.self.now.fits.out c.requires.live c.in-Ok.ensures.fresh
        c.in-Ok.ensures.ok
        c.name_made.ensures.reserved c.name_made.ensures.books c.in-Ok.ensures.names c.name_made.ensures.last,
    ap (λ z. device_state g.I.Source.state g.O.Sink.state g.E.Sink.state z.now) c.name_made.ensures.stays.2,
    record {
      segment_is = c.name_made.ensures.stays.0;
      me_is = c.name_made.ensures.stays.1;
      same_is = (
        c.name_made.ensures.refs.0,
        c.name_made.ensures.refs.1,
        c.name_made.ensures.refs.2,
        ap (λ z. z.ghost_name) c.name_made.ensures.stays.2,
      );
    },
    tt,
  ),
  there_done c.name_made.new.self.segment (g.S.SegStore.reserved c.name_made.new.self.store.now)
      (g.S.SegStore.meaning c.name_made.new.self.store.now) c.name_made.new.self.books.now
      c.name_made.new.self.progress.now (g.S.SegStore.peaks c.args.self.now.store.now)
      (g.S.SegStore.peaks c.args.self.now.store.now) (g.S.SegStore.peaks c.name_made.new.self.store.now)
      c.known.ensures.store c.name_made.new.self.fits refl c.in-Ok.ensures.peaks,
)

pub returns-in-Err : goal.returns-in-Err
returns-in-Err g c = (
  (
    make_refused c.args.self.now.segment c.args.self.now.side (g.S.SegStore.meaning c.args.self.now.store.now)
        (g.S.SegStore.meaning c.refuse.new.self.store.now) (g.S.SegStore.reserved c.args.self.now.store.now)
        (g.S.SegStore.reserved c.refuse.new.self.store.now) c.args.self.now.books.now c.refuse.new.self.books.now
        c.args.self.now.progress.now c.refuse.new.self.progress.now c.args.self.now.last c.refuse.new.self.last
        (rec_of c.args.r.now) c.in-Err.fault (ap g.S.SegStore.meaning c.refuse.ensures.store ∙
        c.in-Err.ensures.err)
        (subst (λ n. g.S.SegStore.reserved c.args.self.now.store.now ≤ n)
        (sym (ap g.S.SegStore.reserved c.refuse.ensures.store)) c.name_made.ensures.reserved)
        (c.refuse.ensures.books ∙ c.name_made.ensures.books)
        (c.refuse.ensures.progress ∙ c.in-Err.ensures.same) c.refuse.ensures.last
        (subst (λ n. FaultWhy (Wants None (rec_of c.args.r.now)) n
        (g.S.SegStore.meaning c.args.self.now.store.now).limit
        c.in-Err.fault) (sym (ap g.S.SegStore.reserved c.refuse.ensures.store)) c.in-Err.ensures.cause),
    ap (λ z. device_state g.I.Source.state g.O.Sink.state g.E.Sink.state z.now)
        (c.refuse.ensures.stays.2 ∙ c.name_made.ensures.stays.2),
    record {
      segment_is = c.refuse.ensures.stays.0 ∙ c.name_made.ensures.stays.0;
      me_is = c.refuse.ensures.stays.1 ∙ c.name_made.ensures.stays.1;
      same_is = (
        c.refuse.ensures.refs.0 ∙ c.name_made.ensures.refs.0,
        c.refuse.ensures.refs.1 ∙
            c.name_made.ensures.refs.1,
        c.refuse.ensures.refs.2 ∙ c.name_made.ensures.refs.2,
        ap (λ z. z.ghost_name) (c.refuse.ensures.stays.2 ∙ c.name_made.ensures.stays.2),
      );
    },
    tt,
    c.refuse.ensures.word,
  ),
  there_refused c.args.self.now.segment (g.S.SegStore.reserved c.name_made.new.self.store.now)
      (g.S.SegStore.meaning c.args.self.now.store.now) (g.S.SegStore.meaning c.name_made.new.self.store.now)
      c.args.self.now.books.now c.args.self.now.progress.now (extents (rec_of c.args.r.now))
      (g.S.SegStore.peaks c.args.self.now.store.now) (g.S.SegStore.peaks c.name_made.new.self.store.now)
      (g.S.SegStore.peaks c.refuse.new.self.store.now) c.known-in-Err.ensures.store c.in-Err.ensures.err
      c.args.self.now.fits (ap g.S.SegStore.peaks c.refuse.ensures.store) c.in-Err.ensures.peaks_err,
)
