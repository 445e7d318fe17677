use Rattle.std.proofs.Common.{refl, ap, ◌∙◌}
use Rattle.stm_segment.proofs.Holding.{holds_locked, fails_memory}
use Rattle.stm_segment.proofs.Fits.{fit_lock_result}
use Rattle.stm_segment.proofs.segment.SegView.lock.Goals as goal

pub invariant_of-self : goal.invariant_of-self
invariant_of-self g c = record {
  fits = fit_lock_result c.lock.result (g.S.SegStore.reserved c.args.self.now.store.now) c.args.self.now.segment
      c.args.a.0 (g.S.SegStore.meaning c.args.self.now.store.now) (g.S.SegStore.meaning c.lock.new.self)
      c.args.self.now.books.now c.args.self.now.progress.now c.known.ensures.store c.requires.there c.requires.tracked
      c.args.self.now.fits c.lock.ensures.ok c.lock.ensures.err;
}

pub returns-in-Ok-clause-held : goal.returns-in-Ok-clause-held
returns-in-Ok-clause-held g c =
    holds_locked c.args.self.now.side c.args.a.0 c.args.self.now.segment
    (g.S.SegStore.meaning c.args.self.now.store.now) (g.S.SegStore.meaning c.lock.new.self)
    (g.S.SegStore.reserved c.args.self.now.store.now) (g.S.SegStore.reserved c.lock.new.self)
    c.args.self.now.books.now c.args.self.now.books.now c.args.self.now.progress.now c.args.self.now.progress.now
    c.args.self.now.last c.args.self.now.last c.args.self.now.fits.out c.known.ensures.store c.requires.there
    c.in-Ok.ensures.ok c.lock.ensures.reserved refl refl refl

pub returns-in-Err-clause-held : goal.returns-in-Err-clause-held
returns-in-Err-clause-held g c = (
  c.fail.ensures.word,
  fails_memory c.args.self.now.segment c.args.self.now.side c.args.a.0
      (g.S.SegStore.meaning c.args.self.now.store.now) (g.S.SegStore.meaning c.fail.new.self.store.now)
      (g.S.SegStore.reserved c.args.self.now.store.now) (g.S.SegStore.reserved c.fail.new.self.store.now)
      c.args.self.now.books.now c.fail.new.self.books.now c.args.self.now.progress.now c.fail.new.self.progress.now
      c.args.self.now.last c.fail.new.self.last c.fail.ensures.last
      (ap g.S.SegStore.meaning c.fail.ensures.store ∙ c.in-Err.ensures.err)
      (ap g.S.SegStore.reserved c.fail.ensures.store ∙ c.lock.ensures.reserved) c.fail.ensures.books
      c.fail.ensures.progress,
)
