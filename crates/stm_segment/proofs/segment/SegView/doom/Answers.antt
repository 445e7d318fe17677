use Rattle.std.proofs.Common.{sym, ap, subst, ◌<◌}
use Rattle.stm_segment.specs.Books.{Fit}
use Rattle.stm_segment.proofs.Fits.{started_pending, runs_within, fit_doom}
use Rattle.stm_segment.proofs.segment.SegView.doom.Goals as goal

pub doom-requires-clause-pending : goal.doom-requires-clause-pending
doom-requires-clause-pending g c = started_pending c.args.self.now.segment
    (g.S.SegStore.meaning c.args.self.now.store.now) c.args.self.now.books.now c.args.self.now.progress.now c.args.j
    c.args.self.now.fits c.requires.runs

pub drop_changes-requires : goal.drop_changes-requires
drop_changes-requires g c = let h = c.args.self.now.fits.hands in
    subst (λ n. c.args.j < n) h (runs_within c.args.self.now.books.now.hands.items c.args.j c.requires.runs)

pub invariant_of-self : goal.invariant_of-self
invariant_of-self g c = record {
  fits = subst (λ m. Fit c.args.self.now.segment m c.doom.new.self c.args.self.now.progress.now)
      (sym c.drop_changes.ensures.meaning)
      (fit_doom c.args.self.now.segment (g.S.SegStore.meaning c.args.self.now.store.now) c.args.self.now.books.now
      c.doom.new.self c.args.self.now.progress.now c.args.j c.args.f c.args.self.now.fits c.requires.other
      c.requires.runs
      c.doom.ensures.hands c.doom.ensures.pending (ap (λ b. b.history.room) c.doom.ensures.rest)
      (ap (λ b. b.threads.room) c.doom.ensures.rest) c.doom.ensures.room);
}
