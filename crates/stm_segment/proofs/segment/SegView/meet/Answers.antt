use Rattle.std.proofs.Common.{refl, ap}
use Rattle.stm_segment.specs.inner.Hold.{holding}
use Rattle.stm_segment.proofs.Holding.{meets_lock, dooms_one, dooms_hand, held_then, fails_lost}
use Rattle.stm_segment.proofs.segment.SegView.meet.Goals as goal

pub returns-then-not-wins-clause-held : goal.returns-then-not-wins-clause-held
returns-then-not-wins-clause-held g c = (
  c.fail.ensures.word,
  fails_lost c.args.self.now.segment c.args.self.now.side c.args.a.0 c.args.j _
      (g.S.SegStore.meaning c.args.self.now.store.now) (g.S.SegStore.meaning c.fail.new.self.store.now)
      (g.S.SegStore.reserved c.args.self.now.store.now) (g.S.SegStore.reserved c.fail.new.self.store.now)
      c.args.self.now.books.now c.fail.new.self.books.now c.args.self.now.progress.now c.fail.new.self.progress.now
      c.args.self.now.last c.fail.new.self.last c.requires.other c.requires.runs
      refl c.side-writer.ensures refl refl refl (cc)
      (meets_lock (g.S.SegStore.reserved c.args.self.now.store.now) (g.S.SegStore.meaning c.args.self.now.store.now)
      c.args.j c.args.self.now.segment c.args.a.0 c.known.ensures.store c.requires.other c.requires.there
      c.requires.held)
      (ap g.S.SegStore.meaning c.fail.ensures.store) (ap g.S.SegStore.reserved c.fail.ensures.store)
      c.fail.ensures.books c.fail.ensures.progress c.fail.ensures.last,
)

pub returns-clause-held : goal.returns-clause-held
returns-clause-held g c =
    held_then c.args.self.now.segment c.args.self.now.side c.args.j _
    (g.S.SegStore.meaning c.args.self.now.store.now) (g.S.SegStore.reserved c.args.self.now.store.now)
    c.args.self.now.books.now c.args.self.now.progress.now c.args.self.now.last
    c.doom.new.self.segment c.doom.new.self.side (g.S.SegStore.meaning c.doom.new.self.store.now)
    (g.S.SegStore.reserved c.doom.new.self.store.now) c.doom.new.self.books.now c.doom.new.self.progress.now
    c.doom.new.self.last
    (record {
      dooms = dooms_hand c.args.self.now.segment c.args.self.now.side c.args.j _
          (g.S.SegStore.meaning c.args.self.now.store.now) c.args.self.now.books.now c.doom.new.self.books.now
          c.requires.other
          (dooms_one c.args.self.now.segment c.args.self.now.side c.args.j _
          (g.S.SegStore.meaning c.args.self.now.store.now) c.args.self.now.books.now c.doom.new.self.books.now
          c.requires.other c.requires.runs c.side-writer.ensures refl refl refl (cc)
          (meets_lock (g.S.SegStore.reserved c.args.self.now.store.now)
          (g.S.SegStore.meaning c.args.self.now.store.now) c.args.j c.args.self.now.segment c.args.a.0
          c.known.ensures.store c.requires.other c.requires.there c.requires.held)
          c.doom.ensures.books c.doom.ensures.hands c.doom.ensures.conflicts)
          c.doom.ensures.books c.doom.ensures.hands;
      segment = c.doom.ensures.stays.0;
      me_is = c.doom.ensures.stays.1;
      meaning = c.doom.ensures.store;
      reserved = c.doom.ensures.reserved;
      progress = c.doom.ensures.progress;
      last = c.doom.ensures.last;
    }) c.args.a.0 refl (holding (g.S.SegStore.meaning c.lock.new.self.store.now)
    (g.S.SegStore.reserved c.lock.new.self.store.now) c.lock.new.self.books.now c.lock.new.self.progress.now
    c.lock.new.self.last) c.lock.result c.lock.ensures.held
