use Rattle.std.proofs.lemmas.Result.{on_err_weaker}
use Rattle.stm_segment.specs.inner.Hold.{holding}
use Rattle.stm_segment.proofs.Holding.{holds_looked, fails_memory, held_by_cases, on_ok_two}
use Rattle.stm_segment.proofs.segment.SegView.look_held.Goals as goal

pub returns-clause-held : goal.returns-clause-held
returns-clause-held g c =
    held_by_cases c.args.self.now.segment c.args.self.now.side c.args.a.0 c.look.result
    (holding (g.S.SegStore.meaning c.args.self.now.store.now) (g.S.SegStore.reserved c.args.self.now.store.now)
    c.args.self.now.books.now c.args.self.now.progress.now c.args.self.now.last)
    (holding (g.S.SegStore.meaning c.look.new.self.store.now) (g.S.SegStore.reserved c.look.new.self.store.now)
    c.look.new.self.books.now c.look.new.self.progress.now c.look.new.self.last)
    (on_ok_two c.look.result (λ h e. holds_looked c.args.self.now.side c.args.a.0 c.args.self.now.segment
    (g.S.SegStore.meaning c.args.self.now.store.now) (g.S.SegStore.meaning c.look.new.self.store.now)
    (g.S.SegStore.reserved c.args.self.now.store.now) (g.S.SegStore.reserved c.look.new.self.store.now)
    c.args.self.now.books.now c.look.new.self.books.now c.args.self.now.progress.now c.look.new.self.progress.now
    c.args.self.now.last c.look.new.self.last c.args.self.now.fits.out c.requires.there c.requires.tracked
    c.requires.held h c.look.ensures.reserved c.look.ensures.books c.look.ensures.progress e)
    c.look.ensures.done c.look.ensures.last) c.look.ensures.word
    (on_err_weaker c.look.result (λ h. fails_memory c.args.self.now.segment c.args.self.now.side c.args.a.0
    (g.S.SegStore.meaning c.args.self.now.store.now) (g.S.SegStore.meaning c.look.new.self.store.now)
    (g.S.SegStore.reserved c.args.self.now.store.now) (g.S.SegStore.reserved c.look.new.self.store.now)
    c.args.self.now.books.now c.look.new.self.books.now c.args.self.now.progress.now c.look.new.self.progress.now
    c.args.self.now.last c.look.new.self.last h.0 h.1 c.look.ensures.reserved c.look.ensures.books
    c.look.ensures.progress)
    c.look.ensures.err)
