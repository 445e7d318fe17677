use Rattle.std.proofs.lemmas.Result.{on_err_weaker, on_ok_weaker}
use Rattle.stm_segment.proofs.Holding.{on_ok_two}
use Rattle.stm_segment.proofs.Seeing.{see_done, see_refused, see_same}
use Rattle.stm_segment.proofs.segment.SegView.see.Goals as goal

pub returns-clause-ok : goal.returns-clause-ok
returns-clause-ok g c =
    on_ok_two c.look.result (λ h e. see_done c.args.self.now.side c.args.a.0 c.args.self.now.segment
    (g.S.SegStore.meaning c.args.self.now.store.now) (g.S.SegStore.meaning c.look.new.self.store.now)
    (g.S.SegStore.reserved c.args.self.now.store.now) (g.S.SegStore.reserved c.look.new.self.store.now)
    c.args.self.now.books.now c.look.new.self.books.now c.args.self.now.progress.now c.look.new.self.progress.now
    c.args.self.now.last c.look.new.self.last c.args.self.now.fits.out c.requires.there h c.look.ensures.reserved
    c.look.ensures.books c.look.ensures.progress e c.requires.live)
    c.look.ensures.done c.look.ensures.last

pub returns-clause-same : goal.returns-clause-same
returns-clause-same g c =
    on_ok_weaker c.look.result (λ h. see_same c.args.a.0 c.args.self.now.segment c.look.new.self.segment
    (g.S.SegStore.meaning c.args.self.now.store.now) (g.S.SegStore.meaning c.look.new.self.store.now)
    c.look.ensures.stays.0 h) c.look.ensures.done

pub returns-clause-err : goal.returns-clause-err
returns-clause-err g c =
    on_err_weaker c.look.result (λ h. see_refused c.args.self.now.side c.args.a.0 c.args.self.now.segment
    (g.S.SegStore.meaning c.args.self.now.store.now) (g.S.SegStore.meaning c.look.new.self.store.now)
    (g.S.SegStore.reserved c.args.self.now.store.now) (g.S.SegStore.reserved c.look.new.self.store.now)
    c.args.self.now.books.now c.look.new.self.books.now c.args.self.now.progress.now c.look.new.self.progress.now
    c.args.self.now.last c.look.new.self.last h.0 h.1 c.look.ensures.reserved c.look.ensures.books
    c.look.ensures.progress)
    c.look.ensures.err
