use Rattle.std.proofs.Common.{◌≤◌, ap, subst, sym, ◌∙◌}
use Rattle.py_data.specs.Changes.{after}
use Rattle.seg_store.specs.Meaning.{sees}
use Rattle.stm_segment.specs.Asking.{ChangeWants}
use Rattle.stm_segment.specs.inner.Hold.{holding, FaultWhy}
use Rattle.stm_segment.proofs.Changing.{can_ready, can_moved, change_done, change_refused, change_held_at, hold_refused, runs_moved, after_moved}
use Rattle.stm_segment.proofs.Peaks.{there_none, there_done, there_refused, there_held}
use Rattle.stm_segment.proofs.segment.SegView.change.Goals as goal

pub hold-requires-clause-tracked : goal.hold-requires-clause-tracked
hold-requires-clause-tracked g c = (can_ready c.args.change
    (sees (g.S.SegStore.meaning c.args.self.now.store.now) c.args.self.now.segment) c.args.a.0 c.requires.can).tracked

pub change_held-requires-clause-held : goal.change_held-requires-clause-held
change_held-requires-clause-held g c = change_held_at c.args.self.now.segment c.hold.new.self.segment c.args.a.0
    (g.S.SegStore.meaning c.args.self.now.store.now) (g.S.SegStore.meaning c.hold.new.self.store.now)
    c.in-Ok.ensures.stays.0 c.in-Ok.ensures.held.touched

pub returns-in-Ok-change_held-clause-ok : goal.returns-in-Ok-change_held-clause-ok
returns-in-Ok-change_held-clause-ok g c =
    change_done c.args.self.now.segment c.args.self.now.side c.args.a.0 c.args.change
    (holding (g.S.SegStore.meaning c.args.self.now.store.now) (g.S.SegStore.reserved c.args.self.now.store.now)
    c.args.self.now.books.now c.args.self.now.progress.now c.args.self.now.last)
    (holding (g.S.SegStore.meaning c.hold.new.self.store.now) (g.S.SegStore.reserved c.hold.new.self.store.now)
    c.hold.new.self.books.now c.hold.new.self.progress.now c.hold.new.self.last)
    (holding (g.S.SegStore.meaning c.change_held.new.self.store.now)
    (g.S.SegStore.reserved c.change_held.new.self.store.now) c.change_held.new.self.books.now
    c.change_held.new.self.progress.now c.change_held.new.self.last)
    c.requires.can c.requires.live (runs_moved c.hold.new.self.books.now.hands.items c.hold.new.self.segment
    c.args.self.now.segment c.in-Ok.ensures.stays.0 c.hold.new.self.fits.out) c.in-Ok.ensures.held
    (after_moved c.args.self.now.segment c.hold.new.self.segment c.args.a.0 (after c.args.change)
    (g.S.SegStore.meaning c.hold.new.self.store.now) (g.S.SegStore.meaning c.change_held.new.self.store.now)
    c.in-Ok.ensures.stays.0 c.in-Ok-change_held.ensures.ok)
    c.change_held.ensures.reserved c.change_held.ensures.books c.change_held.ensures.progress
    c.change_held.ensures.last

pub change_held-requires-clause-can : goal.change_held-requires-clause-can
change_held-requires-clause-can g c = can_moved c.args.self.now.segment c.hold.new.self.segment c.args.a.0
    c.args.change (g.S.SegStore.meaning c.args.self.now.store.now) (g.S.SegStore.meaning c.hold.new.self.store.now)
    c.in-Ok.ensures.stays.0 c.in-Ok.ensures.held.shown c.requires.can

pub returns-in-Err-change_held-clause-err : goal.returns-in-Err-change_held-clause-err
returns-in-Err-change_held-clause-err g c =
    let m = g.S.SegStore.meaning c.hold.new.self.store.now in
    let same = sym (ap g.S.SegStore.reserved c.refuse.ensures.store) in
    change_refused c.args.self.now.segment c.args.self.now.side c.args.a.0 c.args.change
    (holding (g.S.SegStore.meaning c.args.self.now.store.now) (g.S.SegStore.reserved c.args.self.now.store.now)
    c.args.self.now.books.now c.args.self.now.progress.now c.args.self.now.last)
    (holding (g.S.SegStore.meaning c.hold.new.self.store.now) (g.S.SegStore.reserved c.hold.new.self.store.now)
    c.hold.new.self.books.now c.hold.new.self.progress.now c.hold.new.self.last)
    (holding (g.S.SegStore.meaning c.refuse.new.self.store.now) (g.S.SegStore.reserved c.refuse.new.self.store.now)
    c.refuse.new.self.books.now c.refuse.new.self.progress.now c.refuse.new.self.last)
    c.in-Err-change_held.fault c.in-Ok.ensures.held (ap g.S.SegStore.meaning c.refuse.ensures.store ∙
    c.in-Err-change_held.ensures.err)
    (subst (λ n. g.S.SegStore.reserved c.hold.new.self.store.now ≤ n) same c.change_held.ensures.reserved)
    (c.refuse.ensures.books ∙ c.change_held.ensures.books) (c.refuse.ensures.progress ∙ c.change_held.ensures.progress)
    c.refuse.ensures.last
    (subst (λ k. FaultWhy (ChangeWants c.args.change (sees m k) c.args.a.0)
    (g.S.SegStore.reserved c.refuse.new.self.store.now) m.limit c.in-Err-change_held.fault) c.in-Ok.ensures.stays.0
    (subst (λ n. FaultWhy (ChangeWants c.args.change (sees m c.hold.new.self.segment) c.args.a.0) n m.limit
    c.in-Err-change_held.fault) same c.in-Err-change_held.ensures.cause))

pub returns-in-Err-clause-word : goal.returns-in-Err-clause-word
returns-in-Err-clause-word g c = c.in-Err.ensures.held.0

pub returns-in-Err-clause-err : goal.returns-in-Err-clause-err
returns-in-Err-clause-err g c =
    hold_refused c.args.self.now.segment c.args.self.now.side c.args.a.0 c.args.change
    (holding (g.S.SegStore.meaning c.args.self.now.store.now) (g.S.SegStore.reserved c.args.self.now.store.now)
    c.args.self.now.books.now c.args.self.now.progress.now c.args.self.now.last) c.hold.new.self.last.halt
    (holding (g.S.SegStore.meaning c.hold.new.self.store.now) (g.S.SegStore.reserved c.hold.new.self.store.now)
    c.hold.new.self.books.now c.hold.new.self.progress.now c.hold.new.self.last) c.in-Err.ensures.held.1

pub returns-in-Ok-change_held-clause-tells : goal.returns-in-Ok-change_held-clause-tells
returns-in-Ok-change_held-clause-tells g c =
    there_done c.change_held.new.self.segment (g.S.SegStore.reserved c.change_held.new.self.store.now)
    (g.S.SegStore.meaning c.change_held.new.self.store.now) c.change_held.new.self.books.now
    c.change_held.new.self.progress.now (g.S.SegStore.peaks c.args.self.now.store.now)
    (g.S.SegStore.peaks c.hold.new.self.store.now) (g.S.SegStore.peaks c.change_held.new.self.store.now)
    c.known.ensures.store c.change_held.new.self.fits c.in-Ok.ensures.peaks c.in-Ok-change_held.ensures.peaks

pub returns-in-Err-change_held-clause-tells_err : goal.returns-in-Err-change_held-clause-tells_err
returns-in-Err-change_held-clause-tells_err g c =
    let m = g.S.SegStore.meaning c.hold.new.self.store.now in
    there_held c.args.self.now.segment c.args.self.now.side c.args.a.0 c.args.change
    (holding (g.S.SegStore.meaning c.args.self.now.store.now) (g.S.SegStore.reserved c.args.self.now.store.now)
    c.args.self.now.books.now c.args.self.now.progress.now c.args.self.now.last)
    (holding m (g.S.SegStore.reserved c.hold.new.self.store.now) c.hold.new.self.books.now
    c.hold.new.self.progress.now c.hold.new.self.last) c.hold.new.self.segment
    (g.S.SegStore.peaks c.args.self.now.store.now) (g.S.SegStore.peaks c.hold.new.self.store.now)
    (g.S.SegStore.peaks c.refuse.new.self.store.now) c.in-Ok.ensures.held c.in-Ok.ensures.stays.0 c.in-Ok.ensures.peaks
    (there_refused c.hold.new.self.segment (g.S.SegStore.reserved c.change_held.new.self.store.now) m
    (g.S.SegStore.meaning c.change_held.new.self.store.now) c.hold.new.self.books.now c.hold.new.self.progress.now _
    (g.S.SegStore.peaks c.hold.new.self.store.now) (g.S.SegStore.peaks c.change_held.new.self.store.now)
    (g.S.SegStore.peaks c.refuse.new.self.store.now) c.known-in-Err-change_held.ensures.store
    c.in-Err-change_held.ensures.err c.hold.new.self.fits (ap g.S.SegStore.peaks c.refuse.ensures.store)
    c.in-Err-change_held.ensures.peaks_err)

pub returns-in-Err-clause-tells_err : goal.returns-in-Err-clause-tells_err
returns-in-Err-clause-tells_err g c =
    there_none c.args.self.now.segment (g.S.SegStore.meaning c.args.self.now.store.now) c.args.self.now.books.now _
    (g.S.SegStore.peaks c.args.self.now.store.now) (g.S.SegStore.peaks c.hold.new.self.store.now)
    c.in-Err.ensures.peaks
