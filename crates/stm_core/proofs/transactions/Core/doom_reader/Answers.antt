use Rattle.std.proofs.Common.{false, sym, ap, subst, ◌∙◌, slice_get}
use Rattle.stm_segment.specs.Books.{Fit, side_of}
use Rattle.stm_core.specs.inner.Trying.{core_with}
use Rattle.stm_segment.proofs.Fits.{get_set_other, started_pending, fit_doom}
use Rattle.stm_core.proofs.Committing.{reader_is, doom_some}
use Rattle.stm_core.proofs.transactions.Core.doom_reader.Goals as goal

pub doom-requires-clause-pending : goal.doom-requires-clause-pending
doom-requires-clause-pending g c =
    let m = g.S.SegStore.meaning c.args.self.now.store in
    let r = reader_is c.args.self.now.books.hands.items m c.args.k c.args.j c.in-Some.at.0 c.in-Some.ensures in
    started_pending c.args.k m c.args.self.now.books c.args.work.now.progress c.args.j c.requires.fit r.1

pub returns-in-Some-clause-fit : goal.returns-in-Some-clause-fit
returns-in-Some-clause-fit g c =
    let m = g.S.SegStore.meaning c.args.self.now.store in
    let r = reader_is c.args.self.now.books.hands.items m c.args.k c.args.j c.in-Some.at.0 c.in-Some.ensures in
    subst (λ n. Fit c.args.k n c.doom.new.self c.args.work.now.progress) (sym c.drop_changes.ensures.meaning)
    (fit_doom c.args.k m c.args.self.now.books c.doom.new.self c.args.work.now.progress c.args.j _ c.requires.fit r.0
    r.1
    c.doom.ensures.hands c.doom.ensures.pending (ap (λ b. b.history.room) c.doom.ensures.rest)
    (ap (λ b. b.threads.room) c.doom.ensures.rest) c.doom.ensures.room)

pub returns-in-Some-clause-idle : goal.returns-in-Some-clause-idle
returns-in-Some-clause-idle g c =
    let m = g.S.SegStore.meaning c.args.self.now.store in
    let r = reader_is c.args.self.now.books.hands.items m c.args.k c.args.j c.in-Some.at.0 c.in-Some.ensures in
    ap (λ l. slice_get l c.args.k) c.doom.ensures.hands ∙ get_set_other c.args.self.now.books.hands.items c.args.j
    c.args.k _ r.0

pub returns-in-Some-clause-core : goal.returns-in-Some-clause-core
returns-in-Some-clause-core g c = λ w.
    let m = g.S.SegStore.meaning c.args.self.now.store in
    ap (λ n. core_with w c.args.k n c.doom.new.self c.args.work.now) c.drop_changes.ensures.meaning
    ∙ doom_some w c.args.k m c.args.self.now.books c.args.work.now c.args.j c.in-Some.at.0 _ c.doom.new.self
    c.in-Some.ensures (ap (λ s. record {
      at = c.in-Some.at;
      writer = s;
      other = c.side-other.result;
      asks = false;
      lost = 1;
    }) c.side-writer.ensures) (λ z q. c.side-other.ensures ∙ ap (side_of c.args.j c.side-other.result) q)
    c.doom.ensures.rest c.doom.ensures.hands c.doom.ensures.conflicts
