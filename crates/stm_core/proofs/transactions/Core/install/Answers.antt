use Rattle.std.proofs.Common.{refl, arith}
use Rattle.std.proofs.lemmas.Option.{slice_get_within}
use Rattle.stm_pieces.specs.Ends.{last_of}
use Rattle.stm_pieces.specs.PieceOf.{piece_state}
use Rattle.stm_segment.specs.declared.books.Hand.TheVariants.{Idle, Runs}
use Rattle.stm_core.specs.CoreHeld.{core_devices, first_devices, IsFullKept}
use Rattle.stm_core.specs.Pieces.{IsInstalled}
use Rattle.stm_core.specs.SaneCore.{CauseRose}
use Rattle.stm_core.proofs.Wholes.{Set, set_here, taken}
use Rattle.stm_core.proofs.Calling.{Quiet, quiet_devices, quiet_good, quiet_leads, full_same}
use Rattle.stm_core.proofs.TakenSteps.{sane_out, thread_out}
use Rattle.stm_core.proofs.InstallCalls.{full_first, rose_first, none_fits, install_led, install_cause, fits_now, can_now}
use Rattle.stm_core.proofs.transactions.Core.install.Given as given
use Rattle.stm_core.proofs.transactions.Core.install.Goals.{After-edits}
use Rattle.stm_core.proofs.transactions.Core.install.Goals as goal

pub take-requires : goal.take-requires
take-requires g c =
    let lt = c.requires.segment in
    let n = c.requires.good.whole.hands in
    omega (arith, lt, n)

taken_out : (g : given.Over) (c : goal.After-edits g) → Set c.args.k Idle c.args.self.now.books c.take.new.self
taken_out g c = record { rest = c.take.ensures.rest; hands = c.take.ensures.hands }

pub install_out-result-requires-clause-fit : goal.install_out-result-requires-clause-fit
install_out-result-requires-clause-fit g c = taken c.args.k (g.S.SegStore.meaning c.args.self.now.store)
    c.args.self.now.books c.take.new.self c.in-Runs.work c.requires.good.whole c.in-Runs.ensures.hand (taken_out g c)

pub install_out-result-requires-clause-idle : goal.install_out-result-requires-clause-idle
install_out-result-requires-clause-idle g c =
    set_here c.args.k (g.S.SegStore.meaning c.args.self.now.store) c.args.self.now.books c.take.new.self Idle
    (taken_out g c)
    (slice_get_within c.args.self.now.books.hands.items c.args.k (Runs c.in-Runs.work) c.in-Runs.ensures.hand)

pub install_out-result-requires-clause-thread : goal.install_out-result-requires-clause-thread
install_out-result-requires-clause-thread g c =
    let x = c.args.self.now in
    let p = g.C.Client.prog x.client.now in
    let sound = g.C.Client.sound x.client.now in
    let m = g.S.SegStore.meaning x.store in
    thread_out p sound x.length c.args.k m c.take.new.self c.in-Runs.work
    (sane_out p x.length c.args.k _ _ m x.books c.take.new.self c.in-Runs.work c.in-Runs.ensures.hand (taken_out g c)
    sound c.requires.good.sane).sane

pub install_out-result-requires-clause-may : goal.install_out-result-requires-clause-may
install_out-result-requires-clause-may g c =
    let x = c.args.self.now in
    let v = piece_state c.args.p.view in
    let s = c.requires.good.sane in
    can_now (g.C.Client.prog x.client.now) x.length c.args.k _ _ (g.S.SegStore.meaning x.store) x.books c.take.new.self
    c.in-Runs.work c.in-Runs.ensures.hand (taken_out g c) c.requires.good.whole (g.S.SegStore.reserved x.store)
    c.args.p.steps c.args.p.start c.args.p.last v.loaned v.heap v.locked c.edits.result.now v.edits
    c.known.ensures.store c.requires.fits c.edits.ensures c.requires.by.replays s.state s.stands

pub install_out-result-requires-clause-short : goal.install_out-result-requires-clause-short
install_out-result-requires-clause-short g c =
    let x = c.args.self.now in
    let v = piece_state c.args.p.view in
    let s = c.requires.good.sane in
    (fits_now (g.C.Client.prog x.client.now) x.length c.args.k _ _ (g.S.SegStore.meaning x.store) x.books
    c.take.new.self c.in-Runs.work c.in-Runs.ensures.hand (taken_out g c) c.requires.good.whole
    (g.S.SegStore.reserved x.store) c.args.p.steps c.args.p.start c.args.p.last v.loaned v.heap v.locked
    c.edits.result.now v.edits c.known.ensures.store c.requires.fits c.edits.ensures c.requires.by.replays s.state
    s.stands).short

pub unreachable-requires : goal.unreachable-requires
unreachable-requires g c =
    let x = c.args.self.now in
    let v = piece_state c.args.p.view in
    let s = c.requires.good.sane in
    none_fits (g.C.Client.prog x.client.now) x.length c.args.k c.args.p.steps _ _ (g.S.SegStore.meaning x.store) x.books
    c.args.p.start v.loaned v.locked s.state s.stands (c.requires.fits s.state s.stands) c.take.result
    c.take.ensures.hand c.in_default.not-Runs

went : (g : given.Over) (c : goal.After-drop-p g) → Quiet g.I.Source.state g.O.Sink.state g.E.Sink.state
    g.C.Client.prog g.C.Client.sound g.S.SegStore.reserved g.S.SegStore.meaning c.args.self.now
    c.install_out-result.new.self (IsInstalled (g.C.Client.prog c.args.self.now.client.now) c.args.self.now.length
    c.args.k (g.S.SegStore.meaning c.args.self.now.store).segments
    (g.S.SegStore.reserved c.install_out-result.new.self.store)
    (g.S.SegStore.meaning c.args.self.now.store).limit (piece_state c.args.p.view).loaned
    (piece_state c.args.p.view).heap c.args.p.steps (last_of c.args.p.start c.args.p.last) c.install_out-result.result)
went g c =
    let x = c.args.self.now in
    let y = c.install_out-result.new.self in
    let e = c.install_out-result.ensures in
    let p = g.C.Client.prog x.client.now in
    let m = g.S.SegStore.meaning x.store in
    let m1 = g.S.SegStore.meaning y.store in
    let r = g.S.SegStore.reserved x.store in
    let r1 = g.S.SegStore.reserved y.store in
    let first = first_devices g.I.Source.state g.O.Sink.state g.E.Sink.state x in
    let now = core_devices g.I.Source.state g.O.Sink.state g.E.Sink.state x in
    let v = piece_state c.args.p.view in
    let w = c.in-Runs.work in
    let bt = c.take.new.self in
    let out : Set c.args.k Idle x.books bt = record { rest = c.take.ensures.rest; hands = c.take.ensures.hands } in
    let at = c.in-Runs.ensures.hand in
    let whole = c.requires.good.whole in
    let es = c.edits.result.now in
    record {
      rest = e.rest;
      shape = e.shape;
      store = c.known-in-Runs.ensures.store;
      whole = e.whole;
      count = e.count;
      kept = install_cause p x.length c.args.k first now m x.books bt w at out whole (IsFullKept r m.limit)
          (IsFullKept r1 m1.limit) c.args.p.steps c.args.p.last es m1 y.books c.install_out-result.result e.ok e.err
          (λ z h. full_same r r1 m.limit m1.limit z z e.reserved e.shape.1 refl h)
          (λ z h. full_first r r1 m.limit m1.limit z e.reserved e.shape.1 h) c.requires.good.kept;
      rose = install_cause p x.length c.args.k first now m x.books bt w at out whole (λ z. CauseRose z first now)
          (λ z. CauseRose z first now) c.args.p.steps c.args.p.last es m1 y.books c.install_out-result.result e.ok e.err
          (λ z h. h) (λ z h. rose_first z first now h) c.requires.good.sane.rose;
      led = install_led p x.length c.args.k first now m x.books bt w at out whole r c.args.p.steps c.args.p.start
          c.args.p.last v.loaned v.heap v.locked es v.edits c.known.ensures.store c.requires.fits c.edits.ensures
          c.requires.by.replays r1 m.segments m.limit m1 y.books refl e.shape.1 c.requires.by.lives c.requires.by.is
          c.install_out-result.result e.steps e.ok e.err;
    }

pub returns-clause-good : goal.returns-clause-good
returns-clause-good g c = quiet_good g.I.Source.state g.O.Sink.state g.E.Sink.state g.C.Client.prog g.C.Client.sound
    g.S.SegStore.reserved g.S.SegStore.meaning c.args.self.now c.install_out-result.new.self _ (went g c)
    c.requires.good

pub returns-clause-installed : goal.returns-clause-installed
returns-clause-installed g c = quiet_leads g.I.Source.state g.O.Sink.state g.E.Sink.state g.C.Client.prog
    g.C.Client.sound g.S.SegStore.reserved g.S.SegStore.meaning c.args.self.now c.install_out-result.new.self _
    (went g c) c.requires.good

pub returns-clause-devices : goal.returns-clause-devices
returns-clause-devices g c = quiet_devices g.I.Source.state g.O.Sink.state g.E.Sink.state g.C.Client.prog
    g.C.Client.sound g.S.SegStore.reserved g.S.SegStore.meaning c.args.self.now c.install_out-result.new.self _
    (went g c) c.requires.good
