use Rattle.std.proofs.Common.{◌≡◌, Err, refl, sym, ap, subst, ◌∙◌, slice_get, arith}
use Rattle.std.proofs.lemmas.Option.{slice_get_within}
use Rattle.stm_segment.specs.declared.books.Hand.TheVariants.{Idle, Doomed, Runs}
use Rattle.stm_segment.specs.declared.books.Books.{Books}
use Rattle.stm_segment.specs.Books.{Worlds, core_of}
use Rattle.stm_core.specs.Begun.{CountsSteps}
use Rattle.stm_core.specs.Committed.{Committed}
use Rattle.stm_core.specs.CoreHeld.{core_limits}
use Rattle.stm_core.specs.Outside.{InCore}
use Rattle.stm_segment.proofs.Fits.{get_set_same}
use Rattle.stm_core.proofs.Wholes.{Set, taken}
use Rattle.stm_core.proofs.Publishing.{emptied, thread_there, number_alone, committed_taken, committed_doomed, committed_stands}
use Rattle.stm_core.proofs.Calling.{ending_now, Quiet, quiet_devices, quiet_good, quiet_job, quiet_leads, full_same, rose_same, le_same}
use Rattle.stm_core.proofs.StandsAgain.{good_now}
use Rattle.stm_core.proofs.transactions.Core.commit.Goals as goal

pub take-requires : goal.take-requires
take-requires g c =
    let m = g.S.SegStore.meaning c.args.self.now.store in
    let lt = (ending_now c.requires.good.sane (core_limits g.S.SegStore.meaning c.args.self.now) c.args.k refl
    c.requires.may).segment in
    let n = c.requires.good.whole.hands in
    omega (arith, lt, n)

pub unreachable-requires : goal.unreachable-requires
unreachable-requires g c = ((ending_now c.requires.good.sane (core_limits g.S.SegStore.meaning c.args.self.now)
    c.args.k refl c.requires.may).busy c.in-Idle.ensures.hand)

pub commit_out-result-requires-clause-out : goal.commit_out-result-requires-clause-out
commit_out-result-requires-clause-out g c =
    let x = c.args.self.now in
    let m = g.S.SegStore.meaning x.store in
    let set : Set c.args.k Idle x.books c.take.new.self =
    record { rest = c.take.ensures.rest; hands = c.take.ensures.hands } in
    let h = c.requires.good in
    record {
      fit = taken c.args.k m x.books c.take.new.self c.in-Runs.work h.whole c.in-Runs.ensures.hand set;
      idle = ap (λ l. slice_get l c.args.k) c.take.ensures.hands ∙ get_set_same x.books.hands.items c.args.k Idle
          (slice_get_within x.books.hands.items c.args.k (Runs c.in-Runs.work) c.in-Runs.ensures.hand);
      thread = thread_there c.args.k m x.books c.take.new.self c.in-Runs.work c.in-Runs.ensures.hand set
          (g.C.Client.prog x.client.now) _ x.length h.sane.stands.worlds (good_now h.sane);
      count = subst (λ (z : Books g.row.C-State.Denot). CountsSteps x.spent z.history.entries)
          (sym c.take.ensures.rest) h.count;
    }

pub commit_out-result-requires-clause-numbers : goal.commit_out-result-requires-clause-numbers
commit_out-result-requires-clause-numbers g c =
    number_alone c.args.k (g.S.SegStore.meaning c.args.self.now.store) c.args.self.now.books c.take.new.self
    c.in-Runs.work c.in-Runs.ensures.hand (record { rest = c.take.ensures.rest; hands = c.take.ensures.hands })
    (g.C.Client.prog c.args.self.now.client.now) _ c.args.self.now.length c.requires.good.sane.stands.worlds
    (good_now c.requires.good.sane)

pub returns-in-Runs : goal.returns-in-Runs
returns-in-Runs g c =
    let p = g.C.Client.prog c.args.self.now.client.now in
    let x = c.args.self.now in
    let m = g.S.SegStore.meaning x.store in
    let y = c.commit_out-result.new.self in
    let e = c.commit_out-result.ensures in
    let ends : (w : Worlds) → (w1 : Worlds) × Committed p c.args.k m.segments c.commit_out-result.result
    (core_of w m x.books) (core_of w1 (g.S.SegStore.meaning y.store) y.books) = λ w.
    let z = e.ends w in (
      z.0,
      committed_taken c.args.k m x.books c.take.new.self c.in-Runs.work c.in-Runs.ensures.hand
          (record { rest = c.take.ensures.rest; hands = c.take.ensures.hands }) p w m.segments
          c.commit_out-result.result
          _ z.1,
    ) in
    let cause : y.books.cause ≡ x.books.cause = e.cause ∙
    ap (λ (z : Books g.row.C-State.Denot). z.cause) c.take.ensures.rest in
    let broken : y.books.broken ≡ x.books.broken = e.broken ∙
    ap (λ (z : Books g.row.C-State.Denot). z.broken) c.take.ensures.rest in
    let q : Quiet g.I.Source.state g.O.Sink.state g.E.Sink.state g.C.Client.prog g.C.Client.sound g.S.SegStore.reserved
    g.S.SegStore.meaning x y (InCore (Committed p c.args.k m.segments c.commit_out-result.result)) = record {
      rest = e.ended.rest;
      shape = e.ended.shape;
      store = c.known.ensures.store;
      whole = e.ended.whole;
      count = e.ended.count;
      kept = full_same _ _ _ _ x.books.cause y.books.cause (le_same _ _ e.ended.reserved) e.ended.shape.1 cause
          c.requires.good.kept;
      rose = rose_same x.books.cause y.books.cause _ _ cause c.requires.good.sane.rose;
      led = committed_stands p x.length c.args.k _ _ m (g.S.SegStore.meaning y.store) x.books y.books
          c.commit_out-result.result c.requires.good.whole.hands ends broken;
    } in
    record {
      good = quiet_good g.I.Source.state g.O.Sink.state g.E.Sink.state g.C.Client.prog g.C.Client.sound
          g.S.SegStore.reserved g.S.SegStore.meaning x y _ q c.requires.good;
      job = quiet_job g.I.Source.state g.O.Sink.state g.E.Sink.state g.C.Client.prog g.C.Client.sound
          g.S.SegStore.reserved g.S.SegStore.meaning x y _ q c.requires.good;
      committed = quiet_leads g.I.Source.state g.O.Sink.state g.E.Sink.state g.C.Client.prog g.C.Client.sound
          g.S.SegStore.reserved g.S.SegStore.meaning x y _ q c.requires.good;
      peaks = e.ended.peaks;
      devices = quiet_devices g.I.Source.state g.O.Sink.state g.E.Sink.state g.C.Client.prog g.C.Client.sound
          g.S.SegStore.reserved g.S.SegStore.meaning x y _ q c.requires.good;
    }

pub returns-in-Doomed : goal.returns-in-Doomed
returns-in-Doomed g c =
    let p = g.C.Client.prog c.args.self.now.client.now in
    let x = c.args.self.now in
    let m = g.S.SegStore.meaning x.store in
    let y = record x { books = c.take.new.self } in
    let ends : (w : Worlds) → (w1 : Worlds) × Committed p c.args.k m.segments (Err c.in-Doomed.f) (core_of w m x.books)
    (core_of w1 (g.S.SegStore.meaning y.store) y.books) = λ w. (
      w,
      committed_doomed c.args.k m x.books c.take.new.self p c.in-Doomed.f c.in-Doomed.ensures.hand
          (record { rest = c.take.ensures.rest; hands = c.take.ensures.hands }) w m.segments,
    ) in
    let cause : y.books.cause ≡ x.books.cause = ap (λ (z : Books g.row.C-State.Denot). z.cause) c.take.ensures.rest in
    let broken : y.books.broken ≡ x.books.broken = ap (λ (z : Books g.row.C-State.Denot). z.broken) c.take.ensures.rest
    in
    let q : Quiet g.I.Source.state g.O.Sink.state g.E.Sink.state g.C.Client.prog g.C.Client.sound g.S.SegStore.reserved
    g.S.SegStore.meaning x y (InCore (Committed p c.args.k m.segments (Err c.in-Doomed.f))) = record {
      rest = refl;
      shape = (refl, refl);
      store = c.known-in-Doomed.ensures.store;
      whole = emptied c.args.k m x.books c.take.new.self (Doomed c.in-Doomed.f) refl refl refl c.requires.good.whole
          c.in-Doomed.ensures.hand (record { rest = c.take.ensures.rest; hands = c.take.ensures.hands });
      count = subst (λ (z : Books g.row.C-State.Denot). CountsSteps x.spent z.history.entries)
          (sym c.take.ensures.rest) c.requires.good.count;
      kept = full_same _ _ _ _ x.books.cause y.books.cause (le_same _ _ refl) refl cause c.requires.good.kept;
      rose = rose_same x.books.cause y.books.cause _ _ cause c.requires.good.sane.rose;
      led = committed_stands p x.length c.args.k _ _ m (g.S.SegStore.meaning y.store) x.books y.books
          (Err c.in-Doomed.f) c.requires.good.whole.hands ends broken;
    } in
    record {
      good = quiet_good g.I.Source.state g.O.Sink.state g.E.Sink.state g.C.Client.prog g.C.Client.sound
          g.S.SegStore.reserved g.S.SegStore.meaning x y _ q c.requires.good;
      job = quiet_job g.I.Source.state g.O.Sink.state g.E.Sink.state g.C.Client.prog g.C.Client.sound
          g.S.SegStore.reserved g.S.SegStore.meaning x y _ q c.requires.good;
      committed = quiet_leads g.I.Source.state g.O.Sink.state g.E.Sink.state g.C.Client.prog g.C.Client.sound
          g.S.SegStore.reserved g.S.SegStore.meaning x y _ q c.requires.good;
      peaks = refl;
      devices = refl;
    }
