use Rattle.std.proofs.Common.{◌≡◌, ◌/◌, refl, sym, ap, subst, Err, arith}
use Rattle.std.proofs.lemmas.Option.{slice_get_within}
use Rattle.stm_core.specs.declared.answers.AdvanceError.TheVariants.{Lost}
use Rattle.stm_segment.specs.declared.books.Hand.TheVariants.{Idle, Doomed, Runs}
use Rattle.stm_segment.specs.declared.books.Books.{Books}
use Rattle.stm_core.specs.Begun.{CountsSteps}
use Rattle.stm_core.specs.Advanced.{Advanced}
use Rattle.stm_core.specs.SaneCore.{StandsFor, LeadsBetween}
use Rattle.stm_core.specs.inner.Settled.{Rises}
use Rattle.stm_core.specs.CoreHeld.{core_limits, core_devices, first_devices, IsFullKept}
use Rattle.stm_core.proofs.Wholes.{set_here, taken}
use Rattle.stm_core.proofs.Publishing.{emptied}
use Rattle.stm_core.proofs.Calling.{Kept, good_again, same_again, leads_again, sane_led, Quiet, quiet_good, quiet_job, quiet_leads, full_same, rose_same, le_same, going_now}
use Rattle.stm_core.proofs.PeaksRising.{within_same, told_out}
use Rattle.stm_core.proofs.TakenSteps.{counts_same, counts_on, rose_on, sane_out, running_led, doomed_led, full_led}
use Rattle.stm_core.proofs.transactions.Core.advance.Goals as goal

pub take-requires : goal.take-requires
take-requires g c =
    let lt = (going_now c.requires.good.sane (core_limits g.S.SegStore.meaning c.args.self.now) c.args.k refl
    c.args.most c.requires.may).segment in
    let n = c.requires.good.whole.hands in
    omega (arith, lt, n)

pub unreachable-requires : goal.unreachable-requires
unreachable-requires g c = ((going_now c.requires.good.sane (core_limits g.S.SegStore.meaning c.args.self.now) c.args.k
    refl c.args.most c.requires.may).busy c.in-Idle.ensures.hand)

pub advance_out-result-requires-clause-short : goal.advance_out-result-requires-clause-short
advance_out-result-requires-clause-short g c =
    (going_now c.requires.good.sane (core_limits g.S.SegStore.meaning c.args.self.now) c.args.k refl c.args.most
    c.requires.may).short c.in-Runs.work c.in-Runs.ensures.hand

pub advance_out-result-requires-clause-out : goal.advance_out-result-requires-clause-out
advance_out-result-requires-clause-out g c =
    let x = c.args.self.now in
    let m = g.S.SegStore.meaning x.store in
    let u = c.take.new.self in
    let work = c.in-Runs.work in
    let h = c.requires.good in
    record {
      fit = taken c.args.k m x.books u work h.whole c.in-Runs.ensures.hand
          (record { rest = c.take.ensures.rest; hands = c.take.ensures.hands });
      store = c.known.ensures.store;
      idle = set_here c.args.k m x.books u Idle (record { rest = c.take.ensures.rest; hands = c.take.ensures.hands })
          (slice_get_within x.books.hands.items c.args.k (Runs work) c.in-Runs.ensures.hand);
      count = subst (λ (z : Books g.row.C-State.Denot). CountsSteps x.spent z.history.entries)
          (sym c.take.ensures.rest) h.count;
      sane = sane_out (g.C.Client.prog x.client.now) x.length c.args.k _ _ m x.books u work c.in-Runs.ensures.hand
          (record { rest = c.take.ensures.rest; hands = c.take.ensures.hands }) (g.C.Client.sound x.client.now) h.sane;
    }

pub returns-in-Doomed : goal.returns-in-Doomed
returns-in-Doomed g c =
    let p = g.C.Client.prog c.args.self.now.client.now in
    let x = c.args.self.now in
    let m = g.S.SegStore.meaning x.store in
    let y = record x { books = c.take.new.self } in
    let cause : y.books.cause ≡ x.books.cause = ap (λ (z : Books g.row.C-State.Denot). z.cause) c.take.ensures.rest in
    let q : Quiet g.I.Source.state g.O.Sink.state g.E.Sink.state g.C.Client.prog g.C.Client.sound g.S.SegStore.reserved
    g.S.SegStore.meaning x y (λ o o1.
    Advanced p x.length c.args.k m.segments c.args.most (g.S.SegStore.reserved x.store) m.limit o
    (Err (Lost c.in-Doomed.f)) o1) = record {
      rest = refl;
      shape = (refl, refl);
      store = c.known.ensures.store;
      whole = emptied c.args.k m x.books c.take.new.self (Doomed c.in-Doomed.f) refl refl refl c.requires.good.whole
          c.in-Doomed.ensures.hand (record { rest = c.take.ensures.rest; hands = c.take.ensures.hands });
      count = subst (λ (z : Books g.row.C-State.Denot). CountsSteps x.spent z.history.entries)
          (sym c.take.ensures.rest) c.requires.good.count;
      kept = full_same _ _ _ _ x.books.cause y.books.cause (le_same _ _ refl) refl cause c.requires.good.kept;
      rose = rose_same x.books.cause y.books.cause _ _ cause c.requires.good.sane.rose;
      led = doomed_led p x.length c.args.k _ _ m x.books c.take.new.self c.in-Doomed.f c.in-Doomed.ensures.hand
          (record { rest = c.take.ensures.rest; hands = c.take.ensures.hands }) c.args.most _ _
          c.requires.good.whole.hands;
    } in
    record {
      good = quiet_good g.I.Source.state g.O.Sink.state g.E.Sink.state g.C.Client.prog g.C.Client.sound
          g.S.SegStore.reserved g.S.SegStore.meaning x y _ q c.requires.good;
      job = quiet_job g.I.Source.state g.O.Sink.state g.E.Sink.state g.C.Client.prog g.C.Client.sound
          g.S.SegStore.reserved g.S.SegStore.meaning x y _ q c.requires.good;
      advanced = quiet_leads g.I.Source.state g.O.Sink.state g.E.Sink.state g.C.Client.prog g.C.Client.sound
          g.S.SegStore.reserved g.S.SegStore.meaning x y _ q c.requires.good;
      counted = record {
        counts = counts_same
            (core_devices g.I.Source.state g.O.Sink.state g.E.Sink.state x);
        rose = tt;
      };
      peaks = λ o s. within_same p x.length (m.limit / 2) m.segments c.args.k o.core _ _ refl;
    }

pub returns-in-Runs : goal.returns-in-Runs
returns-in-Runs g c =
    let x = c.args.self.now in
    let y = c.advance_out-result.new.self in
    let p = g.C.Client.prog x.client.now in
    let s = g.C.Client.sound x.client.now in
    let m = g.S.SegStore.meaning x.store in
    let m1 = g.S.SegStore.meaning y.store in
    let r1 = g.S.SegStore.reserved y.store in
    let first = first_devices g.I.Source.state g.O.Sink.state g.E.Sink.state x in
    let d = core_devices g.I.Source.state g.O.Sink.state g.E.Sink.state x in
    let d1 = core_devices g.I.Source.state g.O.Sink.state g.E.Sink.state y in
    let e = c.advance_out-result.ensures.gone in
    let result = c.advance_out-result.result in
    let h = c.requires.good in
    let led : LeadsBetween (StandsFor p x.length first d m x.books) (StandsFor p x.length first d1 m1 y.books)
    (λ o o1. Advanced p x.length c.args.k m.segments c.args.most r1 m.limit o result o1) =
    subst (λ l. LeadsBetween (StandsFor p x.length first d m x.books) (StandsFor p x.length first d1 m1 y.books)
    (λ o o1. Advanced p x.length c.args.k m.segments c.args.most r1 l o result o1)) e.shape.1
    (running_led p x.length c.args.k first d m x.books c.take.new.self c.in-Runs.work c.in-Runs.ensures.hand
    (record { rest = c.take.ensures.rest; hands = c.take.ensures.hands }) c.args.most r1 m1.limit d1 m1 y.books
    result h.whole.hands
    c.advance_out-result.ensures.advanced) in
    let rises : Rises x.books.cause y.books.cause d d1 =
    subst (λ (z : Books g.row.C-State.Denot). Rises z.cause y.books.cause d d1) c.take.ensures.rest e.rises in
    let kept : Kept g.I.Source.state g.O.Sink.state g.E.Sink.state g.C.Client.prog g.C.Client.sound
    g.S.SegStore.reserved g.S.SegStore.meaning x y = record {
      rest = e.rest;
      shape = e.shape;
      store = c.known-in-Runs.ensures.store;
      whole = e.whole;
      count = e.count;
      kept = subst (λ l. IsFullKept r1 l y.books.cause) (sym e.shape.1)
          (full_led p s x.length c.args.k m.segments c.args.most _ r1 m.limit m.limit first d d1 m m1 x.books y.books
          result e.reserved refl h.sane h.kept led);
      sane = sane_led p s x.length first d d1 m m1 x.books y.books _ h.sane led
          (counts_on first d d1 h.sane.counts rises.counts)
          (rose_on x.books.cause y.books.cause first d d1 h.sane.counts h.sane.rose rises);
    } in
    record {
      good = good_again g.I.Source.state g.O.Sink.state g.E.Sink.state g.C.Client.prog g.C.Client.sound
          g.S.SegStore.reserved g.S.SegStore.meaning x y kept;
      job = same_again g.I.Source.state g.O.Sink.state g.E.Sink.state g.C.Client.prog g.C.Client.sound
          g.S.SegStore.reserved g.S.SegStore.meaning x y kept;
      advanced = leads_again g.I.Source.state g.O.Sink.state g.E.Sink.state g.C.Client.prog g.C.Client.sound
          g.S.SegStore.reserved g.S.SegStore.meaning x y _ kept led;
      counted = record { counts = rises.counts; rose = e.fault };
      peaks = told_out p x.length c.args.k first d m x.books c.take.new.self c.in-Runs.work c.in-Runs.ensures.hand
          (record { rest = c.take.ensures.rest; hands = c.take.ensures.hands }) _ _ e.peaks;
    }
