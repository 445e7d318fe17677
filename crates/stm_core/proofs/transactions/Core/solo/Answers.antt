use Rattle.std.proofs.Common.{◌≡◌, ◌∙◌, Err, refl, sym, ap, subst, arith}
use Rattle.std.proofs.lemmas.Option.{slice_get_within}
use Rattle.stm_segment.specs.declared.books.Books.{Books}
use Rattle.stm_segment.specs.declared.books.Hand.TheVariants.{Idle, Doomed, Runs}
use Rattle.stm_core.specs.declared.solo.SoloError.TheVariants.{Lost}
use Rattle.seg_store.specs.Store.{IsStore}
use Rattle.stm_core.specs.Begun.{CountsSteps}
use Rattle.stm_core.specs.CoreHeld.{core_limits}
use Rattle.stm_core.specs.Solo.{Soloed}
use Rattle.stm_core.proofs.Wholes.{Set, set_here, taken}
use Rattle.stm_core.proofs.Publishing.{emptied}
use Rattle.stm_core.proofs.Calling.{ending_now, Quiet, quiet_devices, quiet_good, quiet_job, quiet_leads, full_same, rose_same, le_same}
use Rattle.stm_core.proofs.Soloing.{out_led, led_same, doomed_stands, over_stands}
use Rattle.stm_core.proofs.transactions.Core.solo.Given as given
use Rattle.stm_core.proofs.transactions.Core.solo.Goals.{After-solo_out, In-Doomed}
use Rattle.stm_core.proofs.transactions.Core.solo.Goals as goal

pub take-requires : goal.take-requires
take-requires g c =
    let lt = (ending_now c.requires.good.sane (core_limits g.S.SegStore.meaning c.args.self.now) c.args.k refl
    c.requires.may).segment in
    let n = c.requires.good.whole.hands in
    omega (arith, lt, n)

pub unreachable-requires : goal.unreachable-requires
unreachable-requires g c = (ending_now c.requires.good.sane (core_limits g.S.SegStore.meaning c.args.self.now) c.args.k
    refl c.requires.may).busy c.in-Idle.ensures.hand

pub returns-in-Some-clause-soloed : goal.returns-in-Some-clause-soloed
returns-in-Some-clause-soloed g c = λ o s.
    let a = ending_now c.requires.good.sane (core_limits g.S.SegStore.meaning c.args.self.now) c.args.k refl
    c.requires.may in
    let n = c.requires.good.whole.hands in
    let lt = a.segment in
    over_stands (g.C.Client.prog c.args.self.now.client.now) c.args.self.now.length c.args.k _ _
    (g.S.SegStore.meaning c.args.self.now.store) c.args.self.now.books c.args.self.now.books o s c.in-Some.cause
    c.in-Some.is a.busy (omega (arith, lt, n))

pub solo_out-requires-clause-fit : goal.solo_out-requires-clause-fit
solo_out-requires-clause-fit g c = taken c.args.k (g.S.SegStore.meaning c.args.self.now.store) c.args.self.now.books
    c.take.new.self c.in-Runs.work c.requires.good.whole c.in-Runs.ensures.hand
    (record { rest = c.take.ensures.rest; hands = c.take.ensures.hands })

pub solo_out-requires-clause-idle : goal.solo_out-requires-clause-idle
solo_out-requires-clause-idle g c =
    set_here c.args.k (g.S.SegStore.meaning c.args.self.now.store) c.args.self.now.books c.take.new.self Idle
    (record { rest = c.take.ensures.rest; hands = c.take.ensures.hands })
    (slice_get_within c.args.self.now.books.hands.items c.args.k (Runs c.in-Runs.work) c.in-Runs.ensures.hand)

doomed : (g : given.Over) (c : In-Doomed g) → Quiet g.I.Source.state g.O.Sink.state g.E.Sink.state g.C.Client.prog
    g.C.Client.sound g.S.SegStore.reserved g.S.SegStore.meaning c.args.self.now
    (record c.args.self.now { books = c.take.new.self }) (Soloed c.args.k (Err (Lost c.in-Doomed.f)))
doomed g c =
    let x = c.args.self.now in
    let m = g.S.SegStore.meaning x.store in
    let b1 = c.take.new.self in
    let t : Set c.args.k Idle x.books c.take.new.self =
    record { rest = c.take.ensures.rest; hands = c.take.ensures.hands } in
    let cause : b1.cause ≡ x.books.cause = ap (λ (z : Books g.row.C-State.Denot). z.cause) c.take.ensures.rest in
    record {
      rest = refl;
      shape = (refl, refl);
      store = c.known.ensures.store;
      whole = emptied c.args.k m x.books b1 (Doomed c.in-Doomed.f) refl refl refl c.requires.good.whole
          c.in-Doomed.ensures.hand t;
      count = subst (λ (z : Books g.row.C-State.Denot). CountsSteps x.spent z.history.entries)
          (sym c.take.ensures.rest) c.requires.good.count;
      kept = full_same _ _ _ _ x.books.cause b1.cause (le_same _ _ refl) refl cause c.requires.good.kept;
      rose = rose_same x.books.cause b1.cause _ _ cause c.requires.good.sane.rose;
      led = λ o s. doomed_stands (g.C.Client.prog x.client.now) x.length c.args.k _ _ m x.books b1 o s c.in-Doomed.f
          c.in-Doomed.ensures.hand t c.in_default.is;
    }

pub returns-in-Doomed : goal.returns-in-Doomed
returns-in-Doomed g c =
    let x = c.args.self.now in
    let y = record x { books = c.take.new.self } in
    record {
      good = quiet_good g.I.Source.state g.O.Sink.state g.E.Sink.state g.C.Client.prog g.C.Client.sound
          g.S.SegStore.reserved g.S.SegStore.meaning x y _ (doomed g c) c.requires.good;
      job = quiet_job g.I.Source.state g.O.Sink.state g.E.Sink.state g.C.Client.prog g.C.Client.sound
          g.S.SegStore.reserved g.S.SegStore.meaning x y _ (doomed g c) c.requires.good;
      soloed = quiet_leads g.I.Source.state g.O.Sink.state g.E.Sink.state g.C.Client.prog g.C.Client.sound
          g.S.SegStore.reserved g.S.SegStore.meaning x y _ (doomed g c) c.requires.good;
      peaks = refl;
      devices = refl;
    }

went : (g : given.Over) (c : After-solo_out g) → Quiet g.I.Source.state g.O.Sink.state g.E.Sink.state g.C.Client.prog
    g.C.Client.sound g.S.SegStore.reserved g.S.SegStore.meaning c.args.self.now c.solo_out.new.self
    (Soloed c.args.k c.solo_out.result)
went g c =
    let x = c.args.self.now in
    let m = g.S.SegStore.meaning x.store in
    let y = c.solo_out.new.self in
    let e = c.solo_out.ensures in
    let t : Set c.args.k Idle x.books c.take.new.self =
    record { rest = c.take.ensures.rest; hands = c.take.ensures.hands } in
    let rest : y.books ≡ record c.take.new.self { hands = y.books.hands } = ap (λ z. z.books) e.rest in
    let cause : y.books.cause ≡ x.books.cause = ap (λ (z : Books g.row.C-State.Denot). z.cause) rest ∙
    ap (λ (z : Books g.row.C-State.Denot). z.cause) c.take.ensures.rest in
    let history = ap (λ (z : Books g.row.C-State.Denot). z.history.entries) rest ∙
    ap (λ (z : Books g.row.C-State.Denot). z.history.entries) c.take.ensures.rest in
    record {
      rest = e.rest ∙ (λ i. record x {
        store = (sym e.rest i).store;
        books = sym rest i;
        spent =
            (sym e.rest i).spent;
      });
      shape = (
        (λ i. (g.S.SegStore.meaning (e.rest i).store).segments),
        (λ i. (g.S.SegStore.meaning (e.rest i).store).limit),
      );
      store = subst (λ z. IsStore (g.S.SegStore.reserved z) (g.S.SegStore.meaning z)) (sym (ap (λ z. z.store) e.rest))
          c.known.ensures.store;
      whole = e.whole;
      count = ap (λ z. z.spent) e.rest ∙ subst (CountsSteps x.spent) (sym history) c.requires.good.count;
      kept = full_same _ _ _ _ x.books.cause y.books.cause
          (le_same _ _ (ap (λ z. g.S.SegStore.reserved z.store) e.rest))
          (λ i. (g.S.SegStore.meaning (e.rest i).store).limit) cause c.requires.good.kept;
      rose = rose_same x.books.cause y.books.cause _ _ cause c.requires.good.sane.rose;
      led = led_same (g.C.Client.prog x.client.now) x.length _ _ m (g.S.SegStore.meaning y.store) y.books _ _
          (ap (λ q. g.S.SegStore.meaning q.store) e.rest)
          (out_led (g.C.Client.prog x.client.now) x.length c.args.k _ _ m x.books c.take.new.self y.books
          c.in-Runs.work c.in-Runs.ensures.hand t rest c.in_default.is c.solo_out.result e.ok e.back e.taken);
    }

pub returns-in-Runs : goal.returns-in-Runs
returns-in-Runs g c =
    let x = c.args.self.now in
    let y = c.solo_out.new.self in
    record {
      good = quiet_good g.I.Source.state g.O.Sink.state g.E.Sink.state g.C.Client.prog g.C.Client.sound
          g.S.SegStore.reserved g.S.SegStore.meaning x y _ (went g c) c.requires.good;
      job = quiet_job g.I.Source.state g.O.Sink.state g.E.Sink.state g.C.Client.prog g.C.Client.sound
          g.S.SegStore.reserved g.S.SegStore.meaning x y _ (went g c) c.requires.good;
      soloed = quiet_leads g.I.Source.state g.O.Sink.state g.E.Sink.state g.C.Client.prog g.C.Client.sound
          g.S.SegStore.reserved g.S.SegStore.meaning x y _ (went g c) c.requires.good;
      peaks = ap (λ z. g.S.SegStore.peaks z.store) c.solo_out.ensures.rest;
      devices = quiet_devices g.I.Source.state g.O.Sink.state g.E.Sink.state g.C.Client.prog g.C.Client.sound
          g.S.SegStore.reserved g.S.SegStore.meaning x y _ (went g c) c.requires.good;
    }
