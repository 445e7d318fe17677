use Rattle.std.proofs.Common.{◌≡◌, ◌/◌, inl, sym, ◌∙◌, ap, subst, arith}
use Rattle.stm_core.specs.Begun.{CountsSteps}
use Rattle.stm_segment.specs.Devices.{device_state}
use Rattle.stm_core.specs.inner.Trying.{core_with}
use Rattle.stm_core.specs.inner.Settled.{Rises}
use Rattle.stm_core.proofs.PeaksRising.{within_same}
use Rattle.stm_core.proofs.TakenSteps.{counts_same, settled_as, ended_out}
use Rattle.stm_core.proofs.Calling.{blank}
use Rattle.stm_core.proofs.transactions.Core.advance_out.Goals as goal

pub returns-in-Lives-clause-advanced : goal.returns-in-Lives-clause-advanced
returns-in-Lives-clause-advanced g c = λ t e w o at. let lives = sym c.in-Lives.ensures in
    settled_as t e _ _ _ _ _ (λ o1 h. ((λ n. absurd (n lives)), (λ l. h))) (c.take_steps.ensures.taken t e w o at)

pub put_back-requires-clause-fit : goal.put_back-requires-clause-fit
put_back-requires-clause-fit g c = c.requires.out.fit

pub put_back-requires-clause-idle : goal.put_back-requires-clause-idle
put_back-requires-clause-idle g c = c.requires.out.idle

pub returns-in_default : goal.returns-in_default
returns-in_default g c =
    let x = c.args.self.now in
    let y = c.put_back.new.self in
    let rest = c.put_back.ensures.rest in
    let d = device_state g.I.Source.state g.O.Sink.state g.E.Sink.state x.devices in
    let m1 = g.S.SegStore.meaning y.store in
    let same : device_state g.I.Source.state g.O.Sink.state g.E.Sink.state y.devices ≡ d = λ i.
    device_state g.I.Source.state g.O.Sink.state g.E.Sink.state (rest i).devices in
    let reserved : g.S.SegStore.reserved y.store ≡ g.S.SegStore.reserved x.store = λ i.
    g.S.SegStore.reserved (rest i).store in
    let rises : Rises x.books.cause y.books.cause d d =
    record { counts = counts_same d; rose = inl (ap (λ k. k.cause) (c.put_back.ensures.core blank)) } in
    record {
      gone = record {
        rest = rest ∙ (λ i. record x {
          store = (sym rest i).store;
          books = y.books;
          devices = (sym rest i).devices;
          spent = (sym rest i).spent;
        });
        shape = (λ i. (g.S.SegStore.meaning (rest i).store).segments, λ i. (g.S.SegStore.meaning (rest i).store).limit);
        reserved = omega (arith, reserved);
        peaks = λ t e w shown.
            let m = g.S.SegStore.meaning x.store in
            within_same (g.C.Client.prog x.client.now) c.args.length (m.limit / 2) m.segments c.args.k
            (core_with w c.args.k m x.books c.args.work) _ _ (λ i. g.S.SegStore.peaks (rest i).store);
        whole = c.put_back.ensures.whole;
        count = ap (λ s. s.spent) rest ∙ subst (λ l. CountsSteps x.spent l)
            (sym (ap (λ k. k.history) (c.put_back.ensures.core blank))) c.requires.out.count;
        rises = subst (Rises x.books.cause y.books.cause d) (sym same) rises;
        fault = tt;
      };
      advanced = λ t e w o at. ended_out (g.C.Client.prog x.client.now) c.args.length c.args.k t e d w
          (g.S.SegStore.meaning x.store) x.books y.books c.args.work o at
          (λ h. c.in_default.not-Lives (c.life.ensures ∙ h)) (g.S.SegStore.meaning x.store).segments c.args.most
          (g.S.SegStore.reserved y.store) m1.limit _ m1 same (c.put_back.ensures.core w) c.put_back.ensures.broken;
    }
