use Rattle.std.proofs.Common.{refl, sym, ◌∙◌, ap, subst, arith}
use Rattle.stm_core.specs.Counted.{FaultRose}
use Rattle.stm_segment.specs.Books.{with_own}
use Rattle.stm_core.specs.Begun.{CountsSteps}
use Rattle.stm_segment.specs.Devices.{device_state}
use Rattle.stm_core.specs.inner.Trying.{core_with}
use Rattle.stm_segment.specs.InUse.{IfTold}
use Rattle.stm_core.specs.inner.Pausing.{PauseWhy}
use Rattle.stm_core.specs.inner.Rising.{RisesOut}
use Rattle.stm_core.specs.inner.Settled.{KeepsOrRose, Rises}
use Rattle.stm_core.proofs.TakenSteps.{sane_paused, thread_out, history_paused, cause_paused, settled_now}
use Rattle.stm_core.proofs.transactions.Core.take_steps.Goals as goal

pub run_out-done-requires-clause-fit : goal.run_out-done-requires-clause-fit
run_out-done-requires-clause-fit g c = c.requires.out.fit

pub run_out-done-requires-clause-store : goal.run_out-done-requires-clause-store
run_out-done-requires-clause-store g c = c.requires.out.store

pub run_out-done-requires-clause-idle : goal.run_out-done-requires-clause-idle
run_out-done-requires-clause-idle g c = c.requires.out.idle

pub run_out-done-requires-clause-sane : goal.run_out-done-requires-clause-sane
run_out-done-requires-clause-sane g c = c.requires.out.sane

pub settle-requires-clause-out : goal.settle-requires-clause-out
settle-requires-clause-out g c =
    let x = c.args.self.now in
    let p = g.C.Client.prog x.client.now in
    let sound = g.C.Client.sound x.client.now in
    let s = c.requires.out.sane in
    let r = c.run_out-done.ensures in
    let y = c.run_out-done.new.self in
    let m1 = g.S.SegStore.meaning y.store in
    let q = r.paused s.out s.err s.sane.worlds
    (core_with s.sane.worlds c.args.k (g.S.SegStore.meaning x.store) x.books c.args.work) s.shown refl in
    record {
      fit = r.fit;
      idle = r.idle;
      thread = thread_out p sound c.args.length c.args.k m1 y.books c.run_out-done.new.work
          (sane_paused p sound c.args.length c.args.k c.run_out-done.result.1 _ m1 y.books c.run_out-done.new.work
          r.sane);
      count = ap (λ z. z.spent) r.rest ∙
          subst (λ l. CountsSteps x.spent l) (sym (history_paused _ _ _ _ _ _ _ q.gone)) c.requires.out.count;
    }

pub settle-requires-clause-why : goal.settle-requires-clause-why
settle-requires-clause-why g c =
    let x = c.args.self.now in
    let y = c.run_out-done.new.self in
    let s = c.requires.out.sane in
    let q = c.run_out-done.ensures.paused s.out s.err s.sane.worlds
    (core_with s.sane.worlds c.args.k (g.S.SegStore.meaning x.store) x.books c.args.work) s.shown refl in
    let v = with_own q.own s.sane.worlds in (
      v,
      subst (λ p. PauseWhy p v c.args.k c.run_out-done.result.1 (g.S.SegStore.meaning y.store)
          (g.S.SegStore.reserved y.store) y.books c.run_out-done.new.work)
          (sym (λ i. g.C.Client.prog (c.run_out-done.ensures.rest i).client.now)) q.why,
    )

pub returns-clause-taken : goal.returns-clause-taken
returns-clause-taken g c = λ t e w o at.
    let x = c.args.self.now in
    let y = c.run_out-done.new.self in
    let z = c.settle.new.self in
    let p = g.C.Client.prog x.client.now in
    let m = g.S.SegStore.meaning x.store in
    let m1 = g.S.SegStore.meaning y.store in
    let d = device_state g.I.Source.state g.O.Sink.state g.E.Sink.state x.devices in
    let d1 = device_state g.I.Source.state g.O.Sink.state g.E.Sink.state y.devices in
    let d2 = device_state g.I.Source.state g.O.Sink.state g.E.Sink.state z.devices in
    let r = c.run_out-done.ensures in
    let q = r.paused t e w (core_with w c.args.k m x.books c.args.work) at.shown refl in
    settled_now p c.args.length c.args.k t e w d d1 m m1 (g.S.SegStore.reserved y.store) x.books y.books c.args.work
    c.run_out-done.new.work o at c.run_out-done.result.0 c.run_out-done.result.1 q r.solo r.broken r.devices
    (g.C.Client.prog y.client.now) (λ i. g.C.Client.prog (r.rest i).client.now) m.segments c.args.most
    (g.S.SegStore.reserved z.store) d2 (g.S.SegStore.meaning z.store) z.books c.settle.result r.shape.0
    c.settle.ensures.tried
    (c.settle.ensures.counted c.args.most r.count) c.requires.short r.steps (c.settle.ensures.settled t e)

pub returns-clause-gone : goal.returns-clause-gone
returns-clause-gone g c =
    let x = c.args.self.now in
    let y = c.run_out-done.new.self in
    let z = c.settle.new.self in
    let m = g.S.SegStore.meaning x.store in
    let d = device_state g.I.Source.state g.O.Sink.state g.E.Sink.state x.devices in
    let d1 = device_state g.I.Source.state g.O.Sink.state g.E.Sink.state y.devices in
    let r = c.run_out-done.ensures in
    let e = c.settle.ensures in
    let s = c.requires.out.sane in
    let q = r.paused s.out s.err s.sane.worlds (core_with s.sane.worlds c.args.k m x.books c.args.work) s.shown refl in
    let same = cause_paused _ _ _ _ _ _ _ q.gone in
    let rises : Rises x.books.cause z.books.cause d d1 = record {
      counts = r.devices.counts;
      rose = subst (λ o. KeepsOrRose o z.books.cause d d1) same (e.rose d d1 r.devices.rose);
    } in
    record {
      rest = e.ended.rest ∙ (λ i. record (r.rest i) { store = z.store; books = z.books; spent = z.spent }) ∙
          (λ i. record x {
            store = z.store;
            books = z.books;
            devices = (sym e.ended.rest i).devices;
            spent = z.spent;
          });
      shape = (e.ended.shape.0 ∙ r.shape.0, e.ended.shape.1 ∙ r.shape.1);
      reserved = (let a = r.reserved in let b = e.ended.reserved in omega (arith, a, b));
      peaks = λ t e1 w shown. subst (λ v. IfTold (g.S.SegStore.peaks x.store) v
          (RisesOut (g.C.Client.prog x.client.now) c.args.length c.args.k m
          (core_with w c.args.k m x.books c.args.work))) (sym e.ended.peaks) (r.peaks t e1 w shown);
      whole = e.ended.whole;
      count = e.ended.count;
      rises = subst (Rises x.books.cause z.books.cause d)
          (sym (λ i. device_state g.I.Source.state g.O.Sink.state g.E.Sink.state (e.ended.rest i).devices)) rises;
      fault = subst (FaultRose c.settle.result d)
          (sym (λ i. device_state g.I.Source.state g.O.Sink.state g.E.Sink.state (e.ended.rest i).devices))
          (e.fault d d1 r.devices.rose);
    }
