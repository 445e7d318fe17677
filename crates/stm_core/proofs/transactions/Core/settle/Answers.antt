use Rattle.std.proofs.Common.{ap, subst, inl}
use Rattle.stm_segment.specs.Devices.{device_state}
use Rattle.stm_core.specs.inner.Pauses.{PauseCount}
use Rattle.stm_core.specs.inner.Pausing.{PauseRose}
use Rattle.stm_core.proofs.Endings.{ran_ends, waits_ends, ended_ends}
use Rattle.stm_core.proofs.Calling.{blank}
use Rattle.stm_core.proofs.Ended.{ended_put}
use Rattle.stm_core.proofs.transactions.Core.settle.Goals as goal

pub returns-in-Whole-clause-settled : goal.returns-in-Whole-clause-settled
returns-in-Whole-clause-settled g c = λ t e w o out.
    let x = c.args.self.now in
    let y = c.put_back.new.self in
    ran_ends (g.C.Client.prog x.client.now) t e _ w c.args.k (g.S.SegStore.meaning x.store)
    (g.S.SegStore.reserved x.store) x.books c.args.work o
    (device_state g.I.Source.state g.O.Sink.state g.E.Sink.state y.devices)
    (λ i. device_state g.I.Source.state g.O.Sink.state g.E.Sink.state (c.put_back.ensures.rest i).devices)
    (g.S.SegStore.meaning y.store) (g.S.SegStore.reserved y.store) y.books c.args.done c.args.pause c.in-Whole.is
    out (c.put_back.ensures.core w) c.put_back.ensures.broken

pub returns-in-Waits-clause-settled : goal.returns-in-Waits-clause-settled
returns-in-Waits-clause-settled g c = λ t e w o out.
    let x = c.args.self.now in
    let y = c.put_back-in-Waits.new.self in
    waits_ends (g.C.Client.prog x.client.now) t e _ w c.args.k (g.S.SegStore.meaning x.store)
    (g.S.SegStore.reserved x.store) x.books c.args.work o
    (device_state g.I.Source.state g.O.Sink.state g.E.Sink.state y.devices)
    (λ i. device_state g.I.Source.state g.O.Sink.state g.E.Sink.state (c.put_back-in-Waits.ensures.rest i).devices)
    (g.S.SegStore.meaning y.store) (g.S.SegStore.reserved y.store) y.books c.args.done c.args.pause c.in-Waits.is
    out (c.put_back-in-Waits.ensures.core w) c.put_back-in-Waits.ensures.broken

pub returns-in-Ended-clause-settled : goal.returns-in-Ended-clause-settled
returns-in-Ended-clause-settled g c = λ t e w o out.
    let x = c.args.self.now in
    let y = c.put_back-in-Ended.new.self in
    ended_ends (g.C.Client.prog x.client.now) t e _ w c.args.k (g.S.SegStore.meaning x.store)
    (g.S.SegStore.reserved x.store) x.books c.args.work o
    (device_state g.I.Source.state g.O.Sink.state g.E.Sink.state y.devices)
    (λ i. device_state g.I.Source.state g.O.Sink.state g.E.Sink.state (c.put_back-in-Ended.ensures.rest i).devices)
    (g.S.SegStore.meaning y.store) (g.S.SegStore.reserved y.store) y.books c.args.done c.args.pause c.in-Ended.is
    out (c.put_back-in-Ended.ensures.core w) c.put_back-in-Ended.ensures.broken

pub put_back-requires-clause-fit : goal.put_back-requires-clause-fit
put_back-requires-clause-fit g c = c.requires.out.fit

pub put_back-requires-clause-idle : goal.put_back-requires-clause-idle
put_back-requires-clause-idle g c = c.requires.out.idle

pub returns-in-Whole-clause-ended : goal.returns-in-Whole-clause-ended
returns-in-Whole-clause-ended g c =
    let p = c.put_back.ensures in
    ended_put g.S.SegStore.meaning g.S.SegStore.reserved g.S.SegStore.peaks c.args.self.now c.put_back.new.self p.rest
    p.whole (ap (λ k. k.history) (p.core blank)) c.requires.out.count

pub returns-in-Whole-clause-rose : goal.returns-in-Whole-clause-rose
returns-in-Whole-clause-rose g c = λ d d1 h. inl (ap (λ k. k.cause) (c.put_back.ensures.core blank))

pub put_back-requires-in-Waits-clause-fit : goal.put_back-requires-in-Waits-clause-fit
put_back-requires-in-Waits-clause-fit g c = c.requires.out.fit

pub put_back-requires-in-Waits-clause-idle : goal.put_back-requires-in-Waits-clause-idle
put_back-requires-in-Waits-clause-idle g c = c.requires.out.idle

pub returns-in-Waits-clause-ended : goal.returns-in-Waits-clause-ended
returns-in-Waits-clause-ended g c =
    let p = c.put_back-in-Waits.ensures in
    ended_put g.S.SegStore.meaning g.S.SegStore.reserved g.S.SegStore.peaks c.args.self.now
    c.put_back-in-Waits.new.self p.rest p.whole (ap (λ k. k.history) (p.core blank)) c.requires.out.count

pub returns-in-Waits-clause-rose : goal.returns-in-Waits-clause-rose
returns-in-Waits-clause-rose g c = λ d d1 h. inl (ap (λ k. k.cause) (c.put_back-in-Waits.ensures.core blank))

pub put_back-requires-in-Ended-clause-fit : goal.put_back-requires-in-Ended-clause-fit
put_back-requires-in-Ended-clause-fit g c = c.requires.out.fit

pub put_back-requires-in-Ended-clause-idle : goal.put_back-requires-in-Ended-clause-idle
put_back-requires-in-Ended-clause-idle g c = c.requires.out.idle

pub returns-in-Ended-clause-ended : goal.returns-in-Ended-clause-ended
returns-in-Ended-clause-ended g c =
    let p = c.put_back-in-Ended.ensures in
    ended_put g.S.SegStore.meaning g.S.SegStore.reserved g.S.SegStore.peaks c.args.self.now
    c.put_back-in-Ended.new.self p.rest p.whole (ap (λ k. k.history) (p.core blank)) c.requires.out.count

pub returns-in-Ended-clause-rose : goal.returns-in-Ended-clause-rose
returns-in-Ended-clause-rose g c = λ d d1 h. inl (ap (λ k. k.cause) (c.put_back-in-Ended.ensures.core blank))

pub returns-in-Stopped-clause-counted : goal.returns-in-Stopped-clause-counted
returns-in-Stopped-clause-counted g c = λ most h.
    c.settle_stop.ensures.counted most (subst (PauseCount most c.args.done) c.in-Stopped.is h)

pub returns-in-Whole-clause-fault : goal.returns-in-Whole-clause-fault
returns-in-Whole-clause-fault g c = λ d d1 h. tt

pub returns-in-Waits-clause-fault : goal.returns-in-Waits-clause-fault
returns-in-Waits-clause-fault g c = λ d d1 h. tt

pub returns-in-Ended-clause-fault : goal.returns-in-Ended-clause-fault
returns-in-Ended-clause-fault g c = λ d d1 h. tt

pub returns-in-Stopped-clause-fault : goal.returns-in-Stopped-clause-fault
returns-in-Stopped-clause-fault g c = λ d d1 h.
    c.settle_stop.ensures.fault d d1 (subst (λ p. PauseRose p d d1) c.in-Stopped.is h)
