use Rattle.std.proofs.Common.{sym, ap, subst, inl, Err}
use Rattle.stm_segment.specs.Devices.{device_state, StopRose}
use Rattle.stm_core.specs.Counted.{FaultRose}
use Rattle.stm_core.proofs.Endings.{solo_ends, lost_ends, full_ends, memory_ends, read_ends, write_ends, err_ends}
use Rattle.stm_core.proofs.Calling.{blank}
use Rattle.stm_core.proofs.Ended.{ended_put, ended_dropped}
use Rattle.stm_core.proofs.transactions.Core.settle_stop.Goals as goal

pub put_back-requires-clause-fit : goal.put_back-requires-clause-fit
put_back-requires-clause-fit g c = c.requires.out.fit

pub put_back-requires-clause-idle : goal.put_back-requires-clause-idle
put_back-requires-clause-idle g c = c.requires.out.idle

pub lose_out-requires-clause-fit : goal.lose_out-requires-clause-fit
lose_out-requires-clause-fit g c = c.requires.out.fit

pub lose_out-requires-clause-idle : goal.lose_out-requires-clause-idle
lose_out-requires-clause-idle g c = c.requires.out.idle

pub returns-in-NeedSolo-clause-ended : goal.returns-in-NeedSolo-clause-ended
returns-in-NeedSolo-clause-ended g c =
    let p = c.put_back.ensures in
    ended_put g.S.SegStore.meaning g.S.SegStore.reserved g.S.SegStore.peaks c.args.self.now c.put_back.new.self p.rest
    p.whole (ap (λ k. k.history) (p.core blank)) c.requires.out.count

pub returns-in-NeedSolo-clause-rose : goal.returns-in-NeedSolo-clause-rose
returns-in-NeedSolo-clause-rose g c = λ d d1 h. inl (ap (λ k. k.cause) (c.put_back.ensures.core blank))

pub returns-in-Lost-clause-ended : goal.returns-in-Lost-clause-ended
returns-in-Lost-clause-ended g c =
    let d = c.lose_out.ensures in
    ended_dropped g.S.SegStore.meaning g.S.SegStore.reserved g.S.SegStore.peaks c.args.self.now c.lose_out.new.self
    c.args.k d.rest d.whole (ap (λ k. k.history) (d.core blank)) d.store d.reserved d.peaks c.requires.out.count

pub returns-in-NeedSolo-clause-settled : goal.returns-in-NeedSolo-clause-settled
returns-in-NeedSolo-clause-settled g c = λ t e w o out.
    let x = c.args.self.now in
    let y = c.put_back.new.self in
    solo_ends (g.C.Client.prog x.client.now) t e _ w c.args.k (g.S.SegStore.meaning x.store)
    (g.S.SegStore.reserved x.store) x.books c.args.work o
    (device_state g.I.Source.state g.O.Sink.state g.E.Sink.state y.devices)
    (λ i. device_state g.I.Source.state g.O.Sink.state g.E.Sink.state (c.put_back.ensures.rest i).devices)
    (g.S.SegStore.meaning y.store) (g.S.SegStore.reserved y.store) y.books c.args.done c.args.halt c.in-NeedSolo.is
    out (c.put_back.ensures.core w) c.put_back.ensures.broken

pub returns-in-Lost-clause-settled : goal.returns-in-Lost-clause-settled
returns-in-Lost-clause-settled g c = λ t e w o out.
    let x = c.args.self.now in
    let y = c.lose_out.new.self in
    lost_ends (g.C.Client.prog x.client.now) t e _ w c.args.k (g.S.SegStore.meaning x.store)
    (g.S.SegStore.reserved x.store) x.books c.args.work o
    (device_state g.I.Source.state g.O.Sink.state g.E.Sink.state y.devices)
    (λ i. device_state g.I.Source.state g.O.Sink.state g.E.Sink.state (c.lose_out.ensures.rest i).devices)
    (g.S.SegStore.meaning y.store) (g.S.SegStore.reserved y.store) y.books c.in-Lost.f c.args.halt c.in-Lost.is out
    c.requires.out.idle (c.lose_out.ensures.core w) c.lose_out.ensures.broken

pub returns-in-Full-clause-settled : goal.returns-in-Full-clause-settled
returns-in-Full-clause-settled g c = λ t e w o out.
    let x = c.args.self.now in
    let y = c.fail_out.new.self in
    full_ends (g.C.Client.prog x.client.now) t e _ w c.args.k (g.S.SegStore.meaning x.store)
    (g.S.SegStore.reserved x.store) x.books c.args.work o
    (device_state g.I.Source.state g.O.Sink.state g.E.Sink.state y.devices)
    (λ i. device_state g.I.Source.state g.O.Sink.state g.E.Sink.state (c.fail_out.ensures.ended.rest i).devices)
    (g.S.SegStore.meaning y.store) (g.S.SegStore.reserved y.store) y.books c.in-Full.reserved c.in-Full.need
    c.in-Full.limit c.args.halt c.in-Full.is out c.requires.out.idle c.fail_out.ensures.ended.reserved
    c.fail_out.ensures.ended.shape.1 (λ q. let h = c.fail_out.ensures.mortal q in record { broken = h.0; core = h.1 })
    (λ q. let h = c.fail_out.ensures.solo q in record { broken = h.0; core = h.1 }) c.fail_out.result
    c.fail_out.ensures.same

pub returns-in-OutOfMemory-clause-settled : goal.returns-in-OutOfMemory-clause-settled
returns-in-OutOfMemory-clause-settled g c = λ t e w o out.
    let x = c.args.self.now in
    let y = c.fail_out-in-OutOfMemory.new.self in
    memory_ends (g.C.Client.prog x.client.now) t e _ w c.args.k (g.S.SegStore.meaning x.store)
    (g.S.SegStore.reserved x.store) x.books c.args.work o
    (device_state g.I.Source.state g.O.Sink.state g.E.Sink.state y.devices)
    (λ i. device_state g.I.Source.state g.O.Sink.state g.E.Sink.state
    (c.fail_out-in-OutOfMemory.ensures.ended.rest i).devices) (g.S.SegStore.meaning y.store)
    (g.S.SegStore.reserved y.store) y.books c.args.halt c.in-OutOfMemory.is out c.requires.out.idle
    (λ q. let h = c.fail_out-in-OutOfMemory.ensures.mortal q in record { broken = h.0; core = h.1 })
    (λ q. let h = c.fail_out-in-OutOfMemory.ensures.solo q in record { broken = h.0; core = h.1 })
    c.fail_out-in-OutOfMemory.result c.fail_out-in-OutOfMemory.ensures.same

pub returns-in-ReadFault-clause-settled : goal.returns-in-ReadFault-clause-settled
returns-in-ReadFault-clause-settled g c = λ t e w o out.
    let x = c.args.self.now in
    let y = c.fail_out-in-ReadFault.new.self in
    read_ends (g.C.Client.prog x.client.now) t e _ w c.args.k (g.S.SegStore.meaning x.store)
    (g.S.SegStore.reserved x.store) x.books c.args.work o
    (device_state g.I.Source.state g.O.Sink.state g.E.Sink.state y.devices)
    (λ i. device_state g.I.Source.state g.O.Sink.state g.E.Sink.state
    (c.fail_out-in-ReadFault.ensures.ended.rest i).devices) (g.S.SegStore.meaning y.store)
    (g.S.SegStore.reserved y.store) y.books c.args.halt c.in-ReadFault.is out c.requires.out.idle
    (λ q. let h = c.fail_out-in-ReadFault.ensures.mortal q in record { broken = h.0; core = h.1 })
    (λ q. let h = c.fail_out-in-ReadFault.ensures.solo q in record { broken = h.0; core = h.1 })
    c.fail_out-in-ReadFault.result c.fail_out-in-ReadFault.ensures.same

pub returns-in-WriteFault-clause-settled : goal.returns-in-WriteFault-clause-settled
returns-in-WriteFault-clause-settled g c = λ t e w o out.
    let x = c.args.self.now in
    let y = c.fail_out-in-WriteFault.new.self in
    write_ends (g.C.Client.prog x.client.now) t e _ w c.args.k (g.S.SegStore.meaning x.store)
    (g.S.SegStore.reserved x.store) x.books c.args.work o
    (device_state g.I.Source.state g.O.Sink.state g.E.Sink.state y.devices)
    (λ i. device_state g.I.Source.state g.O.Sink.state g.E.Sink.state
    (c.fail_out-in-WriteFault.ensures.ended.rest i).devices) (g.S.SegStore.meaning y.store)
    (g.S.SegStore.reserved y.store) y.books c.args.halt c.in-WriteFault.is out c.requires.out.idle
    (λ q. let h = c.fail_out-in-WriteFault.ensures.mortal q in record { broken = h.0; core = h.1 })
    (λ q. let h = c.fail_out-in-WriteFault.ensures.solo q in record { broken = h.0; core = h.1 })
    c.fail_out-in-WriteFault.result c.fail_out-in-WriteFault.ensures.same

pub returns-in-ErrFault-clause-settled : goal.returns-in-ErrFault-clause-settled
returns-in-ErrFault-clause-settled g c = λ t e w o out.
    let x = c.args.self.now in
    let y = c.fail_out-in-ErrFault.new.self in
    err_ends (g.C.Client.prog x.client.now) t e _ w c.args.k (g.S.SegStore.meaning x.store)
    (g.S.SegStore.reserved x.store) x.books c.args.work o
    (device_state g.I.Source.state g.O.Sink.state g.E.Sink.state y.devices)
    (λ i. device_state g.I.Source.state g.O.Sink.state g.E.Sink.state
    (c.fail_out-in-ErrFault.ensures.ended.rest i).devices) (g.S.SegStore.meaning y.store)
    (g.S.SegStore.reserved y.store) y.books c.args.halt c.in-ErrFault.is out c.requires.out.idle
    (λ q. let h = c.fail_out-in-ErrFault.ensures.mortal q in record { broken = h.0; core = h.1 })
    (λ q. let h = c.fail_out-in-ErrFault.ensures.solo q in record { broken = h.0; core = h.1 })
    c.fail_out-in-ErrFault.result c.fail_out-in-ErrFault.ensures.same

pub returns-in-Full-clause-fault : goal.returns-in-Full-clause-fault
returns-in-Full-clause-fault g c = λ d d1 h.
    subst (λ e. FaultRose (Err e) d d1) (sym c.fail_out.ensures.same) tt

pub returns-in-OutOfMemory-clause-fault : goal.returns-in-OutOfMemory-clause-fault
returns-in-OutOfMemory-clause-fault g c = λ d d1 h.
    subst (λ e. FaultRose (Err e) d d1) (sym c.fail_out-in-OutOfMemory.ensures.same) tt

pub returns-in-ReadFault-clause-fault : goal.returns-in-ReadFault-clause-fault
returns-in-ReadFault-clause-fault g c = λ d d1 h.
    subst (λ e. FaultRose (Err e) d d1) (sym c.fail_out-in-ReadFault.ensures.same)
    (subst (λ s. StopRose s d d1) c.in-ReadFault.is h)

pub returns-in-WriteFault-clause-fault : goal.returns-in-WriteFault-clause-fault
returns-in-WriteFault-clause-fault g c = λ d d1 h.
    subst (λ e. FaultRose (Err e) d d1) (sym c.fail_out-in-WriteFault.ensures.same)
    (subst (λ s. StopRose s d d1) c.in-WriteFault.is h)

pub returns-in-ErrFault-clause-fault : goal.returns-in-ErrFault-clause-fault
returns-in-ErrFault-clause-fault g c = λ d d1 h.
    subst (λ e. FaultRose (Err e) d d1) (sym c.fail_out-in-ErrFault.ensures.same)
    (subst (λ s. StopRose s d d1) c.in-ErrFault.is h)

pub returns-in-NeedSolo-clause-fault : goal.returns-in-NeedSolo-clause-fault
returns-in-NeedSolo-clause-fault g c = λ d d1 h. tt

pub returns-in-Lost-clause-fault : goal.returns-in-Lost-clause-fault
returns-in-Lost-clause-fault g c = λ d d1 h. tt
