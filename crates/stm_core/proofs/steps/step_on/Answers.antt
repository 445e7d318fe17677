use Rattle.std.proofs.Common.{◌≡◌, ◌≢◌, ℕ, suc, refl, sym, ap, ◌∙◌, subst, arith, ◌+◌, ◌/◌, true}
use Rattle.stm_core.specs.declared.steps.Pause.TheVariants.{Whole, Waits, Ended, Stopped}
use Rattle.lock_run.specs.Client.{LifeAfter}
use Rattle.lock_run.specs.declared.client.Outcome.TheVariants.{Done, Waits as WaitsNow}
use Rattle.stm_segment.specs.Devices.{device_state}
use Rattle.stm_core.specs.Advance.{Tried}
use Rattle.stm_segment.specs.InUse.{IfTold}
use Rattle.stm_core.specs.inner.Rising.{RisesInStep}
use Rattle.stm_core.specs.inner.Trying.{Sane, SaneShown, core_with, work_of}
use Rattle.stm_core.specs.inner.Pausing.{Paused}
use Rattle.stm_core.proofs.Advancing.{sane_stands, sane_paused, gone_good, gone_cut, tried_none, done_others, done_not_waits, ended_not_waits}
use Rattle.stm_core.proofs.PeaksRising.{step_told, within_same}
use Rattle.stm_core.proofs.Pure.{same_work, pure_done, pure_lives}
use Rattle.stm_core.proofs.Pausing.{numbers_apart, paused_waits, paused_whole, paused_ended, paused_cut}
use Rattle.stm_core.proofs.steps.step_on.Given as given
use Rattle.stm_core.proofs.steps.step_on.Goals.{In-Err}
use Rattle.stm_core.proofs.steps.step_on.Goals as goal

one_more : (n : ℕ) → suc n ≡ n + 1
one_more n = omega arith

pub step_out-requires-clause-stands : goal.step_out-requires-clause-stands
step_out-requires-clause-stands g c = sane_stands (g.C.Client.prog c.args.client.now)
    (g.C.Client.sound c.args.client.now) c.args.length c.args.view.now.segment (g.S.SegStore.meaning
    c.args.view.now.store.now)
    c.args.view.now.books.now (work_of c.args.view.now.side c.args.steps.now c.step_pure.new.s
    c.args.view.now.progress.now)
    (g.met.C.Client.sound_step c.args.client.now)
    (subst (Sane (g.C.Client.prog c.args.client.now) (g.C.Client.sound c.args.client.now)
    c.args.length c.args.view.now.segment (g.S.SegStore.meaning c.args.view.now.store.now) c.args.view.now.books.now)
    (sym
    (same_work (work_of c.args.view.now.side c.args.steps.now c.args.state.now c.args.view.now.progress.now)
    c.step_pure.new.s (c.step_pure.ensures.not c.if-step_pure.false))) c.requires.sane.sane)

pub returns-in-Ok-Waits-clause-paused : goal.returns-in-Ok-Waits-clause-paused
returns-in-Ok-Waits-clause-paused g c = λ t e w n c0 shown h.
    let same = same_work (work_of c.args.view.now.side c.args.steps.now c.args.state.now c.args.view.now.progress.now)
    c.step_pure.new.s (c.step_pure.ensures.not c.if-step_pure.false) in
    let h1 = subst (λ x. Tried (g.C.Client.prog c.args.client.now) c.args.length c.args.view.now.segment true n c0
    (core_with w c.args.view.now.segment (g.S.SegStore.meaning c.args.view.now.store.now) c.args.view.now.books.now x))
    (sym same) h in
    let z = c.in-Ok-Waits.ensures.done c.args.steps.now t e w shown in
    paused_waits (g.C.Client.prog c.args.client.now) c.args.length c.args.view.now.segment n t e w
    (device_state g.I.Source.state g.O.Sink.state g.E.Sink.state c.step_out.new.view.devices.now)
    (g.S.SegStore.meaning c.args.view.now.store.now) (g.S.SegStore.meaning c.step_out.new.view.store.now)
    (g.S.SegStore.reserved c.step_out.new.view.store.now) c.args.view.now.books.now c.step_out.new.view.books.now
    (work_of c.args.view.now.side c.args.steps.now c.step_pure.new.s c.args.view.now.progress.now) (work_of
    c.args.view.now.side c.args.steps.now c.step_out.new.state c.step_out.new.view.progress.now) c0
    c.step_out.ensures.image
    c.step_out.ensures.store c.step_out.ensures.fit
    (ap (g.C.Client.prog c.args.client.now).life (c.step_pure.ensures.not c.if-step_pure.false) ∙
    c.requires.lives) refl h1 z.0 c.in-Ok-Waits.field-0 c.in-Ok-Waits.field-0-is z.2 z.1

pub returns-in-Ok-Waits-clause-sane : goal.returns-in-Ok-Waits-clause-sane
returns-in-Ok-Waits-clause-sane g c =
    let s = c.requires.sane in
    let c0 = core_with s.sane.worlds c.args.view.now.segment (g.S.SegStore.meaning c.args.view.now.store.now)
    c.args.view.now.books.now
    (work_of c.args.view.now.side c.args.steps.now c.args.state.now c.args.view.now.progress.now) in
    sane_paused (g.C.Client.prog c.args.client.now) (g.C.Client.sound c.args.client.now)
    c.args.length c.args.view.now.segment 0 (g.S.SegStore.reserved c.step_out.new.view.store.now) Waits
    (device_state g.I.Source.state g.O.Sink.state g.E.Sink.state c.args.view.now.devices.now)
    (device_state g.I.Source.state g.O.Sink.state g.E.Sink.state c.step_out.new.view.devices.now)
    (g.S.SegStore.meaning c.args.view.now.store.now) (g.S.SegStore.meaning c.step_out.new.view.store.now)
    c.args.view.now.books.now c.step_out.new.view.books.now (work_of c.args.view.now.side c.args.steps.now
    c.args.state.now c.args.view.now.progress.now) (work_of c.args.view.now.side c.args.steps.now c.step_out.new.state
    c.step_out.new.view.progress.now) s
    (returns-in-Ok-Waits-clause-paused g c s.out s.err s.sane.worlds 0 c0 s.shown
    (tried_none (g.C.Client.prog c.args.client.now) c.args.length c.args.view.now.segment true c0))

pub returns-in-Ok-Done-clause-paused : goal.returns-in-Ok-Done-clause-paused
returns-in-Ok-Done-clause-paused g c = λ t e w n c0 shown h.
    let same = same_work (work_of c.args.view.now.side c.args.steps.now c.args.state.now c.args.view.now.progress.now)
    c.step_pure.new.s (c.step_pure.ensures.not c.if-step_pure.false) in
    let h1 = subst (λ x. Tried (g.C.Client.prog c.args.client.now) c.args.length c.args.view.now.segment true n c0
    (core_with w c.args.view.now.segment (g.S.SegStore.meaning c.args.view.now.store.now) c.args.view.now.books.now x))
    (sym same) h in
    let s = subst (SaneShown (g.C.Client.prog c.args.client.now)
    (g.C.Client.sound c.args.client.now) c.args.length c.args.view.now.segment
    (device_state g.I.Source.state g.O.Sink.state g.E.Sink.state c.args.view.now.devices.now)
    (g.S.SegStore.meaning c.args.view.now.store.now) c.args.view.now.books.now) (sym same) c.requires.sane in
    let o = c.in-Ok-Done.field-0 in
    let goes : o ≢ WaitsNow = λ q. done_not_waits (sym c.in-Ok-Done.field-0-is ∙ q) in
    let z = c.in-Ok-Done.ensures.done c.args.steps.now t e w shown in
    let y = c.in-Ok-Done.ensures.done c.args.steps.now s.out s.err s.sane.worlds s.shown in
    let others = done_others (g.C.Client.prog c.args.client.now) (g.C.Client.sound c.args.client.now)
    c.args.length c.args.view.now.segment (g.S.SegStore.meaning c.args.view.now.store.now)
    (g.S.SegStore.meaning c.step_out.new.view.store.now) c.args.view.now.books.now c.step_out.new.view.books.now
    (work_of c.args.view.now.side c.args.steps.now c.step_pure.new.s c.args.view.now.progress.now) (work_of
    c.args.view.now.side c.args.steps.now c.step_out.new.state c.step_out.new.view.progress.now) s.sane y.0 o y.2 in
    subst (λ i. Paused (g.C.Client.prog c.args.client.now) c.args.length c.args.view.now.segment
    t e w c0 (n + 1) Whole (g.S.SegStore.meaning c.step_out.new.view.store.now)
    (g.S.SegStore.reserved c.step_out.new.view.store.now) c.step_out.new.view.books.now (work_of c.args.view.now.side i
    c.step_out.new.state c.step_out.new.view.progress.now)
    (device_state g.I.Source.state g.O.Sink.state g.E.Sink.state c.step_out.new.view.devices.now))
    (one_more c.args.steps.now)
    (paused_whole (g.C.Client.prog c.args.client.now) c.args.length c.args.view.now.segment n t e w
    (device_state g.I.Source.state g.O.Sink.state g.E.Sink.state c.step_out.new.view.devices.now)
    (g.S.SegStore.meaning c.args.view.now.store.now) (g.S.SegStore.meaning c.step_out.new.view.store.now)
    (g.S.SegStore.reserved c.step_out.new.view.store.now) c.args.view.now.books.now c.step_out.new.view.books.now
    (work_of c.args.view.now.side c.args.steps.now c.step_pure.new.s c.args.view.now.progress.now) (work_of
    c.args.view.now.side c.args.steps.now c.step_out.new.state c.step_out.new.view.progress.now) c0
    c.step_out.ensures.image
    c.step_out.ensures.store c.step_out.ensures.fit
    (ap (g.C.Client.prog c.args.client.now).life (c.step_pure.ensures.not c.if-step_pure.false) ∙
    c.requires.lives) refl h1 z.0 o goes z.2
    (let q = c.requires.short in omega (arith, q))
    others z.1 (subst (λ v. LifeAfter v
    ((g.C.Client.prog c.args.client.now).life c.step_out.new.state)) c.in-Ok-Done.field-0-is
    c.in-Ok-Done.ensures.life))

pub returns-in-Ok-Done-clause-sane : goal.returns-in-Ok-Done-clause-sane
returns-in-Ok-Done-clause-sane g c =
    let s = c.requires.sane in
    let c0 = core_with s.sane.worlds c.args.view.now.segment (g.S.SegStore.meaning c.args.view.now.store.now)
    c.args.view.now.books.now
    (work_of c.args.view.now.side c.args.steps.now c.args.state.now c.args.view.now.progress.now) in
    sane_paused (g.C.Client.prog c.args.client.now) (g.C.Client.sound c.args.client.now)
    c.args.length c.args.view.now.segment 1 (g.S.SegStore.reserved c.step_out.new.view.store.now) Whole
    (device_state g.I.Source.state g.O.Sink.state g.E.Sink.state c.args.view.now.devices.now)
    (device_state g.I.Source.state g.O.Sink.state g.E.Sink.state c.step_out.new.view.devices.now)
    (g.S.SegStore.meaning c.args.view.now.store.now) (g.S.SegStore.meaning c.step_out.new.view.store.now)
    c.args.view.now.books.now c.step_out.new.view.books.now (work_of c.args.view.now.side c.args.steps.now
    c.args.state.now c.args.view.now.progress.now) (work_of c.args.view.now.side (c.args.steps.now + 1)
    c.step_out.new.state c.step_out.new.view.progress.now) s
    (returns-in-Ok-Done-clause-paused g c s.out s.err s.sane.worlds 0 c0 s.shown
    (tried_none (g.C.Client.prog c.args.client.now) c.args.length c.args.view.now.segment true c0))

pub returns-in-Ok-Ended-clause-paused : goal.returns-in-Ok-Ended-clause-paused
returns-in-Ok-Ended-clause-paused g c = λ t e w n c0 shown h.
    let same = same_work (work_of c.args.view.now.side c.args.steps.now c.args.state.now c.args.view.now.progress.now)
    c.step_pure.new.s (c.step_pure.ensures.not c.if-step_pure.false) in
    let h1 = subst (λ x. Tried (g.C.Client.prog c.args.client.now) c.args.length c.args.view.now.segment true n c0
    (core_with w c.args.view.now.segment (g.S.SegStore.meaning c.args.view.now.store.now) c.args.view.now.books.now x))
    (sym same) h in
    let s = subst (SaneShown (g.C.Client.prog c.args.client.now)
    (g.C.Client.sound c.args.client.now) c.args.length c.args.view.now.segment
    (device_state g.I.Source.state g.O.Sink.state g.E.Sink.state c.args.view.now.devices.now)
    (g.S.SegStore.meaning c.args.view.now.store.now) c.args.view.now.books.now) (sym same) c.requires.sane in
    let o = c.in-Ok-Ended.field-0 in
    let goes : o ≢ WaitsNow = λ q. ended_not_waits (sym c.in-Ok-Ended.field-0-is ∙ q) in
    let z = c.in-Ok-Ended.ensures.done c.args.steps.now t e w shown in
    let y = c.in-Ok-Ended.ensures.done c.args.steps.now s.out s.err s.sane.worlds s.shown in
    let others = done_others (g.C.Client.prog c.args.client.now) (g.C.Client.sound c.args.client.now)
    c.args.length c.args.view.now.segment (g.S.SegStore.meaning c.args.view.now.store.now)
    (g.S.SegStore.meaning c.step_out.new.view.store.now) c.args.view.now.books.now c.step_out.new.view.books.now
    (work_of c.args.view.now.side c.args.steps.now c.step_pure.new.s c.args.view.now.progress.now) (work_of
    c.args.view.now.side c.args.steps.now c.step_out.new.state c.step_out.new.view.progress.now) s.sane y.0 o y.2 in
    subst (λ i. Paused (g.C.Client.prog c.args.client.now) c.args.length c.args.view.now.segment
    t e w c0 (n + 1) Ended (g.S.SegStore.meaning c.step_out.new.view.store.now)
    (g.S.SegStore.reserved c.step_out.new.view.store.now) c.step_out.new.view.books.now (work_of c.args.view.now.side i
    c.step_out.new.state c.step_out.new.view.progress.now)
    (device_state g.I.Source.state g.O.Sink.state g.E.Sink.state c.step_out.new.view.devices.now))
    (one_more c.args.steps.now)
    (paused_ended (g.C.Client.prog c.args.client.now) c.args.length c.args.view.now.segment n t e w
    (device_state g.I.Source.state g.O.Sink.state g.E.Sink.state c.step_out.new.view.devices.now)
    (g.S.SegStore.meaning c.args.view.now.store.now) (g.S.SegStore.meaning c.step_out.new.view.store.now)
    (g.S.SegStore.reserved c.step_out.new.view.store.now) c.args.view.now.books.now c.step_out.new.view.books.now
    (work_of c.args.view.now.side c.args.steps.now c.step_pure.new.s c.args.view.now.progress.now) (work_of
    c.args.view.now.side c.args.steps.now c.step_out.new.state c.step_out.new.view.progress.now) c0
    c.step_out.ensures.image
    c.step_out.ensures.store c.step_out.ensures.fit
    (ap (g.C.Client.prog c.args.client.now).life (c.step_pure.ensures.not c.if-step_pure.false) ∙
    c.requires.lives) refl h1 z.0 o goes z.2
    (let q = c.requires.short in omega (arith, q))
    others z.1 (subst (λ v. LifeAfter v
    ((g.C.Client.prog c.args.client.now).life c.step_out.new.state)) c.in-Ok-Ended.field-0-is
    c.in-Ok-Ended.ensures.life))

pub returns-in-Ok-Ended-clause-sane : goal.returns-in-Ok-Ended-clause-sane
returns-in-Ok-Ended-clause-sane g c =
    let s = c.requires.sane in
    let c0 = core_with s.sane.worlds c.args.view.now.segment (g.S.SegStore.meaning c.args.view.now.store.now)
    c.args.view.now.books.now
    (work_of c.args.view.now.side c.args.steps.now c.args.state.now c.args.view.now.progress.now) in
    sane_paused (g.C.Client.prog c.args.client.now) (g.C.Client.sound c.args.client.now)
    c.args.length c.args.view.now.segment 1 (g.S.SegStore.reserved c.step_out.new.view.store.now) Ended
    (device_state g.I.Source.state g.O.Sink.state g.E.Sink.state c.args.view.now.devices.now)
    (device_state g.I.Source.state g.O.Sink.state g.E.Sink.state c.step_out.new.view.devices.now)
    (g.S.SegStore.meaning c.args.view.now.store.now) (g.S.SegStore.meaning c.step_out.new.view.store.now)
    c.args.view.now.books.now c.step_out.new.view.books.now (work_of c.args.view.now.side c.args.steps.now
    c.args.state.now c.args.view.now.progress.now) (work_of c.args.view.now.side (c.args.steps.now + 1)
    c.step_out.new.state c.step_out.new.view.progress.now) s
    (returns-in-Ok-Ended-clause-paused g c s.out s.err s.sane.worlds 0 c0 s.shown
    (tried_none (g.C.Client.prog c.args.client.now) c.args.length c.args.view.now.segment true c0))

-- the core is good after a step that was cut
sane_cut : (g : given.Over) (c : In-Err g) →
    Sane (g.C.Client.prog c.args.client.now) (g.C.Client.sound c.args.client.now) c.args.length
    c.args.view.now.segment (g.S.SegStore.meaning c.step_out.new.view.store.now) c.step_out.new.view.books.now (work_of
    c.args.view.now.side c.args.steps.now c.step_out.new.state c.step_out.new.view.progress.now)
sane_cut g c =
    let s = subst (SaneShown (g.C.Client.prog c.args.client.now)
    (g.C.Client.sound c.args.client.now) c.args.length c.args.view.now.segment
    (device_state g.I.Source.state g.O.Sink.state g.E.Sink.state c.args.view.now.devices.now)
    (g.S.SegStore.meaning c.args.view.now.store.now) c.args.view.now.books.now)
    (sym (same_work (work_of c.args.view.now.side c.args.steps.now c.args.state.now c.args.view.now.progress.now)
    c.step_pure.new.s (c.step_pure.ensures.not c.if-step_pure.false)))
    c.requires.sane in
    let w = s.sane.worlds in
    let c0 = core_with w c.args.view.now.segment (g.S.SegStore.meaning c.args.view.now.store.now)
    c.args.view.now.books.now
    (work_of c.args.view.now.side c.args.steps.now c.step_pure.new.s c.args.view.now.progress.now) in
    let gone = gone_cut (g.C.Client.prog c.args.client.now) c.args.length c.args.view.now.segment 0 w
    (g.S.SegStore.meaning c.args.view.now.store.now) (g.S.SegStore.meaning c.step_out.new.view.store.now)
    (g.S.SegStore.reserved c.step_out.new.view.store.now) c.args.view.now.books.now c.step_out.new.view.books.now
    (work_of c.args.view.now.side c.args.steps.now c.step_pure.new.s c.args.view.now.progress.now) (work_of
    c.args.view.now.side c.args.steps.now c.step_out.new.state c.step_out.new.view.progress.now) c0
    c.step_out.ensures.image
    c.step_out.ensures.store c.step_out.ensures.fit
    (tried_none (g.C.Client.prog c.args.client.now) c.args.length c.args.view.now.segment true c0) c.step_out.new.halt
    (c.in-Err.ensures.cut c.args.steps.now s.out s.err w s.shown) in
    record {
      worlds = w;
      start = s.sane.start;
      first = s.sane.first;
      good = gone_good (g.C.Client.prog c.args.client.now) s.sane.start c.args.length c.args.view.now.segment 0 1 c0
          (core_with w c.args.view.now.segment (g.S.SegStore.meaning c.step_out.new.view.store.now)
          c.step_out.new.view.books.now
          (work_of c.args.view.now.side c.args.steps.now c.step_out.new.state c.step_out.new.view.progress.now))
          s.sane.good gone;
    }

pub returns-in-Err-clause-paused : goal.returns-in-Err-clause-paused
returns-in-Err-clause-paused g c = λ t e w n c0 shown h.
    let same = same_work (work_of c.args.view.now.side c.args.steps.now c.args.state.now c.args.view.now.progress.now)
    c.step_pure.new.s (c.step_pure.ensures.not c.if-step_pure.false) in
    let h1 = subst (λ x. Tried (g.C.Client.prog c.args.client.now) c.args.length c.args.view.now.segment true n c0
    (core_with w c.args.view.now.segment (g.S.SegStore.meaning c.args.view.now.store.now) c.args.view.now.books.now x))
    (sym same) h in
    paused_cut (g.C.Client.prog c.args.client.now) c.args.length c.args.view.now.segment n t e w
    (device_state g.I.Source.state g.O.Sink.state g.E.Sink.state c.step_out.new.view.devices.now)
    (g.S.SegStore.meaning c.args.view.now.store.now) (g.S.SegStore.meaning c.step_out.new.view.store.now)
    (g.S.SegStore.reserved c.step_out.new.view.store.now) c.args.view.now.books.now c.step_out.new.view.books.now
    (work_of c.args.view.now.side c.args.steps.now c.step_pure.new.s c.args.view.now.progress.now) (work_of
    c.args.view.now.side c.args.steps.now c.step_out.new.state c.step_out.new.view.progress.now) c0
    c.step_out.ensures.image
    c.step_out.ensures.store c.step_out.ensures.fit
    (ap (g.C.Client.prog c.args.client.now).life (c.step_pure.ensures.not c.if-step_pure.false) ∙
    c.requires.lives) refl h1 c.step_out.new.halt (c.in-Err.ensures.cut c.args.steps.now t e w shown)
    (numbers_apart (g.C.Client.prog c.args.client.now) (g.C.Client.sound c.args.client.now)
    c.args.length c.args.view.now.segment (g.S.SegStore.meaning c.step_out.new.view.store.now)
    c.step_out.new.view.books.now
    (work_of c.args.view.now.side c.args.steps.now c.step_out.new.state c.step_out.new.view.progress.now) (sane_cut g c)
    w) (λ q. c.in-Err.ensures.broke q c.args.steps.now t e w (shown q))

pub returns-in-Err-clause-sane : goal.returns-in-Err-clause-sane
returns-in-Err-clause-sane g c =
    let s = c.requires.sane in
    let c0 = core_with s.sane.worlds c.args.view.now.segment (g.S.SegStore.meaning c.args.view.now.store.now)
    c.args.view.now.books.now
    (work_of c.args.view.now.side c.args.steps.now c.args.state.now c.args.view.now.progress.now) in
    sane_paused (g.C.Client.prog c.args.client.now) (g.C.Client.sound c.args.client.now)
    c.args.length c.args.view.now.segment 0 (g.S.SegStore.reserved c.step_out.new.view.store.now) (Stopped
    c.step_out.new.halt)
    (device_state g.I.Source.state g.O.Sink.state g.E.Sink.state c.args.view.now.devices.now)
    (device_state g.I.Source.state g.O.Sink.state g.E.Sink.state c.step_out.new.view.devices.now)
    (g.S.SegStore.meaning c.args.view.now.store.now) (g.S.SegStore.meaning c.step_out.new.view.store.now)
    c.args.view.now.books.now c.step_out.new.view.books.now (work_of c.args.view.now.side c.args.steps.now
    c.args.state.now c.args.view.now.progress.now) (work_of c.args.view.now.side c.args.steps.now c.step_out.new.state
    c.step_out.new.view.progress.now) s
    (returns-in-Err-clause-paused g c s.out s.err s.sane.worlds 0 c0 s.shown
    (tried_none (g.C.Client.prog c.args.client.now) c.args.length c.args.view.now.segment true c0))

pub returns-in-Ok-Waits-clause-peaks : goal.returns-in-Ok-Waits-clause-peaks
returns-in-Ok-Waits-clause-peaks g c = λ t e w shown.
    step_told (g.C.Client.prog c.args.client.now) c.args.length c.args.view.now.segment w
    (g.S.SegStore.meaning c.args.view.now.store.now) c.args.view.now.books.now (work_of c.args.view.now.side
    c.args.steps.now c.args.state.now c.args.view.now.progress.now) c.requires.lives
    (let q = c.requires.short in omega (arith, q)) _ _ (subst (λ x. IfTold (g.S.SegStore.peaks
    c.args.view.now.store.now)
    (g.S.SegStore.peaks c.step_out.new.view.store.now) (RisesInStep (g.C.Client.prog c.args.client.now) w
    c.args.view.now.segment
    (g.S.SegStore.meaning c.args.view.now.store.now) c.args.view.now.books.now x))
    (same_work (work_of c.args.view.now.side c.args.steps.now c.args.state.now c.args.view.now.progress.now)
    c.step_pure.new.s (c.step_pure.ensures.not c.if-step_pure.false))
    (c.step_out.ensures.peaks c.args.steps.now t e w shown))

pub returns-in-Ok-Done-clause-peaks : goal.returns-in-Ok-Done-clause-peaks
returns-in-Ok-Done-clause-peaks g c = λ t e w shown.
    step_told (g.C.Client.prog c.args.client.now) c.args.length c.args.view.now.segment w
    (g.S.SegStore.meaning c.args.view.now.store.now) c.args.view.now.books.now (work_of c.args.view.now.side
    c.args.steps.now c.args.state.now c.args.view.now.progress.now) c.requires.lives
    (let q = c.requires.short in omega (arith, q)) _ _ (subst (λ x. IfTold (g.S.SegStore.peaks
    c.args.view.now.store.now)
    (g.S.SegStore.peaks c.step_out.new.view.store.now) (RisesInStep (g.C.Client.prog c.args.client.now) w
    c.args.view.now.segment
    (g.S.SegStore.meaning c.args.view.now.store.now) c.args.view.now.books.now x))
    (same_work (work_of c.args.view.now.side c.args.steps.now c.args.state.now c.args.view.now.progress.now)
    c.step_pure.new.s (c.step_pure.ensures.not c.if-step_pure.false))
    (c.step_out.ensures.peaks c.args.steps.now t e w shown))

pub returns-in-Ok-Ended-clause-peaks : goal.returns-in-Ok-Ended-clause-peaks
returns-in-Ok-Ended-clause-peaks g c = λ t e w shown.
    step_told (g.C.Client.prog c.args.client.now) c.args.length c.args.view.now.segment w
    (g.S.SegStore.meaning c.args.view.now.store.now) c.args.view.now.books.now (work_of c.args.view.now.side
    c.args.steps.now c.args.state.now c.args.view.now.progress.now) c.requires.lives
    (let q = c.requires.short in omega (arith, q)) _ _ (subst (λ x. IfTold (g.S.SegStore.peaks
    c.args.view.now.store.now)
    (g.S.SegStore.peaks c.step_out.new.view.store.now) (RisesInStep (g.C.Client.prog c.args.client.now) w
    c.args.view.now.segment
    (g.S.SegStore.meaning c.args.view.now.store.now) c.args.view.now.books.now x))
    (same_work (work_of c.args.view.now.side c.args.steps.now c.args.state.now c.args.view.now.progress.now)
    c.step_pure.new.s (c.step_pure.ensures.not c.if-step_pure.false))
    (c.step_out.ensures.peaks c.args.steps.now t e w shown))

pub returns-in-Err-clause-peaks : goal.returns-in-Err-clause-peaks
returns-in-Err-clause-peaks g c = λ t e w shown.
    step_told (g.C.Client.prog c.args.client.now) c.args.length c.args.view.now.segment w
    (g.S.SegStore.meaning c.args.view.now.store.now) c.args.view.now.books.now (work_of c.args.view.now.side
    c.args.steps.now c.args.state.now c.args.view.now.progress.now) c.requires.lives
    (let q = c.requires.short in omega (arith, q)) _ _ (subst (λ x. IfTold (g.S.SegStore.peaks
    c.args.view.now.store.now)
    (g.S.SegStore.peaks c.step_out.new.view.store.now) (RisesInStep (g.C.Client.prog c.args.client.now) w
    c.args.view.now.segment
    (g.S.SegStore.meaning c.args.view.now.store.now) c.args.view.now.books.now x))
    (same_work (work_of c.args.view.now.side c.args.steps.now c.args.state.now c.args.view.now.progress.now)
    c.step_pure.new.s (c.step_pure.ensures.not c.if-step_pure.false))
    (c.step_out.ensures.peaks c.args.steps.now t e w shown))

-- ---- a step whose row asks nothing

pub returns-then-step_pure-clause-paused : goal.returns-then-step_pure-clause-paused
returns-then-step_pure-clause-paused g c = λ t e w n c0 shown h.
    let s = c.requires.sane in
    let p = g.C.Client.prog c.args.client.now in
    let m = g.S.SegStore.meaning c.args.view.now.store.now in
    let done = pure_done p w c.args.view.now.segment m (g.S.SegStore.reserved c.args.view.now.store.now)
    c.args.view.now.books.now
    (work_of c.args.view.now.side c.args.steps.now c.args.state.now c.args.view.now.progress.now) c.step_pure.new.s
    c.args.view.now.fits c.known.ensures.store c.requires.lives
    (c.step_pure.ensures.done c.if-step_pure.true) in
    let sane_done = pure_done p s.sane.worlds c.args.view.now.segment m (g.S.SegStore.reserved
    c.args.view.now.store.now)
    c.args.view.now.books.now (work_of c.args.view.now.side c.args.steps.now c.args.state.now
    c.args.view.now.progress.now) c.step_pure.new.s c.args.view.now.fits c.known.ensures.store c.requires.lives
    (c.step_pure.ensures.done c.if-step_pure.true) in
    let x1 = work_of c.args.view.now.side c.args.steps.now c.step_pure.new.s c.args.view.now.progress.now in
    let others = done_others p (g.C.Client.sound c.args.client.now) c.args.length c.args.view.now.segment m m
    c.args.view.now.books.now c.args.view.now.books.now (work_of c.args.view.now.side c.args.steps.now c.args.state.now
    c.args.view.now.progress.now) x1 s.sane s.sane.worlds.own Done sane_done in
    subst (λ i. Paused p c.args.length c.args.view.now.segment t e w c0 (n + 1) Whole m
    (g.S.SegStore.reserved c.args.view.now.store.now) c.args.view.now.books.now (work_of c.args.view.now.side i
    c.step_pure.new.s c.args.view.now.progress.now)
    (device_state g.I.Source.state g.O.Sink.state g.E.Sink.state c.args.view.now.devices.now)) (one_more
    c.args.steps.now)
    (paused_whole p c.args.length c.args.view.now.segment n t e w
    (device_state g.I.Source.state g.O.Sink.state g.E.Sink.state c.args.view.now.devices.now) m m
    (g.S.SegStore.reserved c.args.view.now.store.now) c.args.view.now.books.now c.args.view.now.books.now (work_of
    c.args.view.now.side c.args.steps.now c.args.state.now c.args.view.now.progress.now) x1 c0 refl
    c.known.ensures.store c.args.view.now.fits c.requires.lives refl h w.own Done done_not_waits done
    (let q = c.requires.short in omega (arith, q)) others shown
    (pure_lives p c.args.state.now c.step_pure.new.s c.requires.lives
    (g.met.C.Client.outcomes c.args.client.now) (c.step_pure.ensures.done c.if-step_pure.true)))

pub returns-then-step_pure-clause-sane : goal.returns-then-step_pure-clause-sane
returns-then-step_pure-clause-sane g c =
    let s = c.requires.sane in
    let c0 = core_with s.sane.worlds c.args.view.now.segment (g.S.SegStore.meaning c.args.view.now.store.now)
    c.args.view.now.books.now
    (work_of c.args.view.now.side c.args.steps.now c.args.state.now c.args.view.now.progress.now) in
    sane_paused (g.C.Client.prog c.args.client.now) (g.C.Client.sound c.args.client.now)
    c.args.length c.args.view.now.segment 1 (g.S.SegStore.reserved c.args.view.now.store.now) Whole
    (device_state g.I.Source.state g.O.Sink.state g.E.Sink.state c.args.view.now.devices.now)
    (device_state g.I.Source.state g.O.Sink.state g.E.Sink.state c.args.view.now.devices.now)
    (g.S.SegStore.meaning c.args.view.now.store.now) (g.S.SegStore.meaning c.args.view.now.store.now)
    c.args.view.now.books.now c.args.view.now.books.now (work_of c.args.view.now.side c.args.steps.now c.args.state.now
    c.args.view.now.progress.now) (work_of c.args.view.now.side (c.args.steps.now + 1) c.step_pure.new.s
    c.args.view.now.progress.now) s
    (returns-then-step_pure-clause-paused g c s.out s.err s.sane.worlds 0 c0 s.shown
    (tried_none (g.C.Client.prog c.args.client.now) c.args.length c.args.view.now.segment true c0))

pub returns-then-step_pure-clause-peaks : goal.returns-then-step_pure-clause-peaks
returns-then-step_pure-clause-peaks g c = λ t e w shown.
    let m = g.S.SegStore.meaning c.args.view.now.store.now in
    within_same (g.C.Client.prog c.args.client.now) c.args.length (m.limit / 2) m.segments c.args.view.now.segment
    (core_with w c.args.view.now.segment m c.args.view.now.books.now (work_of c.args.view.now.side c.args.steps.now
    c.args.state.now c.args.view.now.progress.now)) _ _ refl
