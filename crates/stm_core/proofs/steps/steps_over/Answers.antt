use Rattle.std.proofs.Common.{◌≡◌, ◌+◌, ◌/◌, ℕ, List, Option, refl, sym, ◌∙◌, ap, subst, subst₂, slice_get, Some, arith, add-zero}
use Rattle.stm_core.specs.declared.steps.Pause.TheVariants.{Whole, Waits, Ended, Stopped}
use Rattle.stm_segment.specs.declared.books.Hand.TheVariants.{Idle}
use Rattle.stm_segment.specs.Books.{Worlds, with_own, Fit}
use Rattle.stm_segment.specs.Devices.{Shown, device_state}
use Rattle.stm_segment.specs.InUse.{IfTold}
use Rattle.stm_core.specs.inner.Trying.{SaneShown, core_with, work_of}
use Rattle.stm_core.specs.inner.Pausing.{Paused}
use Rattle.stm_core.specs.inner.Rising.{RisesOut}
use Rattle.stm_core.proofs.Advancing.{sane_paused}
use Rattle.stm_core.proofs.Counting.{counts_same, counts_then}
use Rattle.stm_core.proofs.Pausing.{paused_none, paused_then, alone_then}
use Rattle.stm_core.proofs.PeaksRising.{within_same, out_then}
use Rattle.stm_core.proofs.steps.steps_over.Given as given
use Rattle.stm_core.proofs.steps.steps_over.Goals as goal

pub turns-init : goal.turns-init
turns-init g c = record {
  fit = c.args.view.now.fits;
  store = c.requires.store;
  idle = c.requires.idle;
  segment = refl;
  side = refl;
  refs = (refl, refl, refl, refl);
  shape = (refl, refl);
  reserved = omega arith;
  broken = refl;
  counts = counts_same (device_state g.I.Source.state g.O.Sink.state g.E.Sink.state c.args.view.now.devices.now)
      (device_state g.I.Source.state g.O.Sink.state g.E.Sink.state c.args.view.now.devices.now) refl refl refl;
  alone = λ q. refl;
  sane = c.requires.sane;
  lives = c.requires.lives;
  steps = sym (add-zero c.args.steps.now);
  paused = λ t e w shown. paused_none (g.C.Client.prog c.args.client.now) c.args.length c.args.view.now.segment t e w
      (device_state g.I.Source.state g.O.Sink.state g.E.Sink.state c.args.view.now.devices.now) (g.S.SegStore.meaning
      c.args.view.now.store.now) (g.S.SegStore.reserved c.args.view.now.store.now) c.args.view.now.books.now (work_of
      c.args.view.now.side c.args.steps.now c.args.state.now c.args.view.now.progress.now)
      c.requires.lives shown;
  peaks = λ t e w shown.
      let m = (g.S.SegStore.meaning c.args.view.now.store.now) in
      within_same (g.C.Client.prog c.args.client.now) c.args.length (m.limit / 2) m.segments c.args.view.now.segment
      (core_with w c.args.view.now.segment m c.args.view.now.books.now (work_of c.args.view.now.side c.args.steps.now
      c.args.state.now c.args.view.now.progress.now)) _ _ refl;
}

-- ---- a step more, of the same segment and side

pub step_on-requires-clause-side : goal.step_on-requires-clause-side
step_on-requires-clause-side g c =
    let v = c.turns.invariant in
    ap (λ z. z.segment) v.side ∙ c.requires.side ∙ sym v.segment

pub step_on-requires-clause-idle : goal.step_on-requires-clause-idle
step_on-requires-clause-idle g c = subst (λ k. slice_get c.turns.view.books.now.hands.items k ≡ Some Idle)
    (sym c.turns.invariant.segment) c.turns.invariant.idle

pub step_on-requires-clause-sane : goal.step_on-requires-clause-sane
step_on-requires-clause-sane g c = subst₂ (λ k s. SaneShown (g.C.Client.prog c.args.client.now) (g.C.Client.sound
    c.args.client.now) c.args.length k
    (device_state g.I.Source.state g.O.Sink.state g.E.Sink.state c.turns.view.devices.now) (g.S.SegStore.meaning
    c.turns.view.store.now) c.turns.view.books.now (work_of s c.turns.steps c.turns.state c.turns.view.progress.now))
    (sym c.turns.invariant.segment) (sym c.turns.invariant.side) c.turns.invariant.sane

pub returns-in-Waits-clause-paused : goal.returns-in-Waits-clause-paused
returns-in-Waits-clause-paused g c = λ t e w c0 shown is.
    subst (λ z. Paused (g.C.Client.prog c.args.client.now) c.args.length c.args.view.now.segment t e w z c.turns.done
    Waits (g.S.SegStore.meaning c.step_on.new.view.store.now) (g.S.SegStore.reserved c.step_on.new.view.store.now)
    c.step_on.new.view.books.now (work_of c.args.view.now.side c.step_on.new.steps c.step_on.new.state
    c.step_on.new.view.progress.now) (device_state g.I.Source.state g.O.Sink.state g.E.Sink.state
    c.step_on.new.view.devices.now)) (sym is) (subst (λ z. Paused (g.C.Client.prog c.args.client.now) c.args.length
    c.args.view.now.segment t e w (core_with w c.args.view.now.segment (g.S.SegStore.meaning c.args.view.now.store.now)
    c.args.view.now.books.now (work_of c.args.view.now.side c.args.steps.now c.args.state.now
    c.args.view.now.progress.now)) z Waits (g.S.SegStore.meaning c.step_on.new.view.store.now) (g.S.SegStore.reserved
    c.step_on.new.view.store.now) c.step_on.new.view.books.now (work_of c.args.view.now.side c.step_on.new.steps
    c.step_on.new.state c.step_on.new.view.progress.now) (device_state g.I.Source.state g.O.Sink.state g.E.Sink.state
    c.step_on.new.view.devices.now)) (add-zero c.turns.done) (paused_then (g.C.Client.prog c.args.client.now)
    c.args.length c.args.view.now.segment c.turns.view.segment c.turns.done 0 t e w (device_state g.I.Source.state
    g.O.Sink.state g.E.Sink.state c.turns.view.devices.now) (device_state g.I.Source.state g.O.Sink.state g.E.Sink.state
    c.step_on.new.view.devices.now) Waits (g.S.SegStore.meaning c.turns.view.store.now) (g.S.SegStore.meaning
    c.step_on.new.view.store.now)
    (g.S.SegStore.reserved c.turns.view.store.now) (g.S.SegStore.reserved c.step_on.new.view.store.now)
    c.turns.view.books.now c.step_on.new.view.books.now c.args.view.now.side c.turns.view.side c.turns.steps
    c.step_on.new.steps c.turns.state
    c.step_on.new.state c.turns.view.progress.now c.step_on.new.view.progress.now (core_with w c.args.view.now.segment
    (g.S.SegStore.meaning c.args.view.now.store.now) c.args.view.now.books.now (work_of c.args.view.now.side
    c.args.steps.now c.args.state.now c.args.view.now.progress.now)) c.turns.invariant.segment c.turns.invariant.side
    (c.turns.invariant.paused t e w shown)
    (λ s h. c.in-Waits.ensures.paused t e (with_own (c.turns.invariant.paused t e w shown).own w) c.turns.done
    (core_with w c.args.view.now.segment (g.S.SegStore.meaning c.args.view.now.store.now) c.args.view.now.books.now
    (work_of c.args.view.now.side c.args.steps.now c.args.state.now c.args.view.now.progress.now)) s h)))

pub returns-in-Ended-clause-paused : goal.returns-in-Ended-clause-paused
returns-in-Ended-clause-paused g c = λ t e w c0 shown is.
    subst (λ z. Paused (g.C.Client.prog c.args.client.now) c.args.length c.args.view.now.segment t e w z (c.turns.done +
    1) Ended (g.S.SegStore.meaning c.step_on.new.view.store.now) (g.S.SegStore.reserved c.step_on.new.view.store.now)
    c.step_on.new.view.books.now (work_of c.args.view.now.side c.step_on.new.steps c.step_on.new.state
    c.step_on.new.view.progress.now) (device_state g.I.Source.state g.O.Sink.state g.E.Sink.state
    c.step_on.new.view.devices.now)) (sym is) (paused_then (g.C.Client.prog c.args.client.now) c.args.length
    c.args.view.now.segment c.turns.view.segment c.turns.done 1 t e w (device_state g.I.Source.state g.O.Sink.state
    g.E.Sink.state c.turns.view.devices.now) (device_state g.I.Source.state g.O.Sink.state g.E.Sink.state
    c.step_on.new.view.devices.now) Ended (g.S.SegStore.meaning c.turns.view.store.now) (g.S.SegStore.meaning
    c.step_on.new.view.store.now)
    (g.S.SegStore.reserved c.turns.view.store.now) (g.S.SegStore.reserved c.step_on.new.view.store.now)
    c.turns.view.books.now c.step_on.new.view.books.now c.args.view.now.side c.turns.view.side c.turns.steps
    c.step_on.new.steps c.turns.state
    c.step_on.new.state c.turns.view.progress.now c.step_on.new.view.progress.now (core_with w c.args.view.now.segment
    (g.S.SegStore.meaning c.args.view.now.store.now) c.args.view.now.books.now (work_of c.args.view.now.side
    c.args.steps.now c.args.state.now c.args.view.now.progress.now)) c.turns.invariant.segment c.turns.invariant.side
    (c.turns.invariant.paused t e w shown)
    (λ s h. c.in-Ended.ensures.paused t e (with_own (c.turns.invariant.paused t e w shown).own w) c.turns.done
    (core_with w c.args.view.now.segment (g.S.SegStore.meaning c.args.view.now.store.now) c.args.view.now.books.now
    (work_of c.args.view.now.side c.args.steps.now c.args.state.now c.args.view.now.progress.now)) s h))

pub returns-in-Cut-clause-paused : goal.returns-in-Cut-clause-paused
returns-in-Cut-clause-paused g c = λ t e w c0 shown is.
    subst (λ z. Paused (g.C.Client.prog c.args.client.now) c.args.length c.args.view.now.segment t e w z c.turns.done
    (Stopped c.step_on.new.halt) (g.S.SegStore.meaning c.step_on.new.view.store.now) (g.S.SegStore.reserved
    c.step_on.new.view.store.now) c.step_on.new.view.books.now (work_of c.args.view.now.side c.step_on.new.steps
    c.step_on.new.state c.step_on.new.view.progress.now) (device_state g.I.Source.state g.O.Sink.state g.E.Sink.state
    c.step_on.new.view.devices.now)) (sym is) (subst (λ z. Paused (g.C.Client.prog c.args.client.now) c.args.length
    c.args.view.now.segment t e w (core_with w c.args.view.now.segment (g.S.SegStore.meaning c.args.view.now.store.now)
    c.args.view.now.books.now (work_of c.args.view.now.side c.args.steps.now c.args.state.now
    c.args.view.now.progress.now)) z (Stopped c.step_on.new.halt) (g.S.SegStore.meaning c.step_on.new.view.store.now)
    (g.S.SegStore.reserved c.step_on.new.view.store.now) c.step_on.new.view.books.now (work_of c.args.view.now.side
    c.step_on.new.steps c.step_on.new.state c.step_on.new.view.progress.now) (device_state g.I.Source.state
    g.O.Sink.state g.E.Sink.state c.step_on.new.view.devices.now)) (add-zero c.turns.done) (paused_then (g.C.Client.prog
    c.args.client.now) c.args.length c.args.view.now.segment c.turns.view.segment c.turns.done 0 t e w (device_state
    g.I.Source.state g.O.Sink.state g.E.Sink.state c.turns.view.devices.now) (device_state g.I.Source.state
    g.O.Sink.state g.E.Sink.state c.step_on.new.view.devices.now) (Stopped c.step_on.new.halt) (g.S.SegStore.meaning
    c.turns.view.store.now) (g.S.SegStore.meaning c.step_on.new.view.store.now)
    (g.S.SegStore.reserved c.turns.view.store.now) (g.S.SegStore.reserved c.step_on.new.view.store.now)
    c.turns.view.books.now c.step_on.new.view.books.now c.args.view.now.side c.turns.view.side c.turns.steps
    c.step_on.new.steps c.turns.state
    c.step_on.new.state c.turns.view.progress.now c.step_on.new.view.progress.now (core_with w c.args.view.now.segment
    (g.S.SegStore.meaning c.args.view.now.store.now) c.args.view.now.books.now (work_of c.args.view.now.side
    c.args.steps.now c.args.state.now c.args.view.now.progress.now)) c.turns.invariant.segment c.turns.invariant.side
    (c.turns.invariant.paused t e w shown)
    (λ s h. c.in-Cut.ensures.paused t e (with_own (c.turns.invariant.paused t e w shown).own w) c.turns.done (core_with
    w c.args.view.now.segment (g.S.SegStore.meaning c.args.view.now.store.now) c.args.view.now.books.now (work_of
    c.args.view.now.side c.args.steps.now c.args.state.now c.args.view.now.progress.now)) s h)))

-- one step more was done
whole : (g : given.Over) (c : goal.In-Whole g) (t e : Option (List ℕ)) (w : Worlds) → Shown c.args.view.now.side.solo t
    e (device_state g.I.Source.state g.O.Sink.state g.E.Sink.state c.args.view.now.devices.now) w.own
    → Paused (g.C.Client.prog c.args.client.now) c.args.length c.args.view.now.segment t e w (core_with w
    c.args.view.now.segment (g.S.SegStore.meaning c.args.view.now.store.now) c.args.view.now.books.now (work_of
    c.args.view.now.side c.args.steps.now c.args.state.now c.args.view.now.progress.now)) (c.turns.done + 1) Whole
    (g.S.SegStore.meaning c.step_on.new.view.store.now) (g.S.SegStore.reserved c.step_on.new.view.store.now)
    c.step_on.new.view.books.now (work_of c.args.view.now.side c.step_on.new.steps c.step_on.new.state
    c.step_on.new.view.progress.now) (device_state g.I.Source.state g.O.Sink.state g.E.Sink.state
    c.step_on.new.view.devices.now)
whole g c t e w shown = (paused_then (g.C.Client.prog c.args.client.now) c.args.length c.args.view.now.segment
    c.turns.view.segment c.turns.done 1 t e w (device_state g.I.Source.state g.O.Sink.state g.E.Sink.state
    c.turns.view.devices.now) (device_state g.I.Source.state g.O.Sink.state g.E.Sink.state
    c.step_on.new.view.devices.now) Whole (g.S.SegStore.meaning c.turns.view.store.now) (g.S.SegStore.meaning
    c.step_on.new.view.store.now)
    (g.S.SegStore.reserved c.turns.view.store.now) (g.S.SegStore.reserved c.step_on.new.view.store.now)
    c.turns.view.books.now c.step_on.new.view.books.now c.args.view.now.side c.turns.view.side c.turns.steps
    c.step_on.new.steps c.turns.state
    c.step_on.new.state c.turns.view.progress.now c.step_on.new.view.progress.now (core_with w c.args.view.now.segment
    (g.S.SegStore.meaning c.args.view.now.store.now) c.args.view.now.books.now (work_of c.args.view.now.side
    c.args.steps.now c.args.state.now c.args.view.now.progress.now)) c.turns.invariant.segment c.turns.invariant.side
    (c.turns.invariant.paused t e w shown)
    (λ s h. c.in-Whole.ensures.paused t e (with_own (c.turns.invariant.paused t e w shown).own w) c.turns.done
    (core_with w c.args.view.now.segment (g.S.SegStore.meaning c.args.view.now.store.now) c.args.view.now.books.now
    (work_of c.args.view.now.side c.args.steps.now c.args.state.now c.args.view.now.progress.now)) s h))

-- the peaks then
risen : (g : given.Over) (c : goal.In-Whole g) (t e : Option (List ℕ)) (w : Worlds) → Shown c.args.view.now.side.solo t
    e (device_state g.I.Source.state g.O.Sink.state g.E.Sink.state c.args.view.now.devices.now) w.own
    → IfTold (g.S.SegStore.peaks c.args.view.now.store.now) (g.S.SegStore.peaks c.step_on.new.view.store.now)
    (RisesOut (g.C.Client.prog c.args.client.now) c.args.length c.args.view.now.segment (g.S.SegStore.meaning
    c.args.view.now.store.now) (core_with w c.args.view.now.segment (g.S.SegStore.meaning c.args.view.now.store.now)
    c.args.view.now.books.now (work_of c.args.view.now.side c.args.steps.now c.args.state.now
    c.args.view.now.progress.now)))
risen g c t e w shown =
    let v = c.turns.invariant in
    let u = v.paused t e w shown in
    out_then (g.C.Client.prog c.args.client.now) c.args.length c.args.view.now.segment c.turns.view.segment c.turns.done
    t e w (device_state g.I.Source.state g.O.Sink.state g.E.Sink.state c.turns.view.devices.now) (g.S.SegStore.meaning
    c.args.view.now.store.now) (g.S.SegStore.meaning c.turns.view.store.now) (g.S.SegStore.reserved
    c.turns.view.store.now) c.turns.view.books.now c.args.view.now.side c.turns.view.side
    c.turns.steps c.turns.state c.turns.view.progress.now (core_with w c.args.view.now.segment (g.S.SegStore.meaning
    c.args.view.now.store.now) c.args.view.now.books.now (work_of c.args.view.now.side c.args.steps.now c.args.state.now
    c.args.view.now.progress.now)) _ _ _ v.segment v.side v.shape u (v.peaks t e w shown)
    (λ s. c.step_on.ensures.peaks t e (with_own u.own w) s)

pub turns-preserved : goal.turns-preserved
turns-preserved g c =
    let v = c.turns.invariant in
    let e = c.step_on.ensures in
    let s = c.requires.sane in
    record {
      fit = subst (λ k. Fit k (g.S.SegStore.meaning c.step_on.new.view.store.now) c.step_on.new.view.books.now
          c.step_on.new.view.progress.now) v.segment e.fit;
      store = e.store;
      idle = subst (λ k. slice_get c.step_on.new.view.books.now.hands.items k ≡ Some Idle) v.segment e.idle;
      segment = e.stays.0 ∙ v.segment;
      side = e.stays.1 ∙ v.side;
      refs = (e.refs.0 ∙ v.refs.0, e.refs.1 ∙ v.refs.1, e.refs.2 ∙ v.refs.2, e.refs.3 ∙ v.refs.3);
      shape = (e.shape.0 ∙ v.shape.0, e.shape.1 ∙ v.shape.1);
      reserved = (let a = e.reserved in let b = v.reserved in omega (arith, a, b));
      broken = e.broken ∙ v.broken;
      counts = counts_then (device_state g.I.Source.state g.O.Sink.state g.E.Sink.state c.args.view.now.devices.now)
          (device_state g.I.Source.state g.O.Sink.state g.E.Sink.state c.turns.view.devices.now) (device_state
          g.I.Source.state g.O.Sink.state g.E.Sink.state c.step_on.new.view.devices.now) v.counts e.devices.counts;
      alone = λ q. alone_then (device_state g.I.Source.state g.O.Sink.state g.E.Sink.state c.args.view.now.devices.now)
          (device_state g.I.Source.state g.O.Sink.state g.E.Sink.state c.turns.view.devices.now) (device_state
          g.I.Source.state g.O.Sink.state g.E.Sink.state c.step_on.new.view.devices.now) (v.alone q)
          (e.devices.alone (ap (λ z. z.solo) v.side ∙ q));
      sane = sane_paused (g.C.Client.prog c.args.client.now) (g.C.Client.sound c.args.client.now) c.args.length
          c.args.view.now.segment (c.turns.done + 1) (g.S.SegStore.reserved c.step_on.new.view.store.now) Whole
          (device_state g.I.Source.state g.O.Sink.state g.E.Sink.state c.args.view.now.devices.now) (device_state
          g.I.Source.state g.O.Sink.state g.E.Sink.state c.step_on.new.view.devices.now) (g.S.SegStore.meaning
          c.args.view.now.store.now) (g.S.SegStore.meaning c.step_on.new.view.store.now) c.args.view.now.books.now
          c.step_on.new.view.books.now (work_of c.args.view.now.side c.args.steps.now c.args.state.now
          c.args.view.now.progress.now) (work_of c.args.view.now.side c.step_on.new.steps c.step_on.new.state
          c.step_on.new.view.progress.now) s
          (whole g c s.out s.err s.sane.worlds s.shown);
      lives = (whole g c s.out s.err s.sane.worlds s.shown).why;
      steps = (let a = c.in-Whole.ensures.steps in let b = v.steps in omega (arith, a, b));
      paused = λ t e w shown. whole g c t e w shown;
      peaks = λ t e w shown. risen g c t e w shown;
    }

pub returns-clause-paused : goal.returns-clause-paused
returns-clause-paused g c = λ t e w c0 shown is.
    let all : c.turns.done ≡ c.args.most = omega (arith, c.turns.auto.done-end, c.turns-test.false) in
    subst (λ z. Paused (g.C.Client.prog c.args.client.now) c.args.length c.args.view.now.segment t e w z c.args.most
    Whole (g.S.SegStore.meaning c.turns.view.store.now) (g.S.SegStore.reserved c.turns.view.store.now)
    c.turns.view.books.now (work_of c.args.view.now.side c.turns.steps c.turns.state c.turns.view.progress.now)
    (device_state g.I.Source.state g.O.Sink.state g.E.Sink.state c.turns.view.devices.now)) (sym is)
    (subst (λ n. Paused (g.C.Client.prog c.args.client.now) c.args.length c.args.view.now.segment t e w (core_with w
    c.args.view.now.segment (g.S.SegStore.meaning c.args.view.now.store.now) c.args.view.now.books.now (work_of
    c.args.view.now.side c.args.steps.now c.args.state.now c.args.view.now.progress.now)) n Whole (g.S.SegStore.meaning
    c.turns.view.store.now) (g.S.SegStore.reserved c.turns.view.store.now) c.turns.view.books.now (work_of
    c.args.view.now.side c.turns.steps c.turns.state c.turns.view.progress.now) (device_state g.I.Source.state
    g.O.Sink.state g.E.Sink.state c.turns.view.devices.now)) all (c.turns.invariant.paused t e w shown))

pub returns-in-Waits-clause-peaks : goal.returns-in-Waits-clause-peaks
returns-in-Waits-clause-peaks g c = λ t e w shown.
    let v = c.turns.invariant in
    let u = v.paused t e w shown in
    out_then (g.C.Client.prog c.args.client.now) c.args.length c.args.view.now.segment c.turns.view.segment c.turns.done
    t e w (device_state g.I.Source.state g.O.Sink.state g.E.Sink.state c.turns.view.devices.now) (g.S.SegStore.meaning
    c.args.view.now.store.now) (g.S.SegStore.meaning c.turns.view.store.now) (g.S.SegStore.reserved
    c.turns.view.store.now) c.turns.view.books.now c.args.view.now.side c.turns.view.side
    c.turns.steps c.turns.state c.turns.view.progress.now (core_with w c.args.view.now.segment (g.S.SegStore.meaning
    c.args.view.now.store.now) c.args.view.now.books.now (work_of c.args.view.now.side c.args.steps.now c.args.state.now
    c.args.view.now.progress.now)) _ _ _ v.segment v.side v.shape u (v.peaks t e w shown)
    (λ s. c.step_on.ensures.peaks t e (with_own u.own w) s)

pub returns-in-Ended-clause-peaks : goal.returns-in-Ended-clause-peaks
returns-in-Ended-clause-peaks g c = λ t e w shown.
    let v = c.turns.invariant in
    let u = v.paused t e w shown in
    out_then (g.C.Client.prog c.args.client.now) c.args.length c.args.view.now.segment c.turns.view.segment c.turns.done
    t e w (device_state g.I.Source.state g.O.Sink.state g.E.Sink.state c.turns.view.devices.now) (g.S.SegStore.meaning
    c.args.view.now.store.now) (g.S.SegStore.meaning c.turns.view.store.now) (g.S.SegStore.reserved
    c.turns.view.store.now) c.turns.view.books.now c.args.view.now.side c.turns.view.side
    c.turns.steps c.turns.state c.turns.view.progress.now (core_with w c.args.view.now.segment (g.S.SegStore.meaning
    c.args.view.now.store.now) c.args.view.now.books.now (work_of c.args.view.now.side c.args.steps.now c.args.state.now
    c.args.view.now.progress.now)) _ _ _ v.segment v.side v.shape u (v.peaks t e w shown)
    (λ s. c.step_on.ensures.peaks t e (with_own u.own w) s)

pub returns-in-Cut-clause-peaks : goal.returns-in-Cut-clause-peaks
returns-in-Cut-clause-peaks g c = λ t e w shown.
    let v = c.turns.invariant in
    let u = v.paused t e w shown in
    out_then (g.C.Client.prog c.args.client.now) c.args.length c.args.view.now.segment c.turns.view.segment c.turns.done
    t e w (device_state g.I.Source.state g.O.Sink.state g.E.Sink.state c.turns.view.devices.now) (g.S.SegStore.meaning
    c.args.view.now.store.now) (g.S.SegStore.meaning c.turns.view.store.now) (g.S.SegStore.reserved
    c.turns.view.store.now) c.turns.view.books.now c.args.view.now.side c.turns.view.side
    c.turns.steps c.turns.state c.turns.view.progress.now (core_with w c.args.view.now.segment (g.S.SegStore.meaning
    c.args.view.now.store.now) c.args.view.now.books.now (work_of c.args.view.now.side c.args.steps.now c.args.state.now
    c.args.view.now.progress.now)) _ _ _ v.segment v.side v.shape u (v.peaks t e w shown)
    (λ s. c.step_on.ensures.peaks t e (with_own u.own w) s)
