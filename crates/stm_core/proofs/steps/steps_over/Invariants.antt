use Rattle.std.proofs.Common.{◌≡◌, ◌≤◌, ◌+◌, ℕ, false, slice_get, Some, List, Option}
use Rattle.lock_run.specs.declared.client.Life.TheVariants.{Lives}
use Rattle.seg_store.specs.Store.{IsStore}
use Rattle.stm_segment.specs.declared.books.Hand.TheVariants.{Idle}
use Rattle.stm_core.specs.declared.steps.Pause.TheVariants.{Whole}
use Rattle.stm_segment.specs.Books.{Worlds, Fit}
use Rattle.stm_segment.specs.InUse.{IfTold}
use Rattle.stm_segment.specs.Devices.{device_state, Shown, CountsGrow, IsLeftAlone}
use Rattle.stm_core.specs.inner.Whole.{SameShape}
use Rattle.stm_core.specs.inner.Trying.{SaneShown, core_with, work_of}
use Rattle.stm_core.specs.inner.Pausing.{Paused}
use Rattle.stm_core.specs.inner.Rising.{RisesOut}
use Rattle.stm_core.proofs.steps.steps_over.Given as goal

abbrev pub invariant-turns : goal.invariant-turns
invariant-turns g l = record {
  fit : Fit l.initial.view.segment (g.S.SegStore.meaning l.view.store.now) l.view.books.now l.view.progress.now;
  store : IsStore (g.S.SegStore.reserved l.view.store.now) (g.S.SegStore.meaning l.view.store.now);
  idle : slice_get l.view.books.now.hands.items l.initial.view.segment ≡ Some Idle;
  segment : l.view.segment ≡ l.initial.view.segment;
  side : l.view.side ≡ l.initial.view.side;
  refs : (l.view.store.ghost_name ≡ l.initial.view.store.ghost_name) ×
      (l.view.books.ghost_name ≡ l.initial.view.books.ghost_name) ×
      (l.view.progress.ghost_name ≡ l.initial.view.progress.ghost_name) ×
      (l.view.devices.ghost_name ≡ l.initial.view.devices.ghost_name);
  shape : SameShape (g.S.SegStore.meaning l.initial.view.store.now) (g.S.SegStore.meaning l.view.store.now);
  reserved : g.S.SegStore.reserved l.initial.view.store.now ≤ g.S.SegStore.reserved l.view.store.now;
  broken : l.view.books.now.broken ≡ l.initial.view.books.now.broken;
  counts : CountsGrow (device_state g.I.Source.state g.O.Sink.state g.E.Sink.state l.initial.view.devices.now)
      (device_state g.I.Source.state g.O.Sink.state g.E.Sink.state l.view.devices.now);
  alone : l.initial.view.side.solo ≡ false → IsLeftAlone
      (device_state g.I.Source.state g.O.Sink.state g.E.Sink.state l.initial.view.devices.now)
      (device_state g.I.Source.state g.O.Sink.state g.E.Sink.state l.view.devices.now);
  sane : SaneShown (g.C.Client.prog l.client) (g.C.Client.sound l.client) l.length
      l.initial.view.segment (device_state g.I.Source.state g.O.Sink.state g.E.Sink.state l.view.devices.now)
      (g.S.SegStore.meaning l.view.store.now) l.view.books.now (work_of l.initial.view.side l.steps l.state
      l.view.progress.now);
  lives : (g.C.Client.prog l.client).life l.state ≡ Lives;
  steps : l.steps ≡ l.initial.steps + l.done;
  paused : (t e : Option (List ℕ)) (w : Worlds) →
      Shown l.initial.view.side.solo t e (device_state g.I.Source.state g.O.Sink.state g.E.Sink.state
      l.initial.view.devices.now) w.own
      → Paused (g.C.Client.prog l.client) l.length l.initial.view.segment t e w
      (core_with w l.initial.view.segment (g.S.SegStore.meaning l.initial.view.store.now) l.initial.view.books.now
      (work_of l.initial.view.side l.initial.steps l.initial.state l.initial.view.progress.now)) l.done
      Whole (g.S.SegStore.meaning l.view.store.now) (g.S.SegStore.reserved l.view.store.now) l.view.books.now (work_of
      l.initial.view.side l.steps l.state l.view.progress.now)
      (device_state g.I.Source.state g.O.Sink.state g.E.Sink.state l.view.devices.now);
  peaks : (t e : Option (List ℕ)) (w : Worlds) →
      Shown l.initial.view.side.solo t e (device_state g.I.Source.state g.O.Sink.state g.E.Sink.state
      l.initial.view.devices.now) w.own
      → IfTold (g.S.SegStore.peaks l.initial.view.store.now) (g.S.SegStore.peaks l.view.store.now)
      (RisesOut (g.C.Client.prog l.client) l.length l.initial.view.segment (g.S.SegStore.meaning
      l.initial.view.store.now)
      (core_with w l.initial.view.segment (g.S.SegStore.meaning l.initial.view.store.now) l.initial.view.books.now
      (work_of l.initial.view.side l.initial.steps l.initial.state l.initial.view.progress.now)));
}
