use Rattle.std.proofs.Common.{◌≡◌, ℕ, List, Option, Result, true, ◌∙◌, subst, refl}
use Rattle.std.proofs.lemmas.Result.{IfOk-weaker}
use Rattle.py_data.specs.declared.stop.Side.{Side}
use Rattle.py_data.specs.declared.stop.Stop.{Stop}
use Rattle.py_data.specs.Row.{Row}
use Rattle.lock_run.specs.declared.client.Outcome.{Outcome}
use Rattle.stm_segment.specs.declared.halt.Halt.{Halt}
use Rattle.stm_segment.specs.declared.segment.SegView.{SegView}
use Rattle.stm_segment.specs.Books.{Fit, Worlds, transaction}
use Rattle.stm_segment.specs.Conflict.{side}
use Rattle.stm_segment.specs.Devices.{DeviceState, device_state, Shown, ShowsWorld, StopRose}
use Rattle.stm_segment.specs.inner.Hold.{Hold, holding}
use Rattle.stm_core.specs.inner.Trying.{work_of}
use Rattle.stm_core.specs.inner.Whole.{StepCut, StepBroke}
use Rattle.stm_core.proofs.Halting.{on_err_told}
use Rattle.stm_core.proofs.Keeping.{StepKept, step_keeps}
use Rattle.stm_core.proofs.Richer.{ToldDone, SegDone, seg_done, ToldCut, SegCut, seg_cut}
use Rattle.stm_core.proofs.RowPeaks.{run_on, stop_on}
use Rattle.stm_core.proofs.StepOut.{if_err_on, by_result, side_is, step_lives, step_done, step_cut, step_broke, step_rises}
use Rattle.stm_core.proofs.steps.step_out.Given as given
use Rattle.stm_core.proofs.steps.step_out.Goals as goal

-- ---- the view

abbrev State : given.Over → Type 0
State g = g.row.C-State.Denot

abbrev View : given.Over → Type 0
View g = SegView (State g) g.row.S.Denot g.row.I.Denot g.row.O.Denot g.row.E.Denot g.S.SegStore g.S.Peek

abbrev hold : (g : given.Over) → View g → Hold (State g)
hold g v = holding (g.S.SegStore.meaning v.store.now) (g.S.SegStore.reserved v.store.now) v.books.now v.progress.now
    v.last

abbrev devices : (g : given.Over) → View g → DeviceState
devices g v = device_state g.I.Source.state g.O.Sink.state g.E.Sink.state v.devices.now

abbrev segment : (g : given.Over) → View g → ℕ
segment g v = v.segment

abbrev me : (g : given.Over) → View g → Side
me g v = v.side

abbrev same : (g : given.Over) → View g → View g → Type 0
same g v w = (w.store.ghost_name ≡ v.store.ghost_name) × (w.books.ghost_name ≡ v.books.ghost_name) ×
    (w.progress.ghost_name ≡ v.progress.ghost_name) × (w.devices.ghost_name ≡ v.devices.ghost_name)

abbrev peaks : (g : given.Over) → View g → Option (ℕ → ℕ)
peaks g v = g.S.SegStore.peaks v.store.now

same_refl : (g : given.Over) (v : View g) → same g v v
same_refl g v = (refl, refl, refl, refl)

same_then : (g : given.Over) (u v w : View g) → same g u v → same g v w → same g u w
same_then g u v w a b = (b.0 ∙ a.0, b.1 ∙ a.1, b.2 ∙ a.2, b.3 ∙ a.3)

-- ---- what the step says but for the peaks

done_seg : (g : given.Over) (row : Row (State g) (Outcome × State g)) (r : Result Outcome Stop) (v : View g)
    (s : State g) (u : View g) →
    ToldDone (hold g) (devices g) (segment g) (me g) (same g) (peaks g) row r v s u →
    SegDone (hold g) (devices g) (segment g) (me g) (same g) (peaks g) row r v s u
done_seg g row = seg_done (hold g) (devices g) (segment g) (me g) (same g) (peaks g) row

cut_seg : (g : given.Over) (row : Row (State g) (Outcome × State g)) (r : Result Outcome Stop) (v u : View g) →
    ToldCut (hold g) (devices g) (segment g) (me g) (same g) (peaks g) row r v u →
    SegCut (hold g) (devices g) (segment g) (me g) (same g) (peaks g) row r v u
cut_seg g row = seg_cut (hold g) (devices g) (segment g) (me g) (same g) (peaks g) row

-- ---- what the step keeps

kept : (g : given.Over) (c : goal.After-view-1 g) → StepKept (hold g) (devices g) (segment g) (me g) (same g)
    (same_refl g) (same_then g) c.args.view.now.segment c.args.view.now.side c.args.view.now (hold g c.args.view.now)
    (devices g c.args.view.now)
    c.step-answer.new.v c.step-answer.result
kept g c =
    step_keeps (hold g) (devices g) (segment g) (me g) (same g) (same_refl g) (same_then g) c.args.view.now.segment
    c.args.view.now.side
    _ c.args.view.now (hold g c.args.view.now) (devices g c.args.view.now) c.step-answer.result c.step-answer.new.s
    c.step-answer.new.v
    refl refl
    refl refl
    (done_seg g _ c.step-answer.result c.args.view.now c.step-answer.new.s c.step-answer.new.v
    c.step-answer.ensures.ok)
    (cut_seg g _ c.step-answer.result c.args.view.now c.step-answer.new.v c.step-answer.ensures.err)

fits : (g : given.Over) (c : goal.After-view-1 g) →
    Fit c.args.view.now.segment (hold g c.step-answer.new.v).meaning (hold g c.step-answer.new.v).books
    (hold g c.step-answer.new.v).progress
fits g c = subst (λ k. Fit k (hold g c.step-answer.new.v).meaning (hold g c.step-answer.new.v).books
    (hold g c.step-answer.new.v).progress) (kept g c).segment_is c.step-answer.new.v.fits

pub returns-clause-fit : goal.returns-clause-fit
returns-clause-fit g c = fits g c

pub returns-clause-stays : goal.returns-clause-stays
returns-clause-stays g c = ((kept g c).segment_is, (kept g c).me_is)

pub returns-clause-refs : goal.returns-clause-refs
returns-clause-refs g c = (kept g c).same_is

pub returns-clause-reserved : goal.returns-clause-reserved
returns-clause-reserved g c = (kept g c).holds.reserved

pub returns-clause-image : goal.returns-clause-image
returns-clause-image g c = (kept g c).holds.image

pub returns-clause-shape : goal.returns-clause-shape
returns-clause-shape g c = ((kept g c).holds.segments, (kept g c).holds.limit)

pub returns-clause-hand : goal.returns-clause-hand
returns-clause-hand g c = λ e. (kept g c).holds.hand ∙ e

pub returns-clause-broken : goal.returns-clause-broken
returns-clause-broken g c = (kept g c).holds.broken

pub returns-clause-counts : goal.returns-clause-counts
returns-clause-counts g c = (kept g c).leaves.counts

pub returns-clause-alone : goal.returns-clause-alone
returns-clause-alone g c = (kept g c).leaves.alone

pub returns-clause-flag : goal.returns-clause-flag
returns-clause-flag g c = (kept g c).flag

pub returns-clause-rose : goal.returns-clause-rose
returns-clause-rose g c =
    on_err_told (λ halt. StopRose halt (devices g c.args.view.now) (devices g c.step-answer.new.v)) c.step-answer.result
    c.tell.new.halt _ _ c.tell.ensures (kept g c).rose

-- ---- how it ends

pub returns-clause-life : goal.returns-clause-life
returns-clause-life g c =
    IfOk-weaker c.step-answer.result _ _
    (λ o h. step_lives (hold g) (devices g) (segment g) (me g) (same g) (same_refl g) (same_then g)
    (g.C.Client.prog c.args.client.now) c.args.view.now.segment c.args.view.now.side c.args.state.now
    c.step-answer.new.s c.args.view.now o c.step-answer.new.v refl
    refl c.requires.lives
    (g.met.C.Client.asks_to_print c.args.client.now c.args.state.now)
    (g.met.C.Client.outcomes c.args.client.now) h)
    (done_seg g _ c.step-answer.result c.args.view.now c.step-answer.new.s c.step-answer.new.v
    c.step-answer.ensures.ok)

pub returns-clause-done : goal.returns-clause-done
returns-clause-done g c =
    IfOk-weaker c.step-answer.result _ _
    (λ o h n t e w shown. step_done (hold g) (devices g) (segment g) (me g) (same g) (same_refl g) (same_then g) t e
    (g.C.Client.prog c.args.client.now) w c.args.view.now.segment (g.S.SegStore.meaning c.args.view.now.store.now)
    (g.S.SegStore.reserved c.args.view.now.store.now) c.args.view.now.books.now (work_of c.args.view.now.side n
    c.args.state.now c.args.view.now.progress.now) c.args.view.now.last
    (devices g c.args.view.now) c.args.view.now h.0 c.step-answer.new.v c.step-answer.new.s refl
    refl
    refl (side_is c.args.view.now.side c.args.view.now.segment c.requires.side) h.1
    c.args.view.now.fits (fits g c) c.known.ensures.store c.requires.lives
    (g.met.C.Client.asks_to_print c.args.client.now c.args.state.now) shown o
    (g.met.C.Client.waits_quietly c.args.client.now) h.2)
    (done_seg g _ c.step-answer.result c.args.view.now c.step-answer.new.s c.step-answer.new.v
    c.step-answer.ensures.ok)

-- the next step was cut so
abbrev is_cut : (g : given.Over) → goal.After-view-1 g → Halt → Type 0
is_cut g c halt = (n : ℕ) (t e : Option (List ℕ)) (w : Worlds) → Shown c.args.view.now.side.solo t e (devices g
    c.args.view.now) w.own →
    StepCut (g.C.Client.prog c.args.client.now) w c.args.view.now.segment
    (side c.args.view.now.segment (transaction w.own ((g.S.SegStore.meaning c.args.view.now.store.now).part
    c.args.view.now.segment) (work_of c.args.view.now.side n c.args.state.now c.args.view.now.progress.now)))
    halt (g.S.SegStore.meaning c.args.view.now.store.now) c.args.view.now.books.now (work_of c.args.view.now.side n
    c.args.state.now c.args.view.now.progress.now)
    (hold g c.step-answer.new.v).meaning (hold g c.step-answer.new.v).reserved (hold g c.step-answer.new.v).books
    (work_of c.args.view.now.side n c.step-answer.new.s c.step-answer.new.v.progress.now)

-- and of a solo one the devices were told so much
abbrev broke : (g : given.Over) → goal.After-view-1 g → Halt → Type 0
broke g c halt = c.args.view.now.side.solo ≡ true → (n : ℕ) (t e : Option (List ℕ)) (w : Worlds) →
    ShowsWorld t e (devices g c.args.view.now) w.own →
    StepBroke (g.C.Client.prog c.args.client.now) t e (g.S.SegStore.meaning c.args.view.now.store.now).image
    w.committed
    (transaction w.own ((g.S.SegStore.meaning c.args.view.now.store.now).part c.args.view.now.segment) (work_of
    c.args.view.now.side n c.args.state.now c.args.view.now.progress.now)) halt
    (devices g c.step-answer.new.v)

pub returns-clause-cut : goal.returns-clause-cut
returns-clause-cut g c =
    on_err_told (is_cut g c) c.step-answer.result c.tell.new.halt _ _ c.tell.ensures
    (if_err_on c.step-answer.result (λ stop h state n t e w shown.
    step_cut (hold g) (devices g) (segment g) (me g) (same g) (same_refl g) (same_then g) t e
    (g.C.Client.prog c.args.client.now) w c.args.view.now.segment (g.S.SegStore.meaning c.args.view.now.store.now)
    (g.S.SegStore.reserved c.args.view.now.store.now) c.args.view.now.books.now (work_of c.args.view.now.side n
    c.args.state.now c.args.view.now.progress.now) c.args.view.now.last
    (devices g c.args.view.now) c.args.view.now h.0 c.step-answer.new.v c.step-answer.new.s refl
    refl
    refl (side_is c.args.view.now.side c.args.view.now.segment c.requires.side) h.2
    c.args.view.now.fits (fits g c) c.known.ensures.store c.requires.lives
    (g.met.C.Client.asks_to_print c.args.client.now c.args.state.now) shown stop state h.1 h.3 h.4)
    (cut_seg g _ c.step-answer.result c.args.view.now c.step-answer.new.v c.step-answer.ensures.err)
    c.step-answer.ensures.state)

pub returns-clause-broke : goal.returns-clause-broke
returns-clause-broke g c =
    on_err_told (broke g c) c.step-answer.result c.tell.new.halt _ _ c.tell.ensures
    (if_err_on c.step-answer.result (λ stop h state solo n t e w shows.
    step_broke (hold g) (devices g) (segment g) (me g) (same g) (same_refl g) (same_then g) t e
    (g.C.Client.prog c.args.client.now) w c.args.view.now.segment (g.S.SegStore.meaning c.args.view.now.store.now)
    (g.S.SegStore.reserved c.args.view.now.store.now) c.args.view.now.books.now (work_of c.args.view.now.side n
    c.args.state.now c.args.view.now.progress.now) c.args.view.now.last
    (devices g c.args.view.now) c.args.view.now h.0 c.step-answer.new.v c.step-answer.new.s refl
    refl
    refl (side_is c.args.view.now.side c.args.view.now.segment c.requires.side) h.2
    c.args.view.now.fits (fits g c) c.known.ensures.store c.requires.lives
    (g.met.C.Client.asks_to_print c.args.client.now c.args.state.now) (λ y. shows) stop state h.1 h.3
    h.4 solo)
    (cut_seg g _ c.step-answer.result c.args.view.now c.step-answer.new.v c.step-answer.ensures.err)
    c.step-answer.ensures.state)

-- ---- how far the peaks rise

pub returns-clause-peaks : goal.returns-clause-peaks
returns-clause-peaks g c = λ n t e w shown.
    let row = (g.C.Client.prog c.args.client.now).row c.args.state.now in
    by_result c.step-answer.result c.step-answer.ensures.ok c.step-answer.ensures.err
    (λ o h. step_rises (hold g) (devices g) (segment g) (me g) (same g) (same_refl g) (same_then g) t e
    (g.C.Client.prog c.args.client.now) w c.args.view.now.segment (g.S.SegStore.meaning c.args.view.now.store.now)
    (g.S.SegStore.reserved c.args.view.now.store.now) c.args.view.now.books.now (work_of c.args.view.now.side n
    c.args.state.now c.args.view.now.progress.now) c.args.view.now.last
    (devices g c.args.view.now) c.args.view.now h.0 c.step-answer.new.v c.step-answer.new.s refl
    refl
    refl (side_is c.args.view.now.side c.args.view.now.segment c.requires.side) h.1.0
    c.args.view.now.fits (fits g c) c.known.ensures.store c.requires.lives
    (g.met.C.Client.asks_to_print c.args.client.now c.args.state.now) shown (peaks g)
    (g.S.SegStore.peaks c.args.view.now.store.now) c.step-answer.new.v h.1.1
    (run_on (hold g) (devices g) (segment g) (me g) (same g) (peaks g) w row h.0 (o, c.step-answer.new.s)
    c.step-answer.new.v h.2) refl)
    (λ stop h. step_rises (hold g) (devices g) (segment g) (me g) (same g) (same_refl g) (same_then g) t e
    (g.C.Client.prog c.args.client.now) w c.args.view.now.segment (g.S.SegStore.meaning c.args.view.now.store.now)
    (g.S.SegStore.reserved c.args.view.now.store.now) c.args.view.now.books.now (work_of c.args.view.now.side n
    c.args.state.now c.args.view.now.progress.now) c.args.view.now.last
    (devices g c.args.view.now) c.args.view.now h.0 c.step-answer.new.v c.step-answer.new.s refl
    refl
    refl (side_is c.args.view.now.side c.args.view.now.segment c.requires.side) h.2.0
    c.args.view.now.fits (fits g c) c.known.ensures.store c.requires.lives
    (g.met.C.Client.asks_to_print c.args.client.now c.args.state.now) shown (peaks g)
    (g.S.SegStore.peaks c.args.view.now.store.now) h.1 h.2.1
    (stop_on (hold g) (devices g) (segment g) (me g) (same g) (peaks g) w row h.0 stop h.1 h.3) h.4.1)
