-- A full heap that a core hands out was nearly full, where the peaks of its store were explained.
use Rattle.std.proofs.Common.{◌≡◌, ℕ, Bool, List, Option, Some, None, IfSome, refl, sym, subst}
use Rattle.py_data.specs.declared.stop.Conflict.{Conflict}
use Rattle.py_data.specs.Heap.{Heap}
use Rattle.stm_io.specs.Outside.{SourceState}
use Rattle.lock_run.specs.declared.turn.Turn.{Turn}
use Rattle.lock_run.specs.Machine.{Machine, begin_with}
use Rattle.lock_run.specs.Prog.{Prog}
use Rattle.lock_run.specs.RunState.{first_world}
use Rattle.seg_store.specs.Meaning.{Meaning}
use Rattle.seg_store.specs.Telling.{IsTelling}
use Rattle.stm_segment.specs.declared.cause.Cause.TheVariants.{Full}
use Rattle.stm_core.specs.declared.standing.RunState.{RunState}
use Rattle.stm_core.specs.CoreHeld.{IsFullKept}
use Rattle.stm_segment.specs.CoreState.{CoreState, committed, core_new}
use Rattle.stm_segment.specs.Devices.{DeviceState}
use Rattle.stm_core.specs.Events.{Limits}
use Rattle.stm_core.specs.Finishing.{HandedOut, SettlesSolo, idle_core}
use Rattle.stm_core.specs.Good.{Good}
use Rattle.stm_core.specs.Outside.{Outer}
use Rattle.heap_bound.specs.Growth.{IsNearlyFull}
use Rattle.heap_bound.specs.Laws.{NewLaw, BoundLaw, EndLaw}
use Rattle.heap_bound.specs.Moments.{AreExplained, IsWanted, Once, WantedBy}

-- where a core keeps a full heap, that was nearly full, and its need was wanted once
abbrev pub NearlyFullAt : {S : Type 0} → Prog S → Limits → Option (List ℕ) → ℕ → CoreState S → Type 0
NearlyFullAt p l input ends c = (reserved need limit : ℕ) → c.cause ≡ Some (Full reserved need limit) →
    IsNearlyFull p (begin_with p (first_world input ends)) l.length l.segments limit c.history c.image ×
    Once p (begin_with p (first_world input ends)) c.history (committed c) (λ m. IsWanted p l.length m need)

module _ {S : Type 0} (p : Prog S) (l : Limits) (input : Option (List ℕ)) (ends : ℕ) where
  abbrev start : Machine S
  start = begin_with p (first_world input ends)

  -- by the peaks of the store, and what the store tells
  of_peaks : BoundLaw S → (v : Option (ℕ → ℕ)) (c : CoreState S) (reserved limit : ℕ) (m : Meaning) →
      Good p start l.length c → AreExplained p start l.length l.segments v c → IfSome v (IsTelling reserved m) →
      IsFullKept reserved limit c.cause → NearlyFullAt p l input ends c
  of_peaks law None c reserved limit m good e tells full r n x is = absurd e
  of_peaks law (Some f) c reserved limit m good e tells full r n x is =
      let kept : IsFullKept reserved limit (Some (Full r n x)) = subst (IsFullKept reserved limit) is full in (
        law p start (λ a. refl) l.length l.segments c f good e reserved r n x tells.words is kept.1 kept.2,
        subst (WantedBy p start l.length c.history (committed c)) is e.kept,
      )

  -- the end keeps them explained
  at_end : EndLaw S → (v : Option (ℕ → ℕ)) (o u : Outer S) → Good p start l.length o.core →
      AreExplained p start l.length l.segments v o.core → SettlesSolo p l.segments o u →
      AreExplained p start l.length l.segments v (idle_core u.core)
  at_end law None o u good e s = e
  at_end law (Some f) o u good e s = law p start l.length l.segments f o u good e l.segments s

-- what a core hands out
pub full_heap : {S : Type 0} → BoundLaw S → EndLaw S → (p : Prog S) (l : Limits) (first d : DeviceState)
    (s : RunState) (failed : Bool) (history : List Turn) (conflicts : List Conflict) (image : Heap) (o o1 : Outer S)
    → HandedOut p l.length l.budget l.segments first d s failed history conflicts image o o1
    → Good p (begin_with p (first_world first.input first.ends)) l.length o.core → (v w : Option (ℕ → ℕ)) → w ≡ v →
    AreExplained p (begin_with p (first_world first.input first.ends)) l.length l.segments v o.core
    → (reserved : ℕ) (m : Meaning) → IfSome w (IsTelling reserved m) → IsFullKept reserved m.limit o1.core.cause →
    NearlyFullAt p l first.input first.ends o1.core
full_heap {S} bound end p l first d s failed history conflicts image o o1 h good v w same e reserved m tells full =
    of_peaks p l first.input first.ends bound v o1.core reserved m.limit m h.kept.good
    (subst (λ (z : Outer S). AreExplained p (begin_with p (first_world first.input first.ends)) l.length
    l.segments v z.core)
    (sym h.idle) (at_end p l first.input first.ends end v o h.settled good e h.settles))
    (subst (λ z. IfSome z (IsTelling reserved m)) same tells) full

-- a core as it is made, over a store whose peaks are 0
new_explained : {S : Type 0} → NewLaw S → (p : Prog S) (input : Option (List ℕ)) (ends most segments : ℕ)
    (v : Option (ℕ → ℕ)) (f : ℕ → ℕ) → v ≡ Some f → ((c : ℕ) → f c ≡ 0) →
    AreExplained p (begin_with p (first_world input ends)) most segments v (core_new p (first_world input ends))
new_explained law p input ends most segments v f is none =
    subst (λ z. AreExplained p (begin_with p (first_world input ends)) most segments z
    (core_new p (first_world input ends)))
    (sym is) (law p (first_world input ends) most segments f none)

-- in the words of what the core tells of its client and its source
pub made_explained : {S C I : Type 0} → NewLaw S → (prog : C → Prog S) (input : I → SourceState) (c d : C) (i j : I) →
    d ≡ c → j ≡ i → (most segments : ℕ) (v : Option (ℕ → ℕ)) (f : ℕ → ℕ) → v ≡ Some f → ((cl : ℕ) → f cl ≡ 0) →
    AreExplained (prog d) (begin_with (prog d) (first_world (input j).told (input j).ends)) most segments v
    (core_new (prog c) (first_world (input i).told (input i).ends))
made_explained law prog input c d i j client source most segments v f is none =
    let core = core_new (prog c) (first_world (input i).told (input i).ends) in
    subst (λ z. AreExplained (prog z) (begin_with (prog z) (first_world (input j).told (input j).ends)) most
    segments v core)
    (sym client)
    (subst (λ z. AreExplained (prog c) (begin_with (prog c) (first_world (input z).told (input z).ends)) most
    segments v core)
    (sym source) (new_explained law (prog c) (input i).told (input i).ends most segments v f is none))
