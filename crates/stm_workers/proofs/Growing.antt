-- What a call of a core makes of its history, its conflicts and its store's peaks, by the law of events and those
-- of the bound on a full heap.
use Rattle.std.proofs.Common.{◌≡◌, ◌<◌, ◌/◌, ℕ, true, false, Bool, ◌&&◌, nat_lt, List, [], ◌∷◌, Option, Result, refl, sym, ◌∙◌, ap, subst}
use Rattle.std.proofs.lemmas.Bool.{lt-ltb, ltb-true}
use Rattle.py_data.specs.Heap.{Heap, no_records}
use Rattle.stm_io.specs.Outside.{SourceState, SinkState}
use Rattle.lock_run.specs.Prog.{Prog}
use Rattle.seg_store.specs.Meaning.{Meaning}
use Rattle.stm_core.specs.declared.answers.Advance.{Advance}
use Rattle.stm_core.specs.declared.answers.AdvanceError.{AdvanceError}
use Rattle.stm_core.specs.declared.begin.BeginError.{BeginError}
use Rattle.stm_core.specs.declared.commit.Commit.{Commit}
use Rattle.stm_core.specs.declared.events.Event.{Event}
use Rattle.stm_core.specs.declared.events.Event.TheVariants as event
use Rattle.stm_core.specs.declared.events.Reply.{Reply}
use Rattle.stm_core.specs.declared.solo.SoloError.{SoloError}
use Rattle.stm_core.specs.declared.standing.Slot.{Slot}
use Rattle.stm_core.specs.declared.transactions.Core.{Core}
use Rattle.py_data.specs.declared.stop.Conflict.{Conflict}
use Rattle.stm_core.specs.Advanced.{Advanced}
use Rattle.stm_core.specs.Begun.{Begun}
use Rattle.stm_core.specs.Committed.{Committed}
use Rattle.stm_segment.specs.CoreState.{CoreState}
use Rattle.stm_core.specs.CoreHeld.{core_client, core_limits, core_store, CoreStands, Leads, SameJob, Says}
use Rattle.stm_core.specs.Events.{Limits, begin_reply, advance_reply, solo_reply, commit_reply, is_busy, may_make, Made, MadeIf, EventsMade}
use Rattle.stm_core.specs.History.{AllLeave, IsGrown}
use Rattle.stm_segment.specs.InUse.{IfTold}
use Rattle.stm_core.specs.PeakRises.{RisesWithin}
use Rattle.stm_core.specs.Outside.{Outer, InCore}
use Rattle.stm_core.specs.Solo.{Soloed}
use Rattle.stm_core.specs.Standing.{slot_of}
use Rattle.heap_bound.specs.Laws.{IsStart, WithinLaw, AdvanceLaw, BeginLaw, SoloLaw, CommitLaw}
use Rattle.stm_workers.specs.Growth.{ListsGrow, HasExplained, Grows}
use Rattle.stm_workers.proofs.Explained.{StartOf, left, told, stands_good}

-- an event of a segment that has something in hand
busy : (k n : ℕ) (s t : Slot) → k < n → s ≡ t → is_busy s ≡ true → (nat_lt k n && is_busy t) ≡ true
busy k n s t less is h = λ i. lt-ltb k n less i && (ap (λ z. is_busy z) (sym is) ∙ h) i

-- the first of two that are both true
first_true : (a b : Bool) → (a && b) ≡ true → a ≡ true
first_true true b h = refl
first_true false b h = h

module _ {T : Type 0}
    (each : (p : Prog T) (l : Limits) (es : List Event) (rs : List Reply) (o o1 : Outer T) → EventsMade p l es rs o o1
    → AllLeave p l es rs o.core o1.core)
    (all : (p : Prog T) (l : Limits) (es : List Event) (rs : List Reply) (c c1 : CoreState T) → AllLeave p l es rs c c1
    → IsGrown rs c c1) where
  -- an event that was made
  made_grows : (p : Prog T) (l : Limits) (e : Event) (r : Reply) (o o1 : Outer T) → may_make l o.core e ≡ true →
      Made p l e r o o1 → ListsGrow o.core o1.core
  made_grows p l e r o o1 may made =
      let if : MadeIf p l e (may_make l o.core e) r o o1 = subst (λ (b : Bool). MadeIf p l e b r o o1) (sym may) made in
      let g = all p l (e ∷ []) (r ∷ []) o.core o1.core (each p l (e ∷ []) (r ∷ []) o o1 (o1, if, refl)) in
      record { turns = g.turns; history = g.history; new = g.new; conflicts = g.conflicts }

  module _ {C S I O E : Type 0} (input : I → SourceState) (out : O → SinkState) (err : E → SinkState)
      (prog : C → Prog T) (meaning : S → Meaning) (peaks : S → Option (ℕ → ℕ)) (x y : Core C S I O E T)
      (job : SameJob meaning x y) where
    -- a call that is an event whose condition holds
    call_grows : (e : Event) (r : Reply) (R : Outer T → Outer T → Type 0) →
        Says input out err prog meaning x (λ o. may_make (core_limits meaning x) o.core e ≡ true)
        → ((o o1 : Outer T) → R o o1 → Made (prog (core_client x)) (core_limits meaning x) e r o o1)
        → ((o o1 : Outer T) → CoreStands input out err prog meaning x o → R o o1 →
        HasExplained input out err prog meaning peaks x o → HasExplained input out err prog meaning peaks y o1)
        → Leads input out err prog meaning x y R → Grows input out err prog meaning peaks x y
    call_grows e r R may made keeps leads = record {
      leads = λ o stands.
          let u = leads o stands in (
            u.0,
            u.1,
            (
              made_grows (prog (core_client x)) (core_limits meaning x) e r o u.0 (may o stands) (made o u.0 u.2),
              keeps o u.0 stands u.2,
            ),
          );
    }

    -- the calls that leave the peaks
    module _ (same : peaks (core_store y) ≡ peaks (core_store x)) where
      pub begin_grows : BeginLaw T → (k t : ℕ) (result : Result (Unit {0}) BeginError) →
          k < (core_limits meaning x).segments → Leads input out err prog meaning x y
          (InCore (Begun (prog (core_client x)) k t (core_limits meaning x).budget result))
          → Grows input out err prog meaning peaks x y
      begin_grows law k t result less = call_grows (event.Begin k t) (begin_reply result)
          (InCore (Begun (prog (core_client x)) k t (core_limits meaning x).budget result))
          (λ o stands. lt-ltb k (core_limits meaning x).segments less) (λ o o1 h. (result, refl, h))
          (λ o o1 stands h. left input out err prog meaning peaks x y job o o1 same (λ f e.
          law (prog (core_client x)) (StartOf input out err prog meaning peaks x y job x) (core_limits meaning x).length
          (core_limits meaning x).segments f o.core
          (stands_good input out err prog meaning peaks x y job o stands) e k t (core_limits meaning x).budget result
          o1.core h.0))

      -- of what a segment has in hand, as its slot tells
      module _ (k : ℕ) (s : Slot) (less : k < (core_limits meaning x).segments)
          (is : Says input out err prog meaning x (λ o. s ≡ slot_of (o.core.segments k))) (has : is_busy s ≡ true) where
        pub solo_grows : SoloLaw T → (result : Result (Unit {0}) SoloError) →
            Leads input out err prog meaning x y (Soloed k result)
            → Grows input out err prog meaning peaks x y
        solo_grows law result = call_grows (event.Solo k) (solo_reply result) (Soloed k result)
            (λ o stands. busy k (core_limits meaning x).segments s (slot_of (o.core.segments k)) less (is o stands) has)
            (λ o o1 h. (result, refl, h))
            (λ o o1 stands h. left input out err prog meaning peaks x y job o o1 same (λ f e.
            law (prog (core_client x)) (StartOf input out err prog meaning peaks x y job x)
            (core_limits meaning x).length (core_limits meaning x).segments f o o1
            (stands_good input out err prog meaning peaks x y job o stands) e k result h))

        pub commit_grows : CommitLaw T → (result : Result Commit Conflict) →
            Leads input out err prog meaning x y
            (InCore (Committed (prog (core_client x)) k (core_limits meaning x).segments result)) →
            Grows input out err prog meaning peaks x y
        commit_grows law result = call_grows (event.Commit k) (commit_reply result)
            (InCore (Committed (prog (core_client x)) k (core_limits meaning x).segments result))
            (λ o stands. busy k (core_limits meaning x).segments s (slot_of (o.core.segments k)) less (is o stands) has)
            (λ o o1 h. (result, refl, h))
            (λ o o1 stands h. left input out err prog meaning peaks x y job o o1 same (λ f e.
            law (prog (core_client x)) (StartOf input out err prog meaning peaks x y job x)
            (core_limits meaning x).length (core_limits meaning x).segments f o.core
            (stands_good input out err prog meaning peaks x y job o stands) e k (core_limits meaning x).segments result
            o1.core h.0))

    -- steps, within which the peaks rise
    module _ (sound : C → Heap → List T → Type 0) (c : C) (is : c ≡ core_client x)
        (within : WithinLaw (prog c) (sound c)) (law : AdvanceLaw (prog c) (sound c))
        (first : sound (core_client x) no_records ((prog (core_client x)).first ∷ [])) where
      pub advance_grows : (k m reserved : ℕ) (result : Result Advance AdvanceError) →
          Says input out err prog meaning x (λ o. may_make (core_limits meaning x) o.core (event.Advance k m) ≡ true)
          → Says input out err prog meaning x (λ o. IfTold (peaks (core_store x)) (peaks (core_store y))
          (RisesWithin (prog (core_client x)) (core_limits meaning x).length ((core_limits meaning x).words / 2)
          (core_limits meaning x).segments k o.core))
          → Leads input out err prog meaning x y
          (λ o o1. Advanced (prog (core_client x)) (core_limits meaning x).length k (core_limits meaning x).segments
          m reserved (core_limits meaning x).words o result o1) → Grows input out err prog meaning peaks x y
      advance_grows k m reserved result may rises =
          let l = core_limits meaning x in
          let p = prog (core_client x) in
          let start = StartOf input out err prog meaning peaks x y job x in
          let begins : IsStart (sound (core_client x)) start = record { empty = λ a. refl; first = first } in
          let within1 = subst (λ z. WithinLaw (prog z) (sound z)) is within in
          let law1 = subst (λ z. AdvanceLaw (prog z) (sound z)) is law in
          call_grows (event.Advance k m) (advance_reply result)
          (λ o o1. Advanced p l.length k l.segments m reserved l.words o result o1) may
          (λ o o1 h. (result, reserved, refl, h))
          (λ o o1 stands h.
          let good = stands_good input out err prog meaning peaks x y job o stands in
          told input out err prog meaning peaks x y job o o1
          (RisesWithin p l.length (l.words / 2) l.segments k o.core) (rises o stands) (λ f g r e.
          law1 start begins l.length l.segments k l.segments m reserved l.words f g o o1 result good e
          (within1 start begins l.length l.segments (l.words / 2) k o.core good
          (ltb-true k l.segments (first_true (nat_lt k l.segments) _ (may o stands))) f g r) h))
