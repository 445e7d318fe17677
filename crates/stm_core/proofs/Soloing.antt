-- How a transaction becomes solo, as store and books show it.
use Rattle.std.proofs.Common.{◌≡◌, ◌≢◌, ◌<◌, ℕ, zero, suc, true, eqb, List, [], ◌∷◌, Option, Some, None, Result, Ok, Err, OnOk, OnErr, IfErr, slice_get, slice_set, length, refl, sym, ◌∙◌, ap, subst, inl, inr, arith}
use Rattle.std.proofs.lemmas.Bool.{cases_Bool, eqb-true, eqb-false, cond-true, cond-false}
use Rattle.std.proofs.lemmas.Option.{slice_get_within}
use Rattle.py_data.specs.World.{World}
use Rattle.py_data.specs.declared.stop.Conflict.{Conflict}
use Rattle.lock_run.specs.Prog.{Prog}
use Rattle.seg_store.specs.Meaning.{Meaning}
use Rattle.stm_segment.specs.declared.books.Work.{Work}
use Rattle.stm_segment.specs.declared.books.Hand.{Hand}
use Rattle.stm_segment.specs.declared.books.Hand.TheVariants.{Idle as IdleHand, Doomed as DoomedHand, Runs}
use Rattle.stm_segment.specs.declared.books.Books.{Books}
use Rattle.stm_segment.specs.declared.cause.Cause.{Cause}
use Rattle.stm_core.specs.declared.solo.SoloError.{SoloError}
use Rattle.stm_core.specs.declared.solo.SoloError.TheVariants.{Over, Lost, Taken}
use Rattle.stm_segment.specs.CoreState.{Transaction, Segment, Idle, Doomed, Running, CoreState, soloed, world_after, set_segment, with_segment}
use Rattle.stm_core.specs.Outside.{Outer, NoOtherSolo}
use Rattle.stm_core.specs.Solo.{IsOtherSolo, SoloedFrom, Soloed}
use Rattle.stm_segment.specs.Devices.{DeviceState}
use Rattle.stm_segment.specs.Books.{Worlds, with_own, transaction, segment_of, core_of, NoneSolo, IsSoloAt}
use Rattle.stm_core.specs.SaneCore.{StandsFor, LeadsBetween}
use Rattle.stm_core.proofs.Committing.{running_work, mortal_segment}
use Rattle.stm_core.proofs.Wholes.{Set, set_here, set_there, core_set}
use Rattle.stm_core.proofs.SoloMoves.{soloed_moves, doomed_moves}
use Rattle.stm_core.proofs.StandsAgain.{stands_told}

-- where no hand runs a solo transaction, the world of one doesn't matter
pub core_mortal : {S : Type 0} (w : Worlds) (own : World) (m : Meaning) (b : Books S) → NoneSolo b.hands.items →
    core_of (with_own own w) m b ≡ core_of w m b
core_mortal w own m b f i = record (core_of w m b)
    { segments = λ j. mortal_segment own w.own (m.part j) (slice_get b.hands.items j) (λ x e. f j x e) i }

module _ {S : Type 0} (p : Prog S) (most k : ℕ) (first d : DeviceState) (m : Meaning) (b b1 : Books S) (o : Outer S)
    (s : StandsFor p most first d m b o) where
  -- the segment that runs it
  runs_now : (x : Work S) → slice_get b.hands.items k ≡ Some (Runs x) →
      o.core.segments k ≡ Running (transaction s.worlds.own (m.part k) x)
  runs_now x e = ap (λ (c : CoreState S). c.segments k) s.core ∙ ap (segment_of s.worlds.own (m.part k)) e

  -- another segment's hand, as the core shows it
  other_now : (j : ℕ) (y : Transaction S) → o.core.segments j ≡ Running y →
      (z : Work S) × (slice_get b.hands.items j ≡ Some (Runs z)) × (y ≡ transaction s.worlds.own (m.part j) z)
  other_now j y e = running_work s.worlds (m.part j) (slice_get b.hands.items j) y
      (sym (ap (λ (c : CoreState S). c.segments j) s.core) ∙ e)

  -- no other one is solo
  pub none_other : (x : Work S) (bt : Books S) → Set k IdleHand b bt → NoneSolo bt.hands.items → NoOtherSolo k o.core
  none_other x bt t none j y n e =
      let z = other_now j y e in
      ap (λ (r : Transaction S). r.solo) z.2 ∙ none j z.0 (set_there k m b bt IdleHand t j n ∙ z.1)

  -- another one is
  pub is_other : (bt : Books S) (by : ℕ) → Set k IdleHand b bt → k ≢ by → (z : Work S) →
      slice_get bt.hands.items by ≡ Some (Runs z) → z.solo ≡ true → IsOtherSolo k by o.core
  is_other bt by t n z e solo =
      let there = sym (set_there k m b bt IdleHand t by (λ q. n (sym q))) ∙ e in (
        (λ q. n (sym q)),
        transaction s.worlds.own (m.part by) z,
        ap (λ (c : CoreState S). c.segments by) s.core ∙
            ap (segment_of s.worlds.own (m.part by)) there,
        solo,
      )

  module _ (x : Work S) (e : slice_get b.hands.items k ≡ Some (Runs x)) where
    -- it becomes solo
    ok_core : Set k (Runs (record x { solo = true })) b b1 → NoOtherSolo k o.core →
        core_of (with_own (world_after s.worlds.committed (transaction s.worlds.own (m.part k) x)) s.worlds) m b1
        ≡ with_segment k (Running (soloed s.worlds.committed (transaction s.worlds.own (m.part k) x)))
        (core_of s.worlds m b)
    ok_core t alone i = record {
      image = m.image;
      threads = ap (λ (z : Books S). z.threads.entries) t.rest i;
      world = s.worlds.committed;
      history = ap (λ (z : Books S). z.history.entries) t.rest i;
      conflicts = ap (λ (z : Books S). z.conflicts.entries) t.rest i;
      begun = ap (λ (z : Books S). z.begun) t.rest i;
      last = ap (λ (z : Books S). z.last) t.rest i;
      cause = ap (λ (z : Books S). z.cause) t.rest i;
      segments = λ j. same j i;
    }
      where
        tx : Transaction S
        tx = transaction s.worlds.own (m.part k) x

        own : World
        own = world_after s.worlds.committed tx

        same : (j : ℕ) → segment_of own (m.part j) (slice_get b1.hands.items j) ≡ set_segment k
            (Running (soloed s.worlds.committed tx))
            (λ z. segment_of s.worlds.own (m.part z) (slice_get b.hands.items z)) j
        same j = elim (cases_Bool (eqb j k)) [
          | inl y ↦ let q : j ≡ k = eqb-true j k y in
              ap (λ z. segment_of own (m.part z) (slice_get b1.hands.items z)) q ∙
              ap (segment_of own (m.part k))
              (set_here k m b b1 (Runs (record x { solo = true })) t (slice_get_within b.hands.items k (Runs x) e))
              ∙ sym (cond-true (eqb j k) (Running (soloed s.worlds.committed tx))
              (segment_of s.worlds.own (m.part j) (slice_get b.hands.items j)) y)
          | inr n ↦ let q = eqb-false j k n in
              ap (segment_of own (m.part j)) (set_there k m b b1 (Runs (record x { solo = true })) t j q)
              ∙ mortal_segment own s.worlds.own (m.part j) (slice_get b.hands.items j)
              (λ z f. alone j (transaction s.worlds.own (m.part j) z) q
              (ap (λ (c : CoreState S). c.segments j) s.core ∙ ap (segment_of s.worlds.own (m.part j)) f))
              ∙ sym (cond-false (eqb j k) (Running (soloed s.worlds.committed tx))
              (segment_of s.worlds.own (m.part j) (slice_get b.hands.items j)) n)
        ]

    -- the state to which `solo` leads
    pub ok_stands : Set k (Runs (record x { solo = true })) b b1 → NoOtherSolo k o.core → b.cause ≡ None →
        (o1 : Outer S) × StandsFor p most first d m b1 o1 × Soloed k (Ok tt) o o1
    ok_stands t alone none =
        let w = s.worlds in
        let tx = transaction w.own (m.part k) x in
        let own = world_after w.committed tx in
        let w1 = with_own own w in
        let c1 = core_of w1 m b1 in
        let gives : c1 ≡ with_segment k (Running (soloed o.core.world tx)) o.core = ok_core t alone ∙
        ap (λ (c : CoreState S). with_segment k (Running (soloed c.world tx)) c) (sym s.core) in
        let made : Soloed k (Ok tt) o (record o { core = c1 }) =
        subst (λ (z : Segment S). SoloedFrom z k (Ok tt) o (record o { core = c1 })) (sym (runs_now x e))
        (ap (λ (c : CoreState S). c.cause) s.core ∙ none, alone, ap (λ c. record o { core = c }) gives) in
        let ms = soloed_moves p most k (Ok tt) o (record o { core = c1 }) made in (
          record o { core = c1 },
          stands_told p most first d m m b b1 o s w1 (ap (λ (z : Books S). z.broken) t.rest)
              ms.0 ms.1,
          made,
        )

  -- where it is put back as it was
  back_core : (h : Hand S) → slice_get b.hands.items k ≡ Some h → Set k h b b1 → core_of s.worlds m b1 ≡ o.core
  back_core h e t =
      let w = s.worlds in
      core_set k m b b1 w h t (slice_get_within b.hands.items k h e) ∙
      (λ i. record (core_of w m b) { segments = λ j. same j i }) ∙ sym s.core
    where
      same : (j : ℕ) → set_segment k (segment_of s.worlds.own (m.part k) (Some h))
          (λ z. segment_of s.worlds.own (m.part z) (slice_get b.hands.items z)) j ≡ segment_of s.worlds.own (m.part j)
          (slice_get b.hands.items j)
      same j = elim (cases_Bool (eqb j k)) [
        | inl y ↦ cond-true (eqb j k) (segment_of s.worlds.own (m.part k) (Some h))
            (segment_of s.worlds.own (m.part j) (slice_get b.hands.items j)) y ∙
            ap (segment_of s.worlds.own (m.part k)) (sym e) ∙
            ap (λ z. segment_of s.worlds.own (m.part z) (slice_get b.hands.items z)) (sym (eqb-true j k y))
        | inr n ↦ cond-false (eqb j k) (segment_of s.worlds.own (m.part k) (Some h))
            (segment_of s.worlds.own (m.part j) (slice_get b.hands.items j)) n
      ]

  -- another one is solo
  pub taken_stands : (x : Work S) → slice_get b.hands.items k ≡ Some (Runs x) → Set k (Runs x) b b1 → (by : ℕ) →
      IsOtherSolo k by o.core → b.cause ≡ None → (o1 : Outer S) × StandsFor p most first d m b1 o1 × Soloed k
      (Err (Taken by)) o o1
  taken_stands x e t by other none =
      let c1 = core_of s.worlds m b1 in
      let made : Soloed k (Err (Taken by)) o (record o { core = c1 }) =
      subst (λ (z : Segment S). SoloedFrom z k (Err (Taken by)) o (record o { core = c1 })) (sym (runs_now x e)) (
        ap (λ (c : CoreState S). c.cause) s.core ∙ none,
        other,
        ap (λ c. record o { core = c }) (back_core (Runs x) e t),
      ) in
      let ms = soloed_moves p most k (Err (Taken by)) o (record o { core = c1 }) made in (
        record o { core = c1 },
        stands_told p most first d m m b b1 o s s.worlds (ap (λ (z : Books S). z.broken) t.rest)
            ms.0 ms.1,
        made,
      )

  -- what a doomed segment had in hand is gone
  pub emptied_stands : (f : Conflict) → slice_get b.hands.items k ≡ Some (DoomedHand f) → Set k IdleHand b b1 →
      (o1 : Outer S) × StandsFor p most first d m b1 o1 × (o.core.segments k ≡ Doomed f) ×
      (o1 ≡ record o { core = with_segment k Idle o.core })
  emptied_stands f e t =
      let w = s.worlds in
      let c1 = core_of w m b1 in
      let gives : c1 ≡ with_segment k Idle o.core =
      core_set k m b b1 w IdleHand t (slice_get_within b.hands.items k (DoomedHand f) e) ∙
      ap (with_segment k Idle) (sym s.core) in
      let at : o.core.segments k ≡ Doomed f = ap (λ (c : CoreState S). c.segments k) s.core ∙
      ap (segment_of w.own (m.part k)) e in
      let is : (record o { core = c1 }) ≡ (record o { core = with_segment k Idle o.core }) =
      ap (λ c. record o { core = c }) gives in
      let ms = doomed_moves p most k f o (record o { core = c1 }) at is in (
        record o { core = c1 },
        stands_told p most first d m m b b1 o s w (ap (λ (z : Books S). z.broken) t.rest) ms.0
            ms.1,
        at,
        is,
      )

  -- it was doomed
  pub doomed_stands : (f : Conflict) → slice_get b.hands.items k ≡ Some (DoomedHand f) → Set k IdleHand b b1 →
      b.cause ≡ None → (o1 : Outer S) × StandsFor p most first d m b1 o1 × Soloed k (Err (Lost f)) o o1
  doomed_stands f e t none =
      let z = emptied_stands f e t in (
        z.0,
        z.1,
        subst (λ (q : Segment S). SoloedFrom q k (Err (Lost f)) o z.0) (sym z.2)
            (ap (λ (c : CoreState S). c.cause) s.core ∙ none, refl, z.3),
      )

  -- the core goes on no more
  pub over_stands : (e : Cause) → b.cause ≡ Some e → (slice_get b.hands.items k ≡ Some IdleHand → ⊥) →
      k < length b.hands.items → (o1 : Outer S) × StandsFor p most first d m b o1 × Soloed k (Err (Over e)) o o1
  over_stands e is busy lt = (o, s, go (slice_get b.hands.items k) refl)
    where
      there : (xs : List (Hand S)) (i : ℕ) → i < length xs → slice_get xs i ≡ None → ⊥
      there [] i h q = omega arith
      there (y ∷ xs) zero h q = cc
      there (y ∷ xs) (suc i) h q = there xs i (omega arith) q

      at : (h : Option (Hand S)) → slice_get b.hands.items k ≡ h →
          o.core.segments k ≡ segment_of s.worlds.own (m.part k) h
      at h q = ap (λ (c : CoreState S). c.segments k) s.core ∙ ap (segment_of s.worlds.own (m.part k)) q

      over : o.core.cause ≡ Some e
      over = ap (λ (c : CoreState S). c.cause) s.core ∙ is

      go : (h : Option (Hand S)) → slice_get b.hands.items k ≡ h → SoloedFrom (o.core.segments k) k (Err (Over e)) o o
      go None q = absurd (there b.hands.items k lt q)
      go (Some IdleHand) q = absurd (busy q)
      go (Some (DoomedHand f)) q = subst (λ (z : Segment S). SoloedFrom z k (Err (Over e)) o o)
          (sym (at (Some (DoomedHand f)) q)) (over, refl)
      go (Some (Runs x)) q = subst (λ (z : Segment S). SoloedFrom z k (Err (Over e)) o o) (sym (at (Some (Runs x)) q))
          (over, refl)

-- what was set twice was set once
pub set_once : {S : Type 0} (k : ℕ) (h : Hand S) (b bt b1 : Books S) → Set k IdleHand b bt →
    b1 ≡ record bt { hands = b1.hands } → b1.hands.items ≡ slice_set bt.hands.items k h → Set k h b b1
set_once {S} k h b bt b1 t rest hands = record {
  rest = rest ∙ (λ i. record (t.rest i) { hands = b1.hands });
  hands = hands ∙ ap (λ l. slice_set l k h) t.hands ∙ again b.hands.items k;
}
  where
    again : (xs : List (Hand S)) (i : ℕ) → slice_set (slice_set xs i IdleHand) i h ≡ slice_set xs i h
    again [] i = refl
    again (y ∷ xs) zero = refl
    again (y ∷ xs) (suc i) = ap (λ z. y ∷ z) (again xs i)

-- the transaction of segment k, which was taken out of its hand, was told this
module _ {S : Type 0} (p : Prog S) (most k : ℕ) (first d : DeviceState) (m : Meaning) (b bt b1 : Books S) (x : Work S)
    (e : slice_get b.hands.items k ≡ Some (Runs x)) (t : Set k IdleHand b bt)
    (rest : b1 ≡ record bt { hands = b1.hands }) (none : b.cause ≡ None) where
  pub out_led : (r : Result (Unit {0}) SoloError) →
      OnOk r (NoneSolo bt.hands.items × (b1.hands.items ≡ slice_set bt.hands.items k
      (Runs (record x { solo = true })))) → OnErr r (b1.hands.items ≡ slice_set bt.hands.items k (Runs x))
      → IfErr r (λ z. (by : ℕ) × (z ≡ Taken by) × IsSoloAt bt.hands.items (Some by)) →
      LeadsBetween (StandsFor p most first d m b) (StandsFor p most first d m b1) (Soloed k r)
  out_led (Ok u) ok back other o s = ok_stands p most k first d m b b1 o s x e
      (set_once k (Runs (record x { solo = true })) b bt b1 t rest ok.1)
      (none_other p most k first d m b b1 o s x bt t ok.0) none
  out_led (Err z) ok back other o s =
      let by = other.0 in
      let w = other.2 in
      let here = set_here k m b bt IdleHand t (slice_get_within b.hands.items k (Runs x) e) in
      let n : k ≢ by = λ q. (let u : Some IdleHand ≡ Some (Runs w.0) = sym here ∙ ap (slice_get bt.hands.items) q ∙
      w.1 in cc) in
      subst (λ v. (o1 : Outer S) × StandsFor p most first d m b1 o1 × Soloed k (Err v) o o1) (sym other.1)
      (taken_stands p most k first d m b b1 o s x e (set_once k (Runs x) b bt b1 t rest back) by
      (is_other p most k first d m b b1 o s bt by t n w.0 w.1 w.2) none)

-- where the store means the same afterwards
pub led_same : {S : Type 0} (p : Prog S) (most : ℕ) (first d : DeviceState) (m m1 : Meaning) (b1 : Books S)
    (before : Outer S → Type 0) (leads : Outer S → Outer S → Type 0) → m1 ≡ m →
    LeadsBetween before (StandsFor p most first d m b1) leads →
    LeadsBetween before (StandsFor p most first d m1 b1) leads
led_same p most first d m m1 b1 before leads e f o a = let z = f o a in
    (z.0, subst (λ q. StandsFor p most first d q b1 z.0) (sym e) z.1, z.2)
