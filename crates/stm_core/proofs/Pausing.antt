-- Why steps of a transaction came to an end, said of the core as it is then.
use Rattle.std.proofs.Common.{◌≡◌, ◌≢◌, ◌||◌, ◌&&◌, not, ℕ, Bool, true, false, cond, eqb, ltb, ◌+◌, ◌≤◌, suc, List, Option, Some, slice_get, refl, sym, ◌∙◌, ap, subst, subst₂, arith}
use Rattle.std.proofs.lemmas.Bool.{eq-eqb, ne_eqb, cond-true, cond-false}
use Rattle.py_data.specs.declared.stop.Side.{Side}
use Rattle.py_data.specs.declared.stop.Conflict.{Conflict}
use Rattle.py_data.specs.Heap.{Heap}
use Rattle.py_data.specs.Row.{Call}
use Rattle.py_data.specs.Sight.{Sight, Does, pure}
use Rattle.py_data.specs.Sense.{Upto}
use Rattle.lock_run.specs.Cut.{PartOf}
use Rattle.lock_run.specs.declared.client.Outcome.TheVariants.{Waits as WaitsNow}
use Rattle.lock_run.specs.declared.client.Outcome.{Outcome}
use Rattle.lock_run.specs.declared.client.Life.TheVariants.{Lives}
use Rattle.py_data.specs.World.{World}
use Rattle.lock_run.specs.Client.{Waiting}
use Rattle.lock_run.specs.Prog.{Prog}
use Rattle.seg_store.specs.Meaning.{Meaning, sees, over}
use Rattle.seg_store.specs.Store.{IsStore}
use Rattle.stm_core.specs.declared.steps.Pause.{Pause}
use Rattle.stm_segment.specs.declared.halt.Halt.{Halt}
use Rattle.stm_segment.specs.declared.halt.Halt.TheVariants.{Lost, NeedSolo, Full, ReadFault, WriteFault, ErrFault, OutOfMemory}
use Rattle.stm_core.specs.declared.steps.Pause.TheVariants.{Whole, Waits, Ended, Stopped}
use Rattle.stm_segment.specs.declared.books.Progress.{Progress}
use Rattle.stm_segment.specs.declared.books.Work.{Work}
use Rattle.stm_segment.specs.declared.books.Books.{Books}
use Rattle.stm_segment.specs.declared.books.Hand.TheVariants.{Runs}
use Rattle.stm_segment.specs.CoreState.{Transaction, Running, CoreState, sight_of}
use Rattle.stm_segment.specs.Conflict.{loser, winner, wins, side, IsMet, IsStanding, AsksFrom}
use Rattle.stm_core.specs.Moves.{Stays}
use Rattle.stm_segment.specs.Books.{Worlds, with_own, transaction, segment_of, core_of, Fit}
use Rattle.stm_segment.specs.Asking.{WaitsThere, Reaches, AsksToChange, AsksOutside, AsksRoom}
use Rattle.stm_segment.specs.inner.Hold.{LosesTo}
use Rattle.stm_core.specs.Advance.{Tried}
use Rattle.stm_core.specs.inner.Trying.{core_with, work_of, Sane}
use Rattle.stm_segment.specs.Devices.{DeviceState, Shown, ShowsWorld, IsLeftAlone}
use Rattle.stm_core.specs.inner.Whole.{stepped, CutWhy, StepDone, StepCut, StepBroke}
use Rattle.stm_core.specs.inner.Pausing.{StopWhy, Paused}
use Rattle.stm_core.proofs.Advancing.{tried_none, none_tried, all_gone, gone_step, gone_wait, gone_cut}
use Rattle.stm_core.proofs.Afresh.{IsOfHeap, does_same, reaches_afresh, change_of_heap, outside_of_heap, room_of_heap, upto_afresh}
use Rattle.stm_core.proofs.Committing.{running_work, wins_back}

-- what the segment sees stays, but for looks and locks
sees_stays : {S : Type 0} (w : Worlds) (k : ℕ) (m m1 : Meaning) (x x1 : Work S) → m1.image ≡ m.image →
    Stays m.image (transaction w.own (m.part k) x) (transaction w.own (m1.part k) x1) → sees m1 k ≡ sees m k
sees_stays w k m m1 x x1 im s = (λ i a. over ((m1.part k).changes a) (im i a)) ∙ (λ i a. s.view a i)

module _ {S : Type 0} (w : Worlds) (k : ℕ) (m m1 : Meaning) (x x1 : Work S) (im : m1.image ≡ m.image)
    (s : Stays m.image (transaction w.own (m.part k) x) (transaction w.own (m1.part k) x1)) where
  abbrev went : Transaction S
  went = transaction w.own (m.part k) x

  abbrev came : Transaction S
  came = transaction w.own (m1.part k) x1

  -- the world in which its steps go on is the same
  world_stays : (sight_of m1.image w.committed came).world ≡ (sight_of m.image w.committed went).world
  world_stays i = cond (s.solo i) (s.world i) w.committed

  -- a wait stays one
  pub waits_stays : (p : Prog S) → WaitsThere p m.image w.committed went → WaitsThere p m1.image w.committed came
  waits_stays p h = record {
    mortal = λ e. subst (λ v. Waiting (p.row x1.state) v) (sym (sees_stays w k m m1 x x1 im s))
        (subst (λ q. Waiting (p.row q) (sees m k)) (sym s.state) (h.mortal (sym s.solo ∙ e)));
    solo = λ e.
        let z = h.solo (sym s.solo ∙ e) in
        let d = does_same (p.row x.state) (sight_of m.image w.committed went) (sight_of m1.image w.committed came) z.1
        (WaitsNow, z.0) z.2 (sees_stays w k m m1 x x1 im s) world_stays in (
          z.0,
          d.0,
          subst (λ q. Does (p.row q) (sight_of m1.image w.committed came) (WaitsNow, z.0) d.0) (sym s.state)
              d.1,
        );
  }

  -- a call that it comes to stays one
  pub reaches_stays : (p : Prog S) (kind : Call S → Sight S → Type 0) → IsOfHeap kind →
      Reaches (p.row x.state) (sight_of m.image w.committed went) kind →
      Reaches (p.row x1.state) (sight_of m1.image w.committed came) kind
  reaches_stays p kind law r = subst (λ q. Reaches (p.row q) (sight_of m1.image w.committed came) kind) (sym s.state)
      (reaches_afresh (p.row x.state) (sight_of m.image w.committed went) (sight_of m1.image w.committed came) kind law
      (sees_stays w k m m1 x x1 im s) world_stays r)

-- of the transactions that run none has the number of the one out of its hand
pub numbers_apart : {S : Type 0} (p : Prog S) (sound : Heap → List S → Type 0) (most k : ℕ) (m : Meaning) (b : Books S)
    (x : Work S) → Sane p sound most k m b x → (w : Worlds) (j : ℕ) (y : Transaction S) → j ≢ k →
    (core_of w m b).segments j ≡ Running y → y.begun ≢ x.begun
numbers_apart {S} p sound most k m b x s w j y n e f =
    let v = s.worlds in
    let z = running_work w (m.part j) (slice_get b.hands.items j) y e in
    let c = core_with v k m b x in
    let tx = transaction v.own (m.part k) x in
    let ty = transaction v.own (m.part j) z.0 in
    let own : c.segments k ≡ Running tx = cond-true (eqb k k) (Running tx) ((core_of v m b).segments k)
    (eq-eqb k k refl) in
    let other : c.segments j ≡ Running ty = cond-false (eqb j k) (Running tx) ((core_of v m b).segments j)
    (ne_eqb j k n) ∙ ap (segment_of v.own (m.part j)) z.1 in
    (s.good.apart j k ty tx n other own).begun (sym (ap (λ (t : Transaction S). t.begun) z.2) ∙ f)

module _ {S : Type 0} (p : Prog S) (w : Worlds) (k : ℕ) (m : Meaning) (b : Books S) (x : Work S)
    (numbers : (j : ℕ) (y : Transaction S) → j ≢ k → (core_of w m b).segments j ≡ Running y → y.begun ≢ x.begun) where
  abbrev tx : Transaction S
  tx = transaction w.own (m.part k) x

  -- a conflict that it loses by its request stands, with the transaction in its segment
  lost_stands : (f : Conflict) → LosesTo k (side k tx) f (core_of w m b) →
      Reaches (p.row x.state) (sight_of m.image w.committed tx) (AsksToChange f.at.0) →
      IsStanding p (core_with w k m b x) f × AsksFrom k 1 f
  lost_stands f l r =
      let q = l.meets in
      let at_k : f.other.segment ≡ k = ap (λ (z : Side). z.segment) q.other in
      let other : f.other ≡ side f.other.segment tx = q.other ∙ ap (λ i. side i tx) (sym at_k) in
      let one : eqb f.lost 0 ≡ false = ap (λ n. eqb n 0) l.lost in
      let lose : loser f ≡ f.other = cond-false (eqb f.lost 0) f.writer f.other one in
      let win : winner f ≡ f.writer = cond-false (eqb f.lost 0) f.other f.writer one in
      let differ : f.writer.begun ≢ (side k tx).begun = λ e.
      numbers f.writer.segment q.writer q.differ q.writes (sym (ap (λ (z : Side). z.begun) q.writer_is) ∙ e) in (
        record {
          x = q.writer;
          y = tx;
          writes = cond-false (eqb f.writer.segment k) (Running tx) ((core_of w m b).segments f.writer.segment)
              (ne_eqb f.writer.segment k q.differ) ∙ q.writes;
          reads = ap (core_with w k m b x).segments at_k ∙
              cond-true (eqb k k) (Running tx) ((core_of w m b).segments k) (eq-eqb k k refl);
          is = λ i. record { at = f.at; writer = q.writer_is i; other = other i; asks = f.asks; lost = f.lost };
          differ = λ e. q.differ (e ∙ at_k);
          held = q.held;
          met = subst (IsMet p m.image w.committed tx f.at.0) (sym q.asks) r;
          lost = let n = l.lost in omega (arith, n);
          loses = ap (λ z. wins z (loser f)) win ∙ ap (wins f.writer) (lose ∙ q.other) ∙
              wins_back f.writer (side k tx) differ l.loses;
        },
        record { segment = at_k; asks = q.asks; lost_is = l.lost },
      )

-- a step that was cut
pub why_cut : {S : Type 0} (p : Prog S) (k : ℕ) (w : Worlds) (e : Halt) (m m1 : Meaning) (r1 : ℕ) (b b1 : Books S)
    (x x1 : Work S) → m1.image ≡ m.image →
    ((j : ℕ) (y : Transaction S) → j ≢ k → (core_of w m1 b1).segments j ≡ Running y → y.begun ≢ x1.begun)
    → StepCut p w k (side k (transaction w.own (m.part k) x)) e m b x m1 r1 b1 x1 → StopWhy p w k e m1 r1 b1 x1
why_cut {S} p k w e m m1 r1 b b1 x x1 im numbers z = why e z.why
  where
    now : (kind : Call S → Sight S → Type 0) → IsOfHeap kind →
        Reaches (p.row x.state) (sight_of m.image w.committed (transaction w.own (m.part k) x)) kind →
        Reaches (p.row x1.state) (sight_of m1.image w.committed (transaction w.own (m1.part k) x1)) kind
    now = reaches_stays w k m m1 x x1 im z.stays p

    me : side k (transaction w.own (m.part k) x) ≡ side k (transaction w.own (m1.part k) x1)
    me i = record { segment = k; thread = sym z.stays.thread i; begun = sym z.stays.begun i; solo = sym z.stays.solo i }

    first_false : (q r : Bool) → (q || r) ≡ false → q ≡ false
    first_false false r h = refl
    first_false true r h = h

    why : (y : Halt) → CutWhy k (side k (transaction w.own (m.part k) x)) y (p.row x.state)
        (sight_of m.image w.committed (transaction w.own (m.part k) x)) (core_of w m1 b1) r1 m1.limit →
        StopWhy p w k y m1 r1 b1 x1
    why (Lost f) h =
        let l = lost_stands p w k m1 b1 x1 numbers f (subst (λ s. LosesTo k s f (core_of w m1 b1)) me h.0)
        (now (AsksToChange f.at.0) (change_of_heap f.at.0) h.1) in
        (l.0, l.1, z.stays.solo ∙ first_false x.solo (not f.writer.solo && ltb x.begun f.writer.begun) h.0.loses)
    why NeedSolo h = (now AsksOutside outside_of_heap h.1, z.stays.solo ∙ h.0)
    why (Full r n l) h = (now (AsksRoom n) (room_of_heap n) h.0, h.1, h.2, h.3)
    why OutOfMemory h = tt
    why ReadFault h = z.stays.solo ∙ h
    why WriteFault h = z.stays.solo ∙ h
    why ErrFault h = z.stays.solo ∙ h

-- ---- a step, whichever way it ended

module _ {S : Type 0} (p : Prog S) (most k n : ℕ) (t e : Option (List ℕ)) (w : Worlds) (d1 : DeviceState)
    (m m1 : Meaning) (r1 : ℕ) (b b1 : Books S) (x x1 : Work S) (c0 : CoreState S) (im : m1.image ≡ m.image)
    (st : IsStore r1 m1) (fit : Fit k m1 b1 x1.progress)
    (lives : p.life x.state ≡ Lives) (same : x1.solo ≡ x.solo) (g : Tried p most k true n c0 (core_with w k m b x))
  where
    -- it waits
    pub paused_waits : (own : World) (o : Outcome) → o ≡ WaitsNow →
        StepDone p w own k (side k (transaction w.own (m.part k) x)) o m b x m1 b1 x1 → Shown x.solo t e d1 own →
        Paused p most k t e w c0 (n + 0) Waits m1 r1 b1 x1 d1
    paused_waits own o is d shown =
        let v = d.waits is in
        record {
          own = w.own;
          mortal = λ q. refl;
          gone = gone_wait p most k n w m m1 r1 b b1 x x1 c0 im st fit g own o is d;
          why = (ap p.life v.1.state ∙ lives, waits_stays w k m m1 x x1 im v.1 p (d.waiting is));
          told = λ q. subst (ShowsWorld t e d1) v.0 (shown (sym same ∙ q));
        }

    -- it was done
    module _ (own : World) (o : Outcome) (goes : o ≢ WaitsNow)
        (d : StepDone p w own k (side k (transaction w.own (m.part k) x)) o m b x m1 b1 x1) (le : suc x.steps ≤ most)
        (others : x.solo ≡ true → (j : ℕ) (z : Work S) → j ≢ k → slice_get b1.hands.items j ≡ Some (Runs z) →
        z.solo ≡ false) (shown : Shown x.solo t e d1 own) where
      pub paused_whole : p.life x1.state ≡ Lives → Paused p most k t e w c0 (n + 1) Whole m1 r1 b1 (stepped x1) d1
      paused_whole on = record {
        own = own;
        mortal = λ q. d.mortal (sym same ∙ q);
        gone = gone_step p most k n w m m1 r1 b b1 x x1 c0 im st fit g own o goes d le others;
        why = on;
        told = λ q. shown (sym same ∙ q);
      }

      -- and the thread's last
      pub paused_ended : p.life x1.state ≢ Lives → Paused p most k t e w c0 (n + 1) Ended m1 r1 b1 (stepped x1) d1
      paused_ended over = record {
        own = own;
        mortal = λ q. d.mortal (sym same ∙ q);
        gone = gone_step p most k n w m m1 r1 b b1 x x1 c0 im st fit g own o goes d le others;
        why = over;
        told = λ q. shown (sym same ∙ q);
      }

    -- it was cut
    pub paused_cut : (stop : Halt) → StepCut p w k (side k (transaction w.own (m.part k) x)) stop m b x m1 r1 b1 x1 →
        ((j : ℕ) (y : Transaction S) → j ≢ k → (core_of w m1 b1).segments j ≡ Running y → y.begun ≢ x1.begun)
        → (x.solo ≡ true → StepBroke p t e m.image w.committed (transaction w.own (m.part k) x) stop d1) →
        Paused p most k t e w c0 (n + 0) (Stopped stop) m1 r1 b1 x1 d1
    paused_cut stop z numbers broke = record {
      own = w.own;
      mortal = λ q. refl;
      gone = gone_cut p most k n w m m1 r1 b b1 x x1 c0 im st fit g stop z;
      why = (ap p.life z.stays.state ∙ lives, why_cut p k w stop m m1 r1 b b1 x x1 im numbers z);
      told = λ q. broke_stays (broke (sym same ∙ q));
    }
      where
        broke_stays : StepBroke p t e m.image w.committed (transaction w.own (m.part k) x) stop d1 →
            StepBroke p t e m1.image w.committed (transaction w.own (m1.part k) x1) stop d1
        broke_stays h =
            let tx = transaction w.own (m.part k) x in
            let tx1 = transaction w.own (m1.part k) x1 in
            let c = h.cut in
            let u = upto_afresh (p.row x.state) c.left (sight_of m.image w.committed tx)
            (sight_of m1.image w.committed tx1) c.place (sees_stays w k m m1 x x1 im z.stays)
            (world_stays w k m m1 x x1 im z.stays) c.upto in
            record {
              told = h.told;
              tells = h.tells;
              cut = record {
                left = c.left;
                place = u.0;
                upto = subst (λ q. Upto pure (p.row q) (sight_of m1.image w.committed tx1) c.left u.0)
                    (sym z.stays.state) u.1;
                part = subst (λ v. PartOf c.left v h.told) (sym u.2) c.part;
              };
              fault = h.fault;
            }

-- steps that were done, and then more over the same view, whose segment and side are the same
pub paused_then : {S : Type 0} (p : Prog S) (most k k1 done more : ℕ) (t e : Option (List ℕ)) (w : Worlds)
    (d d1 : DeviceState) (pause : Pause) (m m1 : Meaning) (r r1 : ℕ) (b b1 : Books S) (s s1 : Side) (n n1 : ℕ)
    (q q1 : S) (f f1 : Progress S) (c : CoreState S) → k1 ≡ k → s1 ≡ s
    → (u : Paused p most k t e w c done Whole m r b (work_of s n q f) d) →
    (Shown s1.solo t e d u.own → Tried p most k1 true done c (core_with (with_own u.own w) k1 m b (work_of s1 n q f)) →
    Paused p most k1 t e (with_own u.own w) c (done + more) pause m1 r1 b1 (work_of s1 n1 q1 f1) d1)
    → Paused p most k t e w c (done + more) pause m1 r1 b1 (work_of s n1 q1 f1) d1
paused_then {S} p most k k1 done more t e w d d1 pause m m1 r r1 b b1 s s1 n n1 q q1 f f1 c ek es u next =
    let here = core_with (with_own u.own w) k m b (work_of s n q f) in
    let tried = subst (λ z. Tried p most k true done c z)
    (sym (none_tried p most k false u.gone.reached here u.gone.rest)) u.gone.steps in
    let z = subst₂ (λ i v. Shown v.solo t e d u.own →
    Tried p most i true done c (core_with (with_own u.own w) i m b (work_of v n q f)) →
    Paused p most i t e (with_own u.own w) c (done + more) pause m1 r1 b1 (work_of v n1 q1 f1) d1) ek es next u.told
    tried in
    record {
      own = z.own;
      mortal = λ y. z.mortal y ∙ u.mortal y;
      gone = z.gone;
      why = z.why;
      told =
          z.told;
    }

-- before the first step
pub paused_none : {S : Type 0} (p : Prog S) (most k : ℕ) (t e : Option (List ℕ)) (w : Worlds) (d : DeviceState)
    (m : Meaning) (r : ℕ) (b : Books S) (x : Work S) → p.life x.state ≡ Lives → Shown x.solo t e d w.own →
    Paused p most k t e w (core_with w k m b x) 0 Whole m r b x d
paused_none p most k t e w d m r b x lives shown =
    let c = core_with w k m b x in
    record {
      own = w.own;
      mortal = λ q. refl;
      gone = all_gone p most k 0 c c (tried_none p most k true c);
      why = lives;
      told = shown;
    }

-- nothing was told by what told nothing, and then nothing
pub alone_then : (d d1 d2 : DeviceState) → IsLeftAlone d d1 → IsLeftAlone d1 d2 → IsLeftAlone d d2
alone_then d d1 d2 a b = b ∙ (λ i. record (a i) { was_mid = d2.was_mid })
