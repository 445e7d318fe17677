-- What a call that installs a piece leads to.
use Rattle.std.proofs.Common.{◌≡◌, ℕ, ◌<◌, ◌≤◌, Bool, true, false, cond, List, slice_get, Option, Some, None, Result, Ok, Err, IfOk, OnOk, OnErr, refl, sym, ◌∙◌, ap, subst}
use Rattle.std.specs.declared.alloc.AllocError.{AllocError}
use Rattle.std.proofs.lemmas.Bool.{cond-true}
use Rattle.std.proofs.lemmas.Option.{slice_get_within}
use Rattle.py_data.specs.declared.value.Addr.{Addr}
use Rattle.py_data.specs.declared.change.Change.{Change}
use Rattle.py_data.specs.Heap.{Heap, Marks}
use Rattle.py_data.specs.Sight.{pure}
use Rattle.lock_run.specs.declared.client.Life.TheVariants.{Lives}
use Rattle.lock_run.specs.Prog.{Prog}
use Rattle.lock_run.specs.RunState.{first_world}
use Rattle.lock_run.specs.Machine.{Machine, begin_with}
use Rattle.lock_run.proofs.Following.{upto_none}
use Rattle.seg_store.specs.Meaning.{Meaning}
use Rattle.seg_store.specs.Calls.{after_open}
use Rattle.seg_store.specs.Store.{IsStore}
use Rattle.stm_pieces.specs.Ends.{last_of}
use Rattle.stm_pieces.specs.Piece.{IsPiece}
use Rattle.stm_pieces.specs.Replay.{Replays}
use Rattle.stm_segment.specs.declared.books.Work.{Work}
use Rattle.stm_segment.specs.declared.books.Hand.TheVariants.{Idle as IdleHand, Doomed as DoomedHand, Runs}
use Rattle.stm_segment.specs.declared.books.Hand.{Hand}
use Rattle.stm_segment.specs.declared.books.Books.{Books}
use Rattle.stm_core.specs.declared.answers.AdvanceError.TheVariants.{Failed}
use Rattle.stm_segment.specs.declared.cause.Cause.{Cause}
use Rattle.stm_segment.specs.declared.cause.Cause.TheVariants.{OutOfMemory}
use Rattle.stm_core.specs.declared.steps.Pause.TheVariants.{Stopped}
use Rattle.stm_segment.specs.declared.halt.Halt.TheVariants as halt
use Rattle.stm_segment.specs.CoreState.{no_world, Transaction, Segment, Idle, Running, CoreState, sight_of, with_segment, first_cause}
use Rattle.stm_core.specs.Outside.{Outer, Kept, OuterLed}
use Rattle.stm_core.specs.Advanced.{with_cause, Fails}
use Rattle.stm_segment.specs.Devices.{DeviceState, Tells}
use Rattle.stm_segment.specs.Books.{Fit, transaction, segment_of, core_of}
use Rattle.stm_core.specs.Pieces.{Fits, FitsSegment, HasInstalled, IsGivenUp, IsInstalled}
use Rattle.stm_core.specs.SaneCore.{StandsFor, CauseRose, LeadsBetween}
use Rattle.stm_core.specs.CoreHeld.{IsFullKept}
use Rattle.stm_core.specs.inner.Whole.{Whole}
use Rattle.stm_core.specs.inner.Trying.{core_with}
use Rattle.stm_core.specs.inner.Replayed.{replayed, CanReplay}
use Rattle.stm_core.specs.inner.PutIn.{further, HasPutIn, HasFailed}
use Rattle.stm_core.specs.inner.Settled.{IsOut}
use Rattle.stm_core.proofs.Wholes.{Set, set_here, taken}
use Rattle.stm_core.proofs.Endings.{memory_ends}
use Rattle.stm_core.proofs.Advanced.{dropped_led}
use Rattle.stm_core.proofs.SoloMoves.{failed_moves}
use Rattle.stm_core.proofs.InnerMoves.{mortal_led}
use Rattle.stm_core.proofs.Kept.{same_run}
use Rattle.stm_core.proofs.OutsideLemmas.{solo_told}
use Rattle.stm_core.proofs.Publishing.{stands_within}
use Rattle.stm_core.proofs.StandsAgain.{stands_after, stands_told}
use Rattle.stm_core.proofs.TakenSteps.{runs_in, out_of}
use Rattle.stm_core.proofs.Telling.{part_none}
use Rattle.stm_core.proofs.Calling.{full_same}
use Rattle.stm_core.proofs.Replaying.{Backs, worked, opened_can, opened_installs, installed_led}

-- ---- a cause that is kept

-- the first cause, once there was no memory
pub full_first : (r r1 l l1 : ℕ) (z : Option Cause) → r ≤ r1 → l1 ≡ l → IsFullKept r l z →
    IsFullKept r1 l1 (first_cause z OutOfMemory)
full_first r r1 l l1 None le e h = tt
full_first r r1 l l1 (Some y) le e h = full_same r r1 l l1 (Some y) (Some y) le e refl h

pub rose_first : (z : Option Cause) (d d1 : DeviceState) → CauseRose z d d1 →
    CauseRose (first_cause z OutOfMemory) d d1
rose_first None d d1 h = tt
rose_first (Some y) d d1 h = h

-- a transaction that failed for want of memory is moves of the core with what its devices were told
module _ {S : Type 0} (p : Prog S) (first : Machine S) (most k n : ℕ) where
  given_up_led : (reserved limit : ℕ) (o : Outer S) (x : Transaction S) (o1 : Outer S) → Kept p first most o →
      o.core.segments k ≡ Running x → ((j : ℕ) (y : Transaction S) → o.core.segments j ≡ Running y → j < n)
      → Fails x.solo p k n reserved limit OutOfMemory o x o1 → OuterLed p most o o1
  given_up_led reserved limit o x o1 kept runs below f = by x.solo refl f
    where
      c1 : CoreState S
      c1 = with_cause OutOfMemory (with_segment k Idle o.core)

      mortal : x.solo ≡ false → (z : Transaction S) → o.core.segments k ≡ Running z → z.solo ≡ false
      mortal e z is = ap (λ (q : Transaction S). q.solo) (sym (same_run x z (sym runs ∙ is))) ∙ e

      by : (b : Bool) → x.solo ≡ b → Fails b p k n reserved limit OutOfMemory o x o1 → OuterLed p most o o1
      by false e h = subst (OuterLed p most o) (sym h.1)
          (mortal_led p most k o c1 (dropped_led p first most k n o.core x OutOfMemory kept.good runs e tt) (mortal e))
      by true e h = failed_moves p first most k n o x kept runs e below OutOfMemory o1 h.1

-- ---- in the hand

-- a piece fits no hand but one that runs a transaction
pub none_fits : {S : Type 0} (p : Prog S) (most k n : ℕ) (first d : DeviceState) (m : Meaning) (b : Books S) (q : S)
    (g : Heap) (locked : Marks) (o : Outer S) → StandsFor p most first d m b o →
    FitsSegment most o.core.image (o.core.segments k) q g locked n → (h : Hand S) →
    slice_get b.hands.items k ≡ Some h → ((x : Work S) → h ≡ Runs x → ⊥) → ⊥
none_fits {S} p most k n first d m b q g locked o s fits h e other = by h e other
  where
    there : (z : Hand S) → slice_get b.hands.items k ≡ Some z →
        FitsSegment most o.core.image (segment_of s.worlds.own (m.part k) (Some z)) q g locked n
    there z is = subst (λ (y : Segment S). FitsSegment most o.core.image y q g locked n)
        (ap (λ (c : CoreState S). c.segments k) s.core ∙ ap (segment_of s.worlds.own (m.part k)) is) fits

    by : (z : Hand S) → slice_get b.hands.items k ≡ Some z → ((x : Work S) → z ≡ Runs x → ⊥) → ⊥
    by IdleHand is not = there IdleHand is
    by (DoomedHand f) is not = there (DoomedHand f) is
    by (Runs x) is not = not x refl

-- ---- out of the hand, from a core that stands

module _ {S : Type 0} (p : Prog S) (most k : ℕ) (first d : DeviceState) (m : Meaning) (b bt : Books S) (x : Work S)
    (at : slice_get b.hands.items k ≡ Some (Runs x)) (set : Set k IdleHand b bt) (whole : Whole m b) where
  fit_now : Fit k m bt x.progress
  fit_now = taken k m b bt x whole at set

  idle_now : slice_get bt.hands.items k ≡ Some IdleHand
  idle_now = set_here k m b bt IdleHand set (slice_get_within b.hands.items k (Runs x) at)

  abbrev start : Machine S
  start = begin_with p (first_world first.input first.ends)

  broken_same : bt.broken ≡ b.broken
  broken_same = ap (λ (z : Books S). z.broken) set.rest

  -- the next step is cut before its first call
  out_cut : (r : ℕ) (o : Outer S) (s : StandsFor p most first d m b o) → p.life x.state ≡ Lives →
      IsOut p first.out first.err d s.worlds k (Stopped halt.OutOfMemory) m r bt x o
  out_cut r o s lives =
      let w = s.worlds in
      let out = out_of p most k first d m b bt x at set o s in
      let tx = transaction w.own (m.part k) x in
      record {
        core = out.core;
        broken = out.broken;
        why = (lives, tt);
        told = λ y. record {
          told = (sight_of m.image w.committed tx).world;
          tells = subst (Tells first.out first.err d) (sym (own_world y)) (out.shown y).tells;
          cut = record {
            left = p.row x.state;
            place = sight_of m.image w.committed tx;
            upto = upto_none pure (p.row x.state) (sight_of m.image w.committed tx);
            part = part_none (p.row x.state) (sight_of m.image w.committed tx).world;
          };
          fault = tt;
        };
        own = λ y. (solo_told p start most k o tx s.kept (runs_in p most k first d m b bt x at set o s) y).1 ∙
            cond-true x.solo w.own no_world y;
        tells = λ n. out.tells;
        mid = λ n. out.mid;
      }
    where
      own_world : x.solo ≡ true → (sight_of m.image s.worlds.committed
          (transaction s.worlds.own (m.part k) x)).world ≡ s.worlds.own
      own_world y = cond-true x.solo (cond x.solo s.worlds.own no_world) s.worlds.committed y ∙
          cond-true x.solo s.worlds.own no_world y

  -- it failed for want of memory
  failed_to : (r1 n l : ℕ) (m1 : Meaning) (b1 : Books S) → m.segments ≡ n → m1.limit ≡ l → HasFailed k m bt x m1 b1 →
      (o : Outer S) → StandsFor p most first d m b o → p.life x.state ≡ Lives →
      (o1 : Outer S) × StandsFor p most first d m1 b1 o1 × IsGivenUp p k n r1 l o o1
  failed_to r1 n l m1 b1 en el h o s lives =
      let w = s.worlds in
      let tx = transaction w.own (m.part k) x in
      let runs = runs_in p most k first d m b bt x at set o s in
      let z = memory_ends p first.out first.err d w k m 0 bt x o d refl m1 r1 b1 halt.OutOfMemory refl
      (out_cut 0 o s lives) idle_now (λ q. let g = h.mortal q in record { broken = g.0; core = g.1 })
      (λ q. let g = h.solo q in record { broken = g.0; core = g.1 }) (Failed OutOfMemory) refl in
      let fails : Fails tx.solo p k n r1 l OutOfMemory o tx z.state =
      subst (λ i. Fails tx.solo p k i r1 l OutOfMemory o tx z.state) en
      (subst (λ i. Fails tx.solo p k m.segments r1 i OutOfMemory o tx z.state) el z.is.1) in
      let below = subst (λ i. (j : ℕ) (y : Transaction S) → o.core.segments j ≡ Running y → j < i) en
      (stands_within p most first d m b o whole.hands s) in
      let led = given_up_led p start most k n r1 l o tx z.state s.kept runs below fails in (
        z.state,
        stands_after p most first d d m m1 b b1 o s z.state z.worlds led.0 led.1 z.core z.broken z.tells z.mid,
        record { x = tx; runs = runs; fails = fails },
      )

  -- ---- a piece

  module _ (r n : ℕ) (q : S) (last : Option S) (g g1 : Heap) (locked : Marks) (es edits : List (Addr × Change))
      (store : IsStore r m) (fits : (o : Outer S) → StandsFor p most first d m b o →
      FitsSegment most o.core.image (o.core.segments k) q g locked n)
      (same : es ≡ edits) (made : Replays locked edits g g1) where
    backs : Backs k m x
    backs = record { names = fit_now.own_names; whole = store.changes k }

    replays : Replays locked es g g1
    replays = subst (λ l. Replays locked l g g1) (sym same) made

    module _ (o : Outer S) (s : StandsFor p most first d m b o) where
      core_out : o.core ≡ core_with s.worlds k m bt x
      core_out = (out_of p most k first d m b bt x at set o s).core

      -- it fits the transaction
      pub fits_now : Fits most o.core.image (transaction s.worlds.own (m.part k) x) q g locked n
      fits_now = subst (λ (z : Segment S). FitsSegment most o.core.image z q g locked n)
          (runs_in p most k first d m b bt x at set o s) (fits o s)

      -- its changes can be made in a step of the store
      pub can_now : CanReplay k es (after_open k m)
      can_now = opened_can p start most k n s.worlds m bt x q q g g1 locked o core_out backs (fits o s) es replays

      -- and then it was installed
      installed_to : (m1 : Meaning) (b1 : Books S) → HasPutIn k es n last m bt x m1 b1 →
          IsPiece p g locked n q (last_of q last) g1 →
          (o1 : Outer S) × StandsFor p most first d m1 b1 o1 × HasInstalled p most k g g1 n (last_of q last) o o1
      installed_to m1 b1 h piece =
          let w = s.worlds in
          let m0 = replayed k es (after_open k m) in
          let q1 = last_of q last in
          let c1 = core_of w m1 b1 in
          let has = opened_installs p start most k n w m bt x q q1 g g1 locked o core_out backs (fits o s) es replays
          s.kept.good piece in
          let led_to : c1 ≡ core_with w k m0 bt (worked x n q1) =
          h.core w ∙ ap (λ z. core_with w k z bt (further n last x)) h.store ∙
          ap (λ z. core_with w k m0 bt (worked x n (last_of z last))) fits_now.state in
          let now : HasInstalled p most k g g1 n q1 o (record o { core = c1 }) =
          subst (λ c. HasInstalled p most k g g1 n q1 o (record o { core = c })) (sym led_to) has in
          let led = installed_led p start most k n g g1 q1 o (record o { core = c1 }) s.kept now in (
            record o { core = c1 },
            stands_told p most first d m m1 b b1 o s w (h.broken ∙ broken_same) led.0 led.1,
            now,
          )

    -- what the call leads to
    pub install_led : (r1 parts l : ℕ) (m1 : Meaning) (b1 : Books S) → m.segments ≡ parts → m1.limit ≡ l →
        p.life q ≡ Lives → IsPiece p g locked n q (last_of q last) g1 → (result : Result ℕ AllocError) →
        IfOk result (λ i. i ≡ n) →
        OnOk result (HasPutIn k es n last m bt x m1 b1) → OnErr result (HasFailed k m bt x m1 b1) →
        LeadsBetween (StandsFor p most first d m b) (StandsFor p most first d m1 b1)
        (IsInstalled p most k parts r1 l g g1 n (last_of q last) result)
    install_led r1 parts l m1 b1 en el lives piece (Ok i) count done failed o s =
        let z = installed_to o s m1 b1 done piece in
        (z.0, z.1, (count, z.2))
    install_led r1 parts l m1 b1 en el lives piece (Err e) count done failed o s =
        failed_to r1 parts l m1 b1 en el failed o s (ap p.life (fits_now o s).state ∙ lives)

  -- the cause that is kept then
  cause_same : bt.cause ≡ b.cause
  cause_same = ap (λ (z : Books S). z.cause) set.rest

  pub install_cause : (P Q : Option Cause → Type 0) (n : ℕ) (last : Option S) (es : List (Addr × Change)) (m1 : Meaning)
      (b1 : Books S) (result : Result ℕ AllocError) → OnOk result (HasPutIn k es n last m bt x m1 b1) →
      OnErr result (HasFailed k m bt x m1 b1) → ((z : Option Cause) → P z → Q z) →
      ((z : Option Cause) → P z → Q (first_cause z OutOfMemory)) → P b.cause → Q b1.cause
  install_cause P Q n last es m1 b1 (Ok i) done failed stays first h =
      subst Q (sym (done.cause ∙ cause_same)) (stays b.cause h)
  install_cause P Q n last es m1 b1 (Err e) done failed stays first h =
      subst Q (sym (failed.cause ∙ ap (λ z. first_cause z OutOfMemory) cause_same)) (first b.cause h)
