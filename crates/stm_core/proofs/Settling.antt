-- The core's state while a transaction is out of its hand, and once it was dropped or a cause is kept.
use Rattle.std.proofs.Common.{◌≡◌, ℕ, eqb, length, slice_get, slice_set, Some, refl, sym, ◌∙◌, ap, inl, inr, arith, length-set}
use Rattle.std.specs.List.{sum_by}
use Rattle.std.proofs.lemmas.Bool.{cases_Bool, both_ways, eqb-true, eqb-false, eq-eqb, cond-true, cond-false}
use Rattle.std.proofs.lemmas.Option.{slice_get_within}
use Rattle.py_data.specs.declared.stop.Conflict.{Conflict}
use Rattle.seg_store.specs.Meaning.{Meaning}
use Rattle.stm_segment.specs.declared.books.Work.{Work}
use Rattle.stm_segment.specs.declared.books.Hand.TheVariants.{Idle as IdleHand, Doomed as DoomedHand, Runs}
use Rattle.stm_segment.specs.declared.books.Books.{Books}
use Rattle.stm_segment.specs.declared.cause.Cause.{Cause}
use Rattle.stm_segment.specs.CoreState.{Segment, Idle, Running, CoreState, set_segment, with_segment, with_conflict, first_cause}
use Rattle.stm_segment.specs.Books.{Worlds, is_running, runs_at, one_running, one_started, transaction, segment_of, core_of}
use Rattle.stm_core.specs.inner.Whole.{Whole as WholeBooks}
use Rattle.stm_core.specs.inner.Trying.{core_with}
use Rattle.stm_core.specs.Advanced.{with_cause}
use Rattle.stm_segment.proofs.Fits.{sum_set}
use Rattle.stm_core.proofs.Wholes.{Set, set_here, set_there, core_set}
use Rattle.stm_core.proofs.Advancing.{set_again}

-- a segment that is set to what it is
pub set_same : {S : Type 0} (k : ℕ) (s : Segment S) (f : ℕ → Segment S) → f k ≡ s → set_segment k s f ≡ f
set_same {S} k s f e q x = at x q
  where
    at : (x : ℕ) → set_segment k s f x ≡ f x
    at x = elim (cases_Bool (eqb x k)) [
      | inl y ↦ cond-true (eqb x k) s (f x) y ∙ sym e ∙ ap f (sym (eqb-true x k y))
      | inr n ↦ cond-false (eqb x k) s (f x) n
    ]

segments_only : {S : Type 0} (c : CoreState S) (f g : ℕ → Segment S) → f ≡ g →
    record c { segments = f } ≡ record c { segments = g }
segments_only c f g e i = record c { segments = e i }

module _ {S : Type 0} (w : Worlds) (k : ℕ) (m : Meaning) (b : Books S) (x : Work S) where
  -- the transaction runs on its segment
  pub runs_with : (core_with w k m b x).segments k ≡ Running (transaction w.own (m.part k) x)
  runs_with = cond-true (eqb k k) (Running (transaction w.own (m.part k) x)) ((core_of w m b).segments k)
      (eq-eqb k k refl)

  -- without it the segment is idle, as its hand is
  pub without : slice_get b.hands.items k ≡ Some IdleHand → core_of w m b ≡ with_segment k Idle (core_with w k m b x)
  without e =
      let c = core_of w m b in
      segments_only c c.segments (set_segment k Idle
      (set_segment k (Running (transaction w.own (m.part k) x)) c.segments))
      (sym (set_again k Idle (Running (transaction w.own (m.part k) x)) c.segments ∙
      set_same k Idle c.segments (ap (segment_of w.own (m.part k)) e)))

  -- after it lost
  pub lost_with : (f : Conflict) (c1 : CoreState S) → slice_get b.hands.items k ≡ Some IdleHand →
      c1 ≡ with_conflict f (core_of w m b) → c1 ≡ with_conflict f (with_segment k Idle (core_with w k m b x))
  lost_with f c1 e h = h ∙ ap (with_conflict f) (without e)

  -- after it was dropped for a cause
  pub failed_with : (y : Cause) (c1 : CoreState S) → slice_get b.hands.items k ≡ Some IdleHand →
      c1 ≡ with_cause y (core_of w m b) → c1 ≡ with_cause y (with_segment k Idle (core_with w k m b x))
  failed_with y c1 e h = h ∙ ap (with_cause y) (without e)

-- ---- out of the hand

module _ {S : Type 0} (k : ℕ) (m : Meaning) (b b1 : Books S) where
  -- the core with the transaction that was taken out is the core before
  pub core_taken : (w : Worlds) (x : Work S) → slice_get b.hands.items k ≡ Some (Runs x) → Set k IdleHand b b1 →
      core_with w k m b1 x ≡ core_of w m b
  core_taken w x e s =
      let t = Running (transaction w.own (m.part k) x) in
      let c = core_of w m b in
      ap (with_segment k t) (core_set k m b b1 w IdleHand s (slice_get_within b.hands.items k (Runs x) e))
      ∙ segments_only c (set_segment k t (set_segment k Idle c.segments)) c.segments
      (set_again k t Idle c.segments ∙ set_same k t c.segments (ap (segment_of w.own (m.part k)) e))

  -- a doomed segment is idle once its conflict was told
  pub undoomed : (f : Conflict) → WholeBooks m b → slice_get b.hands.items k ≡ Some (DoomedHand f) →
      Set k IdleHand b b1 → WholeBooks m b1
  undoomed f w e s =
      let lt = slice_get_within b.hands.items k (DoomedHand f) e in
      let here = set_here k m b b1 IdleHand s lt in
      let there = set_there k m b b1 IdleHand s in
      let running = sum_set one_running b.hands.items k (DoomedHand f) IdleHand e in
      let started = sum_set one_started b.hands.items k (DoomedHand f) IdleHand e in
      let sr : sum_by one_running b1.hands.items ≡ sum_by one_running (slice_set b.hands.items k IdleHand) =
      ap (sum_by one_running) s.hands in
      let ss : sum_by one_started b1.hands.items ≡ sum_by one_started (slice_set b.hands.items k IdleHand) =
      ap (sum_by one_started) s.hands in
      let hi : b1.history.room ≡ b.history.room = ap (λ (z : Books S). z.history.room) s.rest in
      let co : b1.conflicts.room ≡ b.conflicts.room = ap (λ (z : Books S). z.conflicts.room) s.rest in
      let th : b1.threads.room ≡ b.threads.room = ap (λ (z : Books S). z.threads.room) s.rest in
      let pe : b1.pending ≡ b.pending = ap (λ (z : Books S). z.pending) s.rest in
      let t = w.turns in let l = w.losses in let p = w.pending in let r = w.threads in
      record {
        hands = ap length s.hands ∙ length-set b.hands.items k IdleHand ∙ w.hands;
        holders = λ j a h. elim (cases_Bool (eqb j k)) [
          | inl y ↦ absurd (both_ways (runs_at b.hands.items j) (ap (runs_at b.hands.items) (eqb-true j k y) ∙
              ap is_running e) (w.holders j a h))
          | inr n ↦ ap is_running (there j (eqb-false j k n)) ∙ w.holders j a h
        ];
        works = λ j y h. elim (cases_Bool (eqb j k)) [
          | inl q ↦ absurd (let u : Some IdleHand ≡ Some (Runs y) = sym here ∙
              ap (slice_get b1.hands.items) (sym (eqb-true j k q)) ∙ h in cc)
          | inr n ↦ w.works j y (sym (there j (eqb-false j k n)) ∙ h)
        ];
        locked = w.locked;
        turns = omega (arith, running, sr, hi, t);
        losses = omega (arith, running, sr, co, l);
        pending = omega (arith, started, ss, pe, p);
        threads = omega (arith, th, pe, r);
      }

-- ---- a cause is kept

-- books with a cause kept
pub caused : {S : Type 0} (m : Meaning) (b b1 : Books S) → WholeBooks m b → b1 ≡ record b { cause = b1.cause } →
    WholeBooks m b1
caused {S} m b b1 f eb =
    let hs : b1.hands.items ≡ b.hands.items = ap (λ (z : Books S). z.hands.items) eb in
    let hi : b1.history.room ≡ b.history.room = ap (λ (z : Books S). z.history.room) eb in
    let co : b1.conflicts.room ≡ b.conflicts.room = ap (λ (z : Books S). z.conflicts.room) eb in
    let th : b1.threads.room ≡ b.threads.room = ap (λ (z : Books S). z.threads.room) eb in
    let pe : b1.pending ≡ b.pending = ap (λ (z : Books S). z.pending) eb in
    let sr : sum_by one_running b1.hands.items ≡ sum_by one_running b.hands.items = ap (sum_by one_running) hs in
    let ss : sum_by one_started b1.hands.items ≡ sum_by one_started b.hands.items = ap (sum_by one_started) hs in
    let t = f.turns in let l = f.losses in let d = f.pending in let r = f.threads in
    record {
      hands = ap length hs ∙ f.hands;
      holders = λ j a h. ap (λ z. runs_at z j) hs ∙ f.holders j a h;
      works = λ j x h. f.works j x (sym (ap (λ z. slice_get z j) hs) ∙ h);
      locked = f.locked;
      turns = omega (arith, sr, hi, t);
      losses = omega (arith, sr, co, l);
      pending = omega (arith, ss, pe, d);
      threads = omega (arith, th, pe, r);
    }

pub core_caused : {S : Type 0} (w : Worlds) (m : Meaning) (b b1 : Books S) (e : Cause) →
    b1 ≡ record b { cause = b1.cause } → b1.cause ≡ first_cause b.cause e →
    core_of w m b1 ≡ with_cause e (core_of w m b)
core_caused {S} w m b b1 e eb ec i = record {
  image = m.image;
  threads = ap (λ (z : Books S). z.threads.entries) eb i;
  world = w.committed;
  history = ap (λ (z : Books S). z.history.entries) eb i;
  conflicts = ap (λ (z : Books S). z.conflicts.entries) eb i;
  begun = ap (λ (z : Books S). z.begun) eb i;
  last = ap (λ (z : Books S). z.last) eb i;
  cause = ec i;
  segments = λ x. segment_of w.own (m.part x) (slice_get (ap (λ (z : Books S). z.hands.items) eb i) x);
}
