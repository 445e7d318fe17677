-- What a commit leaves of store and books, and the moves that it is.
use Rattle.std.proofs.Common.{◌≡◌, ◌≢◌, ◌<◌, ◌≤◌, ◌+◌, ◌-◌, ◌^◌, min, ℕ, zero, suc, true, false, cond, eqb, List, [], ◌∷◌, ◌++◌, length, slice_get, slice_set, Option, Some, None, Result, Ok, Err, refl, sym, ◌∙◌, ap, subst, inl, inr, arith, length-set}
use Rattle.std.specs.List.{sum_by, range_with_len}
use Rattle.std.proofs.lemmas.Bool.{cases_Bool, both_ways, or_left, or_right, eqb-true, eqb-false, ne_eqb, cond-true, cond-false}
use Rattle.std.proofs.lemmas.Option.{slice_get_within}
use Rattle.std.proofs.lemmas.List.Sums.{sum_by-append}
use Rattle.py_data.specs.World.{World}
use Rattle.py_data.specs.Sight.{mem}
use Rattle.py_data.specs.declared.stop.Conflict.{Conflict}
use Rattle.lock_run.specs.Prog.{Prog}
use Rattle.lock_run.specs.Machine.{Machine}
use Rattle.lock_run.specs.declared.turn.Turn.{Turn}
use Rattle.seg_store.specs.Meaning.{Part, Meaning, sees, holds}
use Rattle.seg_store.specs.Calls.{ended, after_publish}
use Rattle.seg_store.specs.Store.{IsStore}
use Rattle.stm_segment.specs.declared.books.Work.{Work}
use Rattle.stm_segment.specs.declared.books.Hand.{Hand}
use Rattle.stm_segment.specs.declared.books.Hand.TheVariants.{Idle as IdleHand, Doomed as DoomedHand, Runs}
use Rattle.stm_segment.specs.declared.books.Books.{Books}
use Rattle.stm_core.specs.declared.commit.Commit.{Commit}
use Rattle.stm_core.specs.declared.commit.Commit.TheVariants.{Committed as AtTurn, Nothing}
use Rattle.stm_segment.specs.CoreState.{no_world, Transaction, Segment, Idle, Doomed, Running, CoreState, set_segment, with_segment, with_conflict}
use Rattle.stm_core.specs.Good.{Good}
use Rattle.stm_core.specs.Moves.{Move, Drops, Loses, Next, published}
use Rattle.stm_segment.specs.Books.{Worlds, worlds_after, WorkFits, is_running, runs_at, one_running, one_started, is_lock, transaction, segment_of, core_of, Fit}
use Rattle.stm_core.specs.Passes.{met, doom_met, doom_one, doom_readers}
use Rattle.stm_core.specs.inner.Whole.{Whole}
use Rattle.stm_core.specs.inner.Trying.{core_with}
use Rattle.stm_core.specs.Outside.{Outer, InCore, Inner, IsInner, OuterLed, told_after}
use Rattle.stm_segment.specs.Devices.{DeviceState}
use Rattle.stm_core.specs.SaneCore.{StandsFor, LeadsBetween}
use Rattle.stm_core.specs.Begun.{CountsSteps}
use Rattle.stm_core.specs.Committed.{Beaten, CommitEnds, CommitOf, Committed}
use Rattle.stm_segment.proofs.Fits.{get_set_other, get_set_same, sum_set, seen_image}
use Rattle.stm_core.proofs.InnerMoves.{commit_led}
use Rattle.stm_core.proofs.StandsAgain.{stands_told}
use Rattle.stm_core.proofs.Wholes.{Set, core_set}
use Rattle.stm_core.proofs.Settling.{core_taken}

-- ---- publishing

-- the books of a transaction that is committed
pub record Adds {S : Type 0} (x : Work S) (b b1 : Books S) : Type 0 where
  pub rest : b1 ≡ record b { threads = b1.threads; pending = b1.pending; history = b1.history }
  pub threads : b1.threads.entries ≡ slice_set b.threads.entries x.thread x.state ++ x.progress.started
  pub thread_room : b.threads.room ≤ b1.threads.room + length x.progress.started
  pub pending : b1.pending + length x.progress.started ≡ b.pending
  pub history : b1.history.entries ≡ b.history.entries ++ record {
    thread = x.thread;
    steps = x.steps;
    names =
        x.progress.names;
  } ∷ []
  pub history_room : b.history.room ≤ b1.history.room + 1

module _ {S : Type 0} (k : ℕ) (m : Meaning) (b b1 : Books S) (x : Work S) where
  part_there : (j : ℕ) → j ≢ k → (after_publish k m).part j ≡ m.part j
  part_there j n = cond-false (eqb j k) (ended (m.part k)) (m.part j) (ne_eqb j k n)

  hands_same : Adds x b b1 → b1.hands.items ≡ b.hands.items
  hands_same a = ap (λ (z : Books S). z.hands.items) a.rest

  pub published_whole : (r : ℕ) → IsStore r m → Fit k m b x.progress → slice_get b.hands.items k ≡ Some IdleHand →
      Adds x b b1 → Whole (after_publish k m) b1
  published_whole r s f e a =
      let hs = hands_same a in
      let co : b1.conflicts.room ≡ b.conflicts.room = ap (λ (z : Books S). z.conflicts.room) a.rest in
      let sr : sum_by one_running b1.hands.items ≡ sum_by one_running b.hands.items = ap (sum_by one_running) hs in
      let ss : sum_by one_started b1.hands.items ≡ sum_by one_started b.hands.items = ap (sum_by one_started) hs in
      let t = f.turns in let l = f.losses in let d = f.pending in let h = f.threads in
      let tr = a.thread_room in let pe = a.pending in let hr = a.history_room in
      record {
        hands = ap length hs ∙ f.hands;
        holders = λ j i q. elim (cases_Bool (eqb j k)) [
          | inl y ↦ absurd (both_ways false refl
              (subst (λ (z : Part). holds z i ≡ true) (cond-true (eqb j k) (ended (m.part k)) (m.part j) y) q))
          | inr n ↦ ap (λ z. runs_at z j) hs ∙
              f.holders j i (eqb-false j k n)
              (subst (λ (z : Part). holds z i ≡ true) (part_there j (eqb-false j k n)) q)
        ];
        works = λ j y q. elim (cases_Bool (eqb j k)) [
          | inl z ↦ absurd (let w : slice_get b.hands.items k ≡ Some (Runs y) =
              ap (slice_get b.hands.items) (sym (eqb-true j k z)) ∙ sym (ap (λ u. slice_get u j) hs) ∙ q in
              let v : Some IdleHand ≡ Some (Runs y) = sym e ∙ w in cc)
          | inr n ↦ subst (λ (z : Part). WorkFits z y) (sym (part_there j (eqb-false j k n)))
              (f.works j y (sym (ap (λ u. slice_get u j) hs) ∙ q))
        ];
        locked = λ j i q. elim (cases_Bool (eqb j k)) [
          | inl y ↦ absurd (both_ways false refl
              (subst (λ (z : Part). mem i z.changed ≡ true) (cond-true (eqb j k) (ended (m.part k)) (m.part j) y) q))
          | inr n ↦ let p = part_there j (eqb-false j k n) in
              let c : mem i (m.part j).changed ≡ true = subst (λ (z : Part). mem i z.changed ≡ true) p q in
              let free = s.apart j k i (eqb-false j k n) (or_left (mem i (m.part j).changed) (mem i (m.part j).made) c)
              in
              subst (λ (z : Part). is_lock (sees m k i) (z.looked i) ≡ true) (sym p)
              (subst (λ o. is_lock o ((m.part j).looked i) ≡ true) (sym (seen_image r m k i s free))
              (f.locked j i c))
        ];
        turns = omega (arith, sr, t, hr);
        losses = omega (arith, sr, co, l);
        pending = omega (arith, ss, pe, d);
        threads = omega (arith, tr, pe, h);
      }

  pub core_published : (w : Worlds) → slice_get b.hands.items k ≡ Some IdleHand → Adds x b b1 →
      core_of (worlds_after w x) (after_publish k m) b1 ≡ published k (transaction w.own (m.part k) x)
      (core_with w k m b x)
  core_published w e a i = record {
    image = sees m k;
    threads = a.threads i;
    world = world_is i;
    history = a.history i;
    conflicts = ap (λ (z : Books S). z.conflicts.entries) a.rest i;
    begun = ap (λ (z : Books S). z.begun) a.rest i;
    last = ap (λ (z : Books S). z.last) a.rest i;
    cause = ap (λ (z : Books S). z.cause) a.rest i;
    segments = λ j. same j i;
  }
    where
      world_is : cond x.solo w.own w.committed ≡ cond x.solo (cond x.solo w.own no_world) w.committed
      world_is = elim x.solo as (λ z. cond z w.own w.committed ≡ cond z (cond z w.own no_world) w.committed)
          [ true ↦ refl | false ↦ refl ]

      same : (j : ℕ) → segment_of w.own ((after_publish k m).part j) (slice_get b1.hands.items j)
          ≡ set_segment k Idle (set_segment k (Running (transaction w.own (m.part k) x))
          (λ y. segment_of w.own (m.part y) (slice_get b.hands.items y))) j
      same j = elim (cases_Bool (eqb j k)) [
        | inl y ↦ ap (segment_of w.own ((after_publish k m).part j)) (ap (λ l. slice_get l j) (hands_same a) ∙
            ap (slice_get b.hands.items) (eqb-true j k y) ∙ e)
            ∙ sym (cond-true (eqb j k) Idle
            (cond (eqb j k) (Running (transaction w.own (m.part k) x))
            (segment_of w.own (m.part j) (slice_get b.hands.items j))) y)
        | inr n ↦ ap (λ p. segment_of w.own p (slice_get b1.hands.items j)) (part_there j (eqb-false j k n)) ∙
            ap (λ l. segment_of w.own (m.part j) (slice_get l j)) (hands_same a)
            ∙ sym (cond-false (eqb j k) Idle
            (cond (eqb j k) (Running (transaction w.own (m.part k) x))
            (segment_of w.own (m.part j) (slice_get b.hands.items j))) n
            ∙ cond-false (eqb j k) (Running (transaction w.own (m.part k) x))
            (segment_of w.own (m.part j) (slice_get b.hands.items j)) n)
      ]

-- while a transaction is out of its hand, the hand shows as idle
pub left_idle : {S : Type 0} (w : Worlds) (k : ℕ) (m : Meaning) (b : Books S) (x : Work S) →
    slice_get b.hands.items k ≡ Some IdleHand → core_of w m b ≡ with_segment k Idle (core_with w k m b x)
left_idle {S} w k m b x e i = record (core_of w m b) { segments = λ j. same j i }
  where
    same : (j : ℕ) → segment_of w.own (m.part j) (slice_get b.hands.items j) ≡ set_segment k Idle
        (set_segment k (Running (transaction w.own (m.part k) x))
        (λ y. segment_of w.own (m.part y) (slice_get b.hands.items y))) j
    same j = elim (cases_Bool (eqb j k)) [
      | inl y ↦ ap (segment_of w.own (m.part j)) (ap (slice_get b.hands.items) (eqb-true j k y) ∙ e) ∙
          sym (cond-true (eqb j k) Idle (cond (eqb j k) (Running (transaction w.own (m.part k) x))
          (segment_of w.own (m.part j) (slice_get b.hands.items j))) y)
      | inr n ↦ sym (cond-false (eqb j k) Idle
          (cond (eqb j k) (Running (transaction w.own (m.part k) x))
          (segment_of w.own (m.part j) (slice_get b.hands.items j))) n
          ∙ cond-false (eqb j k) (Running (transaction w.own (m.part k) x))
          (segment_of w.own (m.part j) (slice_get b.hands.items j)) n)
    ]

-- the second pass leaves the committed states and the history
pub dooms_keep : {S : Type 0} (k : ℕ) (x : Transaction S) (js : List ℕ) (c : CoreState S) →
    ((doom_readers k x js c).threads ≡ c.threads) × ((doom_readers k x js c).history ≡ c.history)
dooms_keep k x [] c = (refl, refl)
dooms_keep {S} k x (j ∷ js) c =
    let u = cond (eqb j k) c (doom_one k x j c (c.segments j)) in
    let r = dooms_keep k x js u in
    let q = elim (eqb j k) as (λ e. ((cond e c (doom_one k x j c (c.segments j))).threads ≡ c.threads) ×
    ((cond e c (doom_one k x j c (c.segments j))).history ≡ c.history))
    [ true ↦ (refl, refl) | false ↦ one (c.segments j) ] in
    (r.0 ∙ q.0, r.1 ∙ q.1)
  where
    met_keep : (y : Transaction S) (o : Option ℕ) →
        ((doom_met k x j y c o).threads ≡ c.threads) × ((doom_met k x j y c o).history ≡ c.history)
    met_keep y None = (refl, refl)
    met_keep y (Some a) = (refl, refl)

    one : (s : Segment S) → ((doom_one k x j c s).threads ≡ c.threads) × ((doom_one k x j c s).history ≡ c.history)
    one Idle = (refl, refl)
    one (Doomed f) = (refl, refl)
    one (Running y) = met_keep y (met x.changed y.looked)

-- the count of the history's steps, with one turn more
pub count_more : (spent : ℕ) (ts : List Turn) (t : Turn) → CountsSteps spent ts →
    CountsSteps (min (spent + t.steps) (2 ^ 64 - 1)) (ts ++ t ∷ [])
count_more spent ts t e =
    let s = sum_by-append (λ (u : Turn). u.steps) ts (t ∷ []) in
    grind (arith, e, s)

-- what publishing asks for holds again after the second pass
module _ {S : Type 0} (w : Worlds) (k : ℕ) (m m1 : Meaning) (b b1 : Books S) (x : Work S)
    (core : core_with w k m1 b1 x ≡ doom_readers k (transaction w.own (m.part k) x) (range_with_len 0 m.segments)
    (core_with w k m b x)) where
  still : (b1.threads.entries ≡ b.threads.entries) × (b1.history.entries ≡ b.history.entries)
  still = let q = dooms_keep k (transaction w.own (m.part k) x) (range_with_len 0 m.segments) (core_with w k m b x) in
      (ap (λ (z : CoreState S). z.threads) core ∙ q.0, ap (λ (z : CoreState S). z.history) core ∙ q.1)

  pub thread_still : x.thread < length b.threads.entries → x.thread < length b1.threads.entries
  thread_still lt = subst (λ l. x.thread < length l) (sym still.0) lt

  pub count_still : (spent spent1 : ℕ) → spent1 ≡ spent → CountsSteps spent b.history.entries →
      CountsSteps spent1 b1.history.entries
  count_still spent spent1 same h = same ∙ subst (λ l. CountsSteps spent l) (sym still.1) h

-- ---- a transaction taken out of its hand

module _ {S : Type 0} (k : ℕ) (m : Meaning) (b b1 : Books S) where
  -- a hand in which no transaction runs is emptied
  pub emptied : (o : Hand S) → is_running (Some o) ≡ false → one_running o ≡ 0 → one_started o ≡ 0 → Whole m b →
      slice_get b.hands.items k ≡ Some o → Set k IdleHand b b1 → Whole m b1
  emptied o quiet one two h e s =
      let lt = slice_get_within b.hands.items k o e in
      let here : slice_get b1.hands.items k ≡ Some IdleHand = ap (λ l. slice_get l k) s.hands ∙
      get_set_same b.hands.items k IdleHand lt in
      let there : (j : ℕ) → j ≢ k → slice_get b1.hands.items j ≡ slice_get b.hands.items j = λ j n.
      ap (λ l. slice_get l j) s.hands ∙ get_set_other b.hands.items k j IdleHand (λ q. n (sym q)) in
      let running = sum_set one_running b.hands.items k o IdleHand e in
      let started = sum_set one_started b.hands.items k o IdleHand e in
      let sr : sum_by one_running b1.hands.items ≡ sum_by one_running (slice_set b.hands.items k IdleHand) =
      ap (sum_by one_running) s.hands in
      let ss : sum_by one_started b1.hands.items ≡ sum_by one_started (slice_set b.hands.items k IdleHand) =
      ap (sum_by one_started) s.hands in
      let hi : b1.history.room ≡ b.history.room = ap (λ (z : Books S). z.history.room) s.rest in
      let co : b1.conflicts.room ≡ b.conflicts.room = ap (λ (z : Books S). z.conflicts.room) s.rest in
      let th : b1.threads.room ≡ b.threads.room = ap (λ (z : Books S). z.threads.room) s.rest in
      let pe : b1.pending ≡ b.pending = ap (λ (z : Books S). z.pending) s.rest in
      let t = h.turns in let l = h.losses in let p = h.pending in let r = h.threads in
      let not_k : (j : ℕ) → runs_at b.hands.items j ≡ true → j ≢ k = λ j ri q.
      both_ways (runs_at b.hands.items j) (ap (runs_at b.hands.items) q ∙ ap is_running e ∙ quiet) ri in
      let not_k1 : (j : ℕ) → runs_at b1.hands.items j ≡ true → j ≢ k = λ j ri q.
      both_ways (runs_at b1.hands.items j) (ap (runs_at b1.hands.items) q ∙ ap is_running here) ri in
      record {
        hands = ap length s.hands ∙ length-set b.hands.items k IdleHand ∙ h.hands;
        holders = λ j a q. let ri = h.holders j a q in ap is_running (there j (not_k j ri)) ∙ ri;
        works = λ j y q. let n = not_k1 j (ap is_running q) in h.works j y (sym (there j n) ∙ q);
        locked = h.locked;
        turns = omega (arith, one, running, sr, hi, t);
        losses = omega (arith, one, running, sr, co, l);
        pending = omega (arith, two, started, ss, pe, p);
        threads = omega (arith, th, pe, r);
      }

  module _ (x : Work S) (e : slice_get b.hands.items k ≡ Some (Runs x)) (s : Set k IdleHand b b1) where
    -- its thread is there
    pub thread_there : (p : Prog S) (start : Machine S) (most : ℕ) (w : Worlds) → Good p start most (core_of w m b) →
        x.thread < length b1.threads.entries
    thread_there p start most w g =
        let st = g.stands k (transaction w.own (m.part k) x) (ap (segment_of w.own (m.part k)) e) in
        let lt = slice_get_within b.threads.entries x.thread st.before st.is in
        subst (λ (l : List S). x.thread < length l) (sym (ap (λ (z : Books S). z.threads.entries) s.rest)) lt

    -- its number is no other's
    pub number_alone : (p : Prog S) (start : Machine S) (most : ℕ) (w : Worlds) → Good p start most (core_of w m b) →
        (j : ℕ) (y : Work S) → slice_get b1.hands.items j ≡ Some (Runs y) → y.begun ≢ x.begun
    number_alone p start most w g j y h q =
        let here : slice_get b1.hands.items k ≡ Some IdleHand = ap (λ l. slice_get l k) s.hands ∙
        get_set_same b.hands.items k IdleHand (slice_get_within b.hands.items k (Runs x) e) in
        let n : k ≢ j = λ d. (let u : Some IdleHand ≡ Some (Runs y) = sym here ∙ ap (slice_get b1.hands.items) d ∙ h in
        cc) in
        let there : slice_get b.hands.items j ≡ Some (Runs y) =
        sym (ap (λ l. slice_get l j) s.hands ∙ get_set_other b.hands.items k j IdleHand n) ∙ h in
        (g.apart k j (transaction w.own (m.part k) x) (transaction w.own (m.part j) y) n
        (ap (segment_of w.own (m.part k)) e) (ap (segment_of w.own (m.part j)) there)).begun (sym q)

    -- what the commit of the transaction makes of the core is what the commit of its segment makes of it
    pub committed_taken : (p : Prog S) (w : Worlds) (n : ℕ) (r : Result Commit Conflict) (c1 : CoreState S) →
        CommitEnds p k n (transaction w.own (m.part k) x) r (core_with w k m b1 x) c1 →
        Committed p k n r (core_of w m b) c1
    committed_taken p w n r c1 h =
        subst (λ (z : Segment S). CommitOf p k n z r (core_of w m b) c1) (sym (ap (segment_of w.own (m.part k)) e))
        (subst (λ (c : CoreState S). CommitEnds p k n (transaction w.own (m.part k) x) r c c1)
        (core_taken k m b b1 w x e s) h)

  pub committed_doomed : (p : Prog S) (f : Conflict) → slice_get b.hands.items k ≡ Some (DoomedHand f) →
      Set k IdleHand b b1 → (w : Worlds) (n : ℕ) → Committed p k n (Err f) (core_of w m b) (core_of w m b1)
  committed_doomed p f e s w n =
      subst (λ (z : Segment S). CommitOf p k n z (Err f) (core_of w m b) (core_of w m b1))
      (sym (ap (segment_of w.own (m.part k)) e))
      (refl, core_set k m b b1 w IdleHand s (slice_get_within b.hands.items k (DoomedHand f) e))

-- ---- a commit keeps the core good

pub mem_range : (a n j : ℕ) → a ≤ j → j < a + n → mem j (range_with_len a n) ≡ true
mem_range a zero j le lt = absurd (omega arith)
mem_range a (suc n) j le lt = elim (cases_Bool (eqb j a)) [
  | inl y ↦ or_left (eqb j a) (mem j (range_with_len (a + 1) n)) y
  | inr q ↦ let d = eqb-false j a q in or_right (eqb j a) (mem j (range_with_len (a + 1) n))
      (mem_range (a + 1) n j (omega arith) (omega arith))
]

-- a call of commit is a list of moves, which tells the devices nothing
module _ {S : Type 0} (p : Prog S) (most k n : ℕ) (o : Outer S) (within : (j : ℕ) (y : Transaction S) →
    o.core.segments j ≡ Running y → j < n) where
  one_move : (m : Move S) (c1 : CoreState S) → Next p most o.core m c1 → IsInner m → ((w : World) → told_after m w ≡ w)
      → OuterLed p most o (record o { core = c1 })
  one_move m c1 h i t = (
    Inner m ∷ [],
    (
      record o { core = c1 },
      (c1, h, i, (λ z. record o { core = c1; told = sym (t o.told) z })),
      refl,
    ),
  )

  lost_led : (x : Transaction S) (f : Conflict) → Beaten p k x f o.core →
      OuterLed p most o (record o { core = with_conflict f (with_segment k Idle o.core) })
  lost_led x f h = one_move (Loses f) (with_conflict f (with_segment k Idle o.core)) (
    h.stands,
    ap (λ i. with_conflict f (with_segment i Idle o.core)) (sym h.writer) ∙
        ap (λ l. with_conflict f (with_segment (cond (eqb l 0) f.writer f.other).segment Idle o.core)) (sym h.lost),
  ) tt
      (λ w. refl)

  ends_led : (x : Transaction S) (r : Result Commit Conflict) (c1 : CoreState S) → o.core.segments k ≡ Running x →
      CommitEnds p k n x r o.core c1 → OuterLed p most o (record o { core = c1 })
  ends_led x (Ok Nothing) c1 is h = one_move (Drops k) c1 (
    (λ y e s. (let q : x ≡ y = (let u : Running x ≡ Running y = sym is ∙ e in cc) in
        ap (λ (z : Transaction S). z.steps) (sym q) ∙ h.0)),
    h.1,
  ) tt (λ w. refl)
  ends_led x (Ok (AtTurn i)) c1 is h = subst (λ c. OuterLed p most o (record o { core = c })) (sym h.3)
      (commit_led p most k x (range_with_len 0 n) o is h.0 h.1
      (λ j y e. mem_range 0 n j (omega arith) (let lt = within j y e in omega (arith, lt))))
  ends_led x (Err f) c1 is h = subst (λ c. OuterLed p most o (record o { core = c })) (sym h.2) (lost_led x f h.1)

  pub committed_led : (r : Result Commit Conflict) (c1 : CoreState S) → Committed p k n r o.core c1 →
      OuterLed p most o (record o { core = c1 })
  committed_led r c1 h = go (o.core.segments k) refl h
    where
      go : (s : Segment S) → o.core.segments k ≡ s → CommitOf p k n s r o.core c1 →
          OuterLed p most o (record o { core = c1 })
      go Idle e q = absurd q
      go (Doomed f) e q = one_move (Drops k) c1 (
        (λ y d s. absurd (let u : Doomed f ≡ Running y = sym e ∙ d in cc)),
        q.1,
      ) tt (λ w. refl)
      go (Running x) e q = ends_led x r c1 e q

-- a segment that runs has a hand
pub running_within : {S : Type 0} (w : Worlds) (m : Meaning) (b : Books S) (j : ℕ) (y : Transaction S) →
    length b.hands.items ≡ m.segments → (core_of w m b).segments j ≡ Running y → j < m.segments
running_within {S} w m b j y len e = go (slice_get b.hands.items j) refl
  where
    go : (o : Option (Hand S)) → slice_get b.hands.items j ≡ o → j < m.segments
    go None q = absurd (let u : Idle ≡ Running y = sym (ap (segment_of w.own (m.part j)) q) ∙ e in cc)
    go (Some h) q = subst (λ n. j < n) len (slice_get_within b.hands.items j h q)

pub stands_within : {S : Type 0} (p : Prog S) (most : ℕ) (first d : DeviceState) (m : Meaning) (b : Books S)
    (o : Outer S) → length b.hands.items ≡ m.segments → StandsFor p most first d m b o → (j : ℕ) (y : Transaction S) →
    o.core.segments j ≡ Running y → j < m.segments
stands_within p most first d m b o len s j y e =
    running_within s.worlds m b j y len (subst (λ (c : CoreState _). c.segments j ≡ Running y) s.core e)

pub committed_stands : {S : Type 0} (p : Prog S) (most k : ℕ) (first d : DeviceState) (m m1 : Meaning) (b b1 : Books S)
    (r : Result Commit Conflict) → length b.hands.items ≡ m.segments
    → ((w : Worlds) → (w1 : Worlds) × Committed p k m.segments r (core_of w m b) (core_of w1 m1 b1)) →
    b1.broken ≡ b.broken → LeadsBetween (StandsFor p most first d m b) (StandsFor p most first d m1 b1)
    (InCore (Committed p k m.segments r))
committed_stands p most k first d m m1 b b1 r len h same o s =
    let z = h s.worlds in
    let o1 = record o { core = core_of z.0 m1 b1 } in
    let made : Committed p k m.segments r o.core (core_of z.0 m1 b1) =
    subst (λ c. Committed p k m.segments r c (core_of z.0 m1 b1)) (sym s.core) z.1 in
    let ms = committed_led p most k m.segments o (stands_within p most first d m b o len s) r (core_of z.0 m1 b1) made
    in
    (o1, stands_told p most first d m m1 b b1 o s z.0 same ms.0 ms.1, (made, refl))
