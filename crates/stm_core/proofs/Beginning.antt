-- How a transaction begins, as store and books show it, and the moves that it is.
use Rattle.std.proofs.Common.{◌≡◌, ◌≢◌, ◌<◌, ◌≤◌, ◌+◌, ◌-◌, ◌^◌, min, ℕ, zero, suc, true, false, cond, eqb, List, [], ◌∷◌, ◌++◌, length, take, slice_get, slice_set, Option, Some, None, Result, Ok, Err, is_some, refl, sym, ◌∙◌, ap, subst, inl, inr, arith, length-set}
use Rattle.std.specs.List.{sum_by}
use Rattle.std.proofs.lemmas.Bool.{cases_Bool, both_ways, or_left, or_parts, eqb-true, eqb-false, eq-eqb, ne_eqb, cond-true, cond-false}
use Rattle.std.proofs.lemmas.Option.{slice_get_within}
use Rattle.py_data.specs.Heap.{Rec, Heap}
use Rattle.py_data.specs.Collection.{places}
use Rattle.py_data.specs.Sight.{mem, no_marks}
use Rattle.lock_run.specs.Client.{StaysSound, Waiting, Going}
use Rattle.lock_run.specs.declared.client.Life.TheVariants.{Lives}
use Rattle.lock_run.specs.Prog.{Prog}
use Rattle.lock_run.specs.RunState.{first_world}
use Rattle.lock_run.specs.Machine.{begin_with}
use Rattle.seg_store.specs.Meaning.{Part, Meaning, holds}
use Rattle.seg_store.specs.Calls.{begun, after_begin}
use Rattle.seg_store.specs.Store.{IsStore}
use Rattle.stm_segment.specs.declared.cause.Cause.{Cause}
use Rattle.stm_segment.specs.declared.cause.Cause.TheVariants.{OutOfMemory as NoMemoryLeft}
use Rattle.stm_segment.specs.declared.books.Work.{Work}
use Rattle.stm_segment.specs.declared.books.Hand.TheVariants.{Idle as IdleHand, Runs}
use Rattle.stm_segment.specs.declared.books.Books.{Books}
use Rattle.stm_core.specs.declared.begin.BeginError.{BeginError}
use Rattle.stm_core.specs.declared.begin.BeginError.TheVariants.{Over, Busy, NotReady, AtBudget, OutOfMemory}
use Rattle.stm_segment.specs.CoreState.{no_world, Transaction, Running, CoreState, committed, set_segment, fresh, first_cause}
use Rattle.stm_core.specs.Good.{Good}
use Rattle.stm_core.specs.Moves.{Begins, Keeps, begun_at}
use Rattle.stm_segment.specs.Books.{Worlds, WorkFits, is_running, runs_at, one_running, one_started, is_lock, transaction, segment_of, core_of}
use Rattle.stm_core.specs.inner.Whole.{Whole}
use Rattle.stm_core.specs.Outside.{Outer, InCore, OuterMove, Inner, OuterFollows}
use Rattle.stm_segment.specs.Devices.{DeviceState}
use Rattle.stm_core.specs.SaneCore.{StandsFor, SaneCore, LeadsBetween}
use Rattle.stm_core.specs.Begun.{IsReady, IsUnready, UnreadyAt, Begun, IsFresh}
use Rattle.stm_segment.proofs.Fits.{get_set_other, get_set_same, sum_set}
use Rattle.stm_core.proofs.StandsAgain.{stands_told}
use Rattle.stm_core.proofs.Soundness.{sound_run}
use Rattle.stm_core.proofs.Committing.{running_work}

-- ---- threads

pub beyond : {X : Type 0} (xs : List X) (i : ℕ) → length xs ≤ i → slice_get xs i ≡ None
beyond [] i h = refl
beyond (x ∷ xs) zero h = absurd (omega arith)
beyond (x ∷ xs) (suc i) h = beyond xs i (omega arith)

-- the committed states may stand over the image
pub sound_core : {S : Type 0} (p : Prog S) (sound : Heap → List S → Type 0) (law : StaysSound p sound) (most : ℕ)
    (first d : DeviceState) (m : Meaning) (b : Books S) → SaneCore p sound most first d m b →
    sound m.image b.threads.entries
sound_core p sound law most first d m b s =
    let w = s.stands.worlds in
    let g = subst (Good p (begin_with p (first_world first.input first.ends)) most) s.stands.core s.stands.kept.good in
    sound_run p sound law (begin_with p (first_world first.input first.ends)) (committed (core_of w m b))
    b.history.entries
    s.first_sound g.run

module _ {S : Type 0} (p : Prog S) (w : Worlds) (m : Meaning) (b : Books S) (t : ℕ) where
  pub ready : (q : S) → slice_get b.threads.entries t ≡ Some q → p.life q ≡ Lives →
      ((j : ℕ) (y : Work S) → slice_get b.hands.items j ≡ Some (Runs y) → t ≢ y.thread) → Going (p.row q) m.image →
      IsReady p (core_of w m b) t
  ready q is lives rests goes = record {
    state = q;
    is = is;
    lives = lives;
    rests = λ j y e. let r = running_work w (m.part j) (slice_get b.hands.items j) y e in
        subst (λ (z : Transaction S). t ≢ z.thread) (sym r.2) (rests j r.0 r.1);
    goes = goes;
  }

  pub unready_none : length b.threads.entries ≤ t → IsUnready p (core_of w m b) t
  unready_none h = subst (UnreadyAt p (core_of w m b) t) (sym (beyond b.threads.entries t h)) tt

  pub unready_runs : t < length b.threads.entries → (j : ℕ) (y : Work S) → slice_get b.hands.items j ≡ Some (Runs y) →
      y.thread ≡ t → IsUnready p (core_of w m b) t
  unready_runs lt j y e h = go (slice_get b.threads.entries t)
    where
      go : (o : Option S) → UnreadyAt p (core_of w m b) t o
      go None = tt
      go (Some q) = inr (inl (j, transaction w.own (m.part j) y, ap (segment_of w.own (m.part j)) e, h))

  pub unready_ended : (q : S) → slice_get b.threads.entries t ≡ Some q → p.life q ≢ Lives →
      IsUnready p (core_of w m b) t
  unready_ended q is n = subst (UnreadyAt p (core_of w m b) t) (sym is) (inl n)

  pub unready_waits : (q : S) → slice_get b.threads.entries t ≡ Some q → Waiting (p.row q) m.image →
      IsUnready p (core_of w m b) t
  unready_waits q is h = subst (UnreadyAt p (core_of w m b) t) (sym is) (inr (inr h))

-- ---- the budget

pub spent_yes : (spent budget n : ℕ) → spent ≡ min n (2 ^ 64 - 1) → budget ≤ spent → budget ≤ n
spent_yes spent budget n e h = grind (arith, e, h)

pub spent_not : (spent budget n : ℕ) → spent ≡ min n (2 ^ 64 - 1) → budget < 2 ^ 64 → spent < budget → n < budget
spent_not spent budget n e f h = grind (arith, e, f, h)

-- ---- a transaction begins

pub mem_none : (xs : List ℕ) → ((a : ℕ) → mem a xs ≡ false) → xs ≡ []
mem_none [] h = refl
mem_none (x ∷ xs) h = absurd (both_ways (mem x (x ∷ xs)) (h x) (or_left (eqb x x) (mem x xs) (eq-eqb x x refl)))

-- the books of a transaction that begins
pub record Starts {S : Type 0} (k : ℕ) (x : Work S) (b b1 : Books S) : Type 0 where
  pub rest : b1 ≡ record b { hands = b1.hands; begun = b.begun + 1; last = Some x.thread }
  pub hands : b1.hands.items ≡ slice_set b.hands.items k (Runs x)

-- a segment whose hand is empty holds nothing
module _ {S : Type 0} (k : ℕ) (m : Meaning) (b : Books S) (h : Whole m b)
    (e : slice_get b.hands.items k ≡ Some IdleHand) where
  pub holds_none : (a : ℕ) → holds (m.part k) a ≡ false
  holds_none a = elim (cases_Bool (holds (m.part k) a)) [
    | inl y ↦ absurd (both_ways (runs_at b.hands.items k) (ap is_running e) (h.holders k a y))
    | inr n ↦ n
  ]

  pub changed_none : (m.part k).changed ≡ []
  changed_none = mem_none (m.part k).changed
      (λ a. (or_parts (mem a (m.part k).changed) (mem a (m.part k).made) (holds_none a)).0)

  pub made_none : (m.part k).made ≡ []
  made_none = mem_none (m.part k).made (λ a.
      (or_parts (mem a (m.part k).changed) (mem a (m.part k).made) (holds_none a)).1)

  module _ (r : ℕ) (b1 : Books S) (x : Work S) (st : IsStore r m) (f : IsFresh x.thread b x) (s : Starts k x b b1) where
    lt : k < length b.hands.items
    lt = slice_get_within b.hands.items k IdleHand e

    here : slice_get b1.hands.items k ≡ Some (Runs x)
    here = ap (λ l. slice_get l k) s.hands ∙ get_set_same b.hands.items k (Runs x) lt

    there : (j : ℕ) → j ≢ k → slice_get b1.hands.items j ≡ slice_get b.hands.items j
    there j n = ap (λ l. slice_get l j) s.hands ∙ get_set_other b.hands.items k j (Runs x) (λ q. n (sym q))

    kept_none : (m.part k).kept_made ≡ []
    kept_none = let q = st.front k in front (m.part k).kept_made q.0 (sym made_none ∙ q.1)
      where
        front : (xs ys : List ℕ) → [] ≡ xs ++ ys → xs ≡ []
        front [] ys q = refl
        front (y ∷ xs) ys q = absurd cc

    changes_none : (a : ℕ) → (m.part k).changes a ≡ None
    changes_none a = none_of ((m.part k).changes a) (st.changes k a ∙ holds_none a)
      where
        none_of : (o : Option Rec) → is_some o ≡ false → o ≡ None
        none_of None q = refl
        none_of (Some y) q = absurd (both_ways true q refl)

    part_here : (after_begin k m).part k ≡ begun (m.part k)
    part_here = cond-true (eqb k k) (begun (m.part k)) (m.part k) (eq-eqb k k refl)

    part_there : (j : ℕ) → j ≢ k → (after_begin k m).part j ≡ m.part j
    part_there j n = cond-false (eqb j k) (begun (m.part k)) (m.part j) (ne_eqb j k n)

    -- its part holds what it held
    holds_same : (j a : ℕ) → holds ((after_begin k m).part j) a ≡ holds (m.part j) a
    holds_same j a = elim (cases_Bool (eqb j k)) [
      | inl y ↦ let q : j ≡ k = eqb-true j k y in subst (λ i. holds ((after_begin k m).part i) a ≡ holds (m.part i) a)
          (sym q) (ap (λ (z : Part). holds z a) part_here)
      | inr n ↦ ap (λ (z : Part). holds z a) (part_there j (eqb-false j k n))
    ]

    pub begun_whole : sum_by one_running b.hands.items < b.history.room →
        sum_by one_running b.hands.items < b.conflicts.room → Whole (after_begin k m) b1
    begun_whole ht hl =
        let running = sum_set one_running b.hands.items k IdleHand (Runs x) e in
        let started = sum_set one_started b.hands.items k IdleHand (Runs x) e in
        let sr : sum_by one_running b1.hands.items ≡ sum_by one_running (slice_set b.hands.items k (Runs x)) =
        ap (sum_by one_running) s.hands in
        let ss : sum_by one_started b1.hands.items ≡ sum_by one_started (slice_set b.hands.items k (Runs x)) =
        ap (sum_by one_started) s.hands in
        let hi : b1.history.room ≡ b.history.room = ap (λ (z : Books S). z.history.room) s.rest in
        let co : b1.conflicts.room ≡ b.conflicts.room = ap (λ (z : Books S). z.conflicts.room) s.rest in
        let th : b1.threads.room ≡ b.threads.room = ap (λ (z : Books S). z.threads.room) s.rest in
        let pe : b1.pending ≡ b.pending = ap (λ (z : Books S). z.pending) s.rest in
        let no : length x.progress.started ≡ 0 = ap length f.started in
        let p = h.pending in let r = h.threads in
        record {
          hands = ap length s.hands ∙ length-set b.hands.items k (Runs x) ∙ h.hands;
          holders = λ j a q. elim (cases_Bool (eqb j k)) [
            | inl y ↦ ap (runs_at b1.hands.items) (eqb-true j k y) ∙ ap is_running here
            | inr n ↦ ap is_running (there j (eqb-false j k n)) ∙ h.holders j a (sym (holds_same j a) ∙ q)
          ];
          works = λ j y q. elim (cases_Bool (eqb j k)) [
            | inl z ↦ let d : j ≡ k = eqb-true j k z in
                let same : x ≡ y = same_work x y (sym here ∙ ap (slice_get b1.hands.items) (sym d) ∙ q) in
                subst (λ (u : Work S). WorkFits ((after_begin k m).part j) u) same
                (subst (λ i. WorkFits ((after_begin k m).part i) x) (sym d) own)
            | inr n ↦ let d = eqb-false j k n in subst (λ (z : Part). WorkFits z y) (sym (part_there j d))
                (h.works j y (sym (there j d) ∙ q))
          ];
          locked = λ j a q. elim (cases_Bool (eqb j k)) [
            | inl y ↦ absurd (both_ways false refl
                (sym (ap (mem a) changed_none) ∙ sym (ap (λ (z : Part). mem a z.changed) part_here) ∙
                subst (λ i. mem a ((after_begin k m).part i).changed ≡ true) (eqb-true j k y) q))
            | inr n ↦ let d = part_there j (eqb-false j k n) in
                subst (λ (z : Part). is_lock (m.image a) (z.looked a) ≡ true) (sym d)
                (h.locked j a (subst (λ (z : Part). mem a z.changed ≡ true) d q))
          ];
          turns = omega (arith, running, sr, hi, ht);
          losses = omega (arith, running, sr, co, hl);
          pending = omega (arith, started, ss, pe, no, p);
          threads = omega (arith, th, pe, r);
        }
      where
        same_work : (y z : Work S) → Some (Runs y) ≡ Some (Runs z) → y ≡ z
        same_work y z q = cc

        own : WorkFits ((after_begin k m).part k) x
        own = subst (λ (z : Part). WorkFits z x) (sym part_here) (record {
          names = ap places f.names ∙ sym made_none;
          kept_names = ap (λ xs. places (take x.progress.kept_names xs)) f.names ∙
              ap (λ n. places (take n [])) f.kept_names ∙ sym kept_none;
          within = let q = f.kept_names in omega (arith, q);
        })

    pub core_begun : (w : Worlds) → core_of w (after_begin k m) b1 ≡ begun_at k x.thread x.state (core_of w m b)
    core_begun w i = record {
      image = m.image;
      threads = ap (λ (z : Books S). z.threads.entries) s.rest i;
      world = w.committed;
      history = ap (λ (z : Books S). z.history.entries) s.rest i;
      conflicts = ap (λ (z : Books S). z.conflicts.entries) s.rest i;
      begun = (ap (λ (z : Books S). z.begun) s.rest ∙ next) i;
      last = ap (λ (z : Books S). z.last) s.rest i;
      cause = ap (λ (z : Books S). z.cause) s.rest i;
      segments = λ j. same j i;
    }
      where
        next : b.begun + 1 ≡ suc b.begun
        next = omega arith

        new : Transaction S
        new = fresh (core_of w m b) x.thread x.state

        own : transaction w.own (begun (m.part k)) x ≡ new
        own i = record {
          thread = x.thread;
          steps = f.steps i;
          state = x.state;
          changes = λ a. changes_none a i;
          changed = changed_none i;
          looked = no_marks;
          made = f.names i;
          started = f.started i;
          begun = f.begun i;
          solo = f.solo i;
          world = cond (f.solo i) w.own no_world;
        }

        same : (j : ℕ) → segment_of w.own ((after_begin k m).part j) (slice_get b1.hands.items j) ≡ set_segment k
            (Running new) (λ y. segment_of w.own (m.part y) (slice_get b.hands.items y)) j
        same j = elim (cases_Bool (eqb j k)) [
          | inl y ↦ let d : j ≡ k = eqb-true j k y in
              ap (λ z. segment_of w.own ((after_begin k m).part z) (slice_get b1.hands.items z)) d ∙
              ap (segment_of w.own ((after_begin k m).part k)) here ∙
              ap (λ p. Running (transaction w.own p x)) part_here ∙ ap Running own
              ∙ sym (cond-true (eqb j k) (Running new) (segment_of w.own (m.part j) (slice_get b.hands.items j)) y)
          | inr n ↦ let d = eqb-false j k n in
              ap (λ p. segment_of w.own p (slice_get b1.hands.items j)) (part_there j d) ∙
              ap (segment_of w.own (m.part j)) (there j d) ∙
              sym (cond-false (eqb j k) (Running new) (segment_of w.own (m.part j) (slice_get b.hands.items j)) n)
        ]

-- ---- what `begin` answers

-- books in which room was made
pub record Rooms {S : Type 0} (b b1 : Books S) : Type 0 where
  pub rest : b1 ≡ record b { history = b1.history; conflicts = b1.conflicts }
  pub turns : b1.history.entries ≡ b.history.entries
  pub turns_kept : b.history.room ≤ b1.history.room
  pub losses : b1.conflicts.entries ≡ b.conflicts.entries
  pub losses_kept : b.conflicts.room ≤ b1.conflicts.room

module _ {S : Type 0} (m : Meaning) (b b1 : Books S) (r : Rooms b b1) where
  roomy_hands : b1.hands.items ≡ b.hands.items
  roomy_hands = ap (λ (z : Books S). z.hands.items) r.rest

  roomy_whole : Whole m b → Whole m b1
  roomy_whole h =
      let hs = roomy_hands in
      let th : b1.threads.room ≡ b.threads.room = ap (λ (z : Books S). z.threads.room) r.rest in
      let pe : b1.pending ≡ b.pending = ap (λ (z : Books S). z.pending) r.rest in
      let sr : sum_by one_running b1.hands.items ≡ sum_by one_running b.hands.items = ap (sum_by one_running) hs in
      let ss : sum_by one_started b1.hands.items ≡ sum_by one_started b.hands.items = ap (sum_by one_started) hs in
      let t = h.turns in let l = h.losses in let d = h.pending in let q = h.threads in
      let tk = r.turns_kept in let lk = r.losses_kept in
      record {
        hands = ap length hs ∙ h.hands;
        holders = λ j a e. ap (λ z. runs_at z j) hs ∙ h.holders j a e;
        works = λ j x e. h.works j x (sym (ap (λ z. slice_get z j) hs) ∙ e);
        locked = h.locked;
        turns = omega (arith, sr, t, tk);
        losses = omega (arith, sr, l, lk);
        pending = omega (arith, ss, pe, d);
        threads = omega (arith, th, pe, q);
      }

  core_roomy : (w : Worlds) → core_of w m b1 ≡ core_of w m b
  core_roomy w i = record {
    image = m.image;
    threads = ap (λ (z : Books S). z.threads.entries) r.rest i;
    world = w.committed;
    history = r.turns i;
    conflicts = r.losses i;
    begun = ap (λ (z : Books S). z.begun) r.rest i;
    last = ap (λ (z : Books S). z.last) r.rest i;
    cause = ap (λ (z : Books S). z.cause) r.rest i;
    segments = λ j. segment_of w.own (m.part j) (slice_get (ap (λ (z : Books S). z.hands.items) r.rest i) j);
  }

pub rooms_made : {S : Type 0} (b b1 : Books S) → b1 ≡ record b { history = b1.history; conflicts = b1.conflicts } →
    b1.history.entries ≡ b.history.entries → b.history.room ≤ b1.history.room →
    b1.conflicts.entries ≡ b.conflicts.entries → b.conflicts.room ≤ b1.conflicts.room → Rooms b b1
rooms_made b b1 rest turns turns_kept losses losses_kept =
    record { rest = rest; turns = turns; turns_kept = turns_kept; losses = losses; losses_kept = losses_kept }

-- the same with a store, which stays
module _ {S St : Type 0} (meaning : St → Meaning) (s s1 : St) (b b1 : Books S) (same : s1 ≡ s) (r : Rooms b b1) where
  pub whole_roomy : Whole (meaning s) b → Whole (meaning s1) b1
  whole_roomy h = subst (λ z. Whole (meaning z) b1) (sym same) (roomy_whole (meaning s) b b1 r h)

  pub core_roomy_in : (w : Worlds) → core_of w (meaning s1) b1 ≡ core_of w (meaning s) b
  core_roomy_in w = ap (λ z. core_of w (meaning z) b1) same ∙ core_roomy (meaning s) b b1 r w

-- a cause is kept
pub caused_whole : {S : Type 0} (m : Meaning) (b : Books S) (e : Option Cause) → Whole m b →
    Whole m (record b { cause = e })
caused_whole m b e h = record {
  hands = h.hands;
  holders = h.holders;
  works = h.works;
  locked = h.locked;
  turns = h.turns;
  losses = h.losses;
  pending = h.pending;
  threads = h.threads;
}

-- the state that a ready thread has is the one that its transaction begins with
pub begun_state : {S : Type 0} (p : Prog S) (k t : ℕ) (c : CoreState S) (q : S) (a : IsReady p c t) →
    slice_get c.threads t ≡ Some q → begun_at k t q c ≡ begun_at k t a.state c
begun_state p k t c q a e = let same : q ≡ a.state = (let u : Some q ≡ Some a.state = sym e ∙ a.is in cc) in
    ap (λ s. begun_at k t s c) same

-- a call of begin is a list of moves, which tells the devices nothing
begun_moves : {S : Type 0} (p : Prog S) (most k t budget : ℕ) (r : Result (Unit {0}) BeginError) (o o1 : Outer S) →
    InCore (Begun p k t budget r) o o1 → (ms : List (OuterMove S)) × OuterFollows p most o ms o1
begun_moves p most k t budget (Ok u) o o1 h = let a = h.0.0 in (
  Inner (Begins k t a.ready.state) ∷ [],
  (o1, (o1.core, (a.goes_on, a.idle, a.ready.is, a.ready.lives, a.ready.rests, h.0.1), tt, h.1), refl),
)
begun_moves p most k t budget (Err (Over e)) o o1 h = ([], h.1 ∙ ap (λ c. record o { core = c }) h.0.1)
begun_moves p most k t budget (Err (Busy i)) o o1 h = ([], h.1 ∙ ap (λ c. record o { core = c }) h.0.3)
begun_moves p most k t budget (Err (NotReady s)) o o1 h = ([], h.1 ∙ ap (λ c. record o { core = c }) h.0.4)
begun_moves p most k t budget (Err AtBudget) o o1 h = ([], h.1 ∙ ap (λ c. record o { core = c }) h.0.4)
begun_moves p most k t budget (Err OutOfMemory) o o1 h =
    let a = h.0.0 in
    let e = h.0.1 ∙ ap (λ z. record o.core { cause = z }) (sym (ap (λ z. first_cause z NoMemoryLeft) a.goes_on)) in (
      Inner (Keeps NoMemoryLeft) ∷ [],
      (
        o1,
        (o1.core, (t, a.ready.state, a.ready.is, a.ready.lives, a.ready.rests, tt, e), refl, h.1),
        refl,
      ),
    )

-- and keeps what a core keeps
pub begun_stands : {S : Type 0} (p : Prog S) (most k t budget : ℕ) (first d : DeviceState) (m m1 : Meaning)
    (b b1 : Books S) (r : Result (Unit {0}) BeginError) →
    ((w : Worlds) → Begun p k t budget r (core_of w m b) (core_of w m1 b1)) → b1.broken ≡ b.broken
    → LeadsBetween (StandsFor p most first d m b) (StandsFor p most first d m1 b1) (InCore (Begun p k t budget r))
begun_stands p most k t budget first d m m1 b b1 r h same o s =
    let o1 = record o { core = core_of s.worlds m1 b1 } in
    let made : InCore (Begun p k t budget r) o o1 =
    (subst (λ c. Begun p k t budget r c (core_of s.worlds m1 b1)) (sym s.core) (h s.worlds), refl) in
    let ms = begun_moves p most k t budget r o o1 made in
    (o1, stands_told p most first d m m1 b b1 o s s.worlds same ms.0 ms.1, made)
