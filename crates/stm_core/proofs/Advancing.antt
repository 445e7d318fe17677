-- Steps of a transaction, one after another, as moves of the core.
use Rattle.std.proofs.Common.{◌≡◌, ◌≢◌, ◌≤◌, ◌+◌, ℕ, suc, Bool, true, false, cond, eqb, List, [], ◌∷◌, ◌++◌, length, slice_get, map, add-zero, Some, All, refl, sym, ◌∙◌, ap, subst, subst₂, inl, inr, append_assoc, length-append}
use Rattle.std.proofs.lemmas.List.Elements.{All-cons, All-nil, All-push, All-weaker}
use Rattle.std.proofs.lemmas.Bool.{cases_Bool, eq-eqb, eqb-false, ne_eqb, cond-true, cond-false}
use Rattle.py_data.specs.declared.stop.Side.{Side}
use Rattle.py_data.specs.declared.stop.Conflict.{Conflict}
use Rattle.py_data.specs.Heap.{Heap}
use Rattle.py_data.specs.World.{World}
use Rattle.py_data.specs.Row.{Row, Ret}
use Rattle.py_data.specs.Sight.{Sight}
use Rattle.lock_run.specs.declared.client.Outcome.{Outcome}
use Rattle.lock_run.specs.declared.client.Outcome.TheVariants.{Done, Ended, Waits as WaitsNow}
use Rattle.lock_run.specs.Prog.{Prog}
use Rattle.lock_run.specs.Machine.{Machine}
use Rattle.lock_run.specs.Client.{Standing, StaysSound}
use Rattle.seg_store.specs.Meaning.{Meaning, sees}
use Rattle.seg_store.specs.Store.{IsStore}
use Rattle.stm_segment.specs.declared.books.Work.{Work}
use Rattle.stm_segment.specs.declared.books.Hand.TheVariants.{Runs}
use Rattle.stm_segment.specs.declared.books.Books.{Books}
use Rattle.stm_segment.specs.CoreState.{Transaction, Segment, Running, CoreState, sight_of, set_segment, with_segment}
use Rattle.stm_segment.specs.Conflict.{side, AsksFrom}
use Rattle.stm_core.specs.Moves.{Advances, Stays, IsFree, Move, Dooms as DoomsMove, Goes, Rests, Next, Follows}
use Rattle.stm_segment.specs.Books.{Worlds, with_own, transaction, segment_of, core_of, Fit}
use Rattle.stm_core.specs.declared.steps.Pause.{Pause}
use Rattle.stm_segment.specs.declared.halt.Halt.{Halt}
use Rattle.stm_core.specs.declared.steps.Pause.TheVariants.{Whole, Waits, Ended as EndedPause, Stopped}
use Rattle.stm_segment.specs.inner.Hold.{Dooms}
use Rattle.stm_segment.specs.Asking.{Reaches, AsksToChange, AskedFor, Went}
use Rattle.stm_core.specs.inner.Whole.{stepped, StepDone, StepCut}
use Rattle.stm_core.specs.Advance.{Try, moves_of, IsStepOf, IsTry, Tried, Gone}
use Rattle.stm_core.specs.inner.Trying.{core_with, Sane, SaneShown}
use Rattle.stm_core.specs.inner.Pauses.{tried_by}
use Rattle.stm_core.specs.inner.Pausing.{HasTold, Paused, SaneAfter}
use Rattle.stm_segment.specs.Devices.{DeviceState, Shown}
use Rattle.stm_core.specs.Good.{Good}
use Rattle.stm_core.proofs.TwoPasses.{follows_append}
use Rattle.stm_core.proofs.Kept.{good_after}
use Rattle.stm_core.proofs.Stepping.{dooms_moves, is_free}
use Rattle.stm_core.proofs.Soundness.{sound_transaction}
use Rattle.stm_core.proofs.Committing.{mortal_segment}

-- dooms of others keep no cause
dooms_cause : {S : Type 0} (k : ℕ) (me : Side) (fs : List Conflict) (c c1 : CoreState S) → Dooms k me fs c c1 →
    c1.cause ≡ c.cause
dooms_cause k me [] c c1 h = ap (λ (z : CoreState _). z.cause) h
dooms_cause {S} k me (f ∷ fs) c c1 h = dooms_cause k me fs h.0 c1 h.2 ∙ ap (λ (z : CoreState S). z.cause) h.1.gives

-- each of them is by a request of segment k, which won
dooms_asked : {S : Type 0} (k : ℕ) (me : Side) (fs : List Conflict) (c c1 : CoreState S) → me.segment ≡ k →
    Dooms k me fs c c1 → All (AsksFrom k 0) fs
dooms_asked k me [] c c1 e h = All-nil (AsksFrom k 0)
dooms_asked {S} k me (f ∷ fs) c c1 e h =
    let q = h.1.meets in
    All-cons (AsksFrom k 0) f fs (record {
      segment = ap (λ (z : Side). z.segment) q.other ∙ e;
      asks = q.asks;
      lost_is =
          h.1.lost;
    }) (dooms_asked k me fs h.0 c1 e h.2)

-- tries, and one more
moves_more : {S : Type 0} (ts : List (Try S)) (t : Try S) →
    moves_of (ts ++ t ∷ []) ≡ moves_of ts ++ (map DoomsMove t.dooms ++ t.move ∷ [])
moves_more [] t = refl
moves_more {S} (s ∷ ts) t =
    let more = map DoomsMove t.dooms ++ t.move ∷ [] in
    ap (λ z. map DoomsMove s.dooms ++ s.move ∷ z) (moves_more ts t) ∙
    sym (append_assoc (map DoomsMove s.dooms) (s.move ∷ moves_of ts) more)

-- a segment set twice
pub set_again : {S : Type 0} (k : ℕ) (s r : Segment S) (f : ℕ → Segment S) →
    set_segment k s (set_segment k r f) ≡ set_segment k s f
set_again {S} k s r f q x = at x q
  where
    at : (x : ℕ) → set_segment k s (set_segment k r f) x ≡ set_segment k s f x
    at x = elim (eqb x k) as (λ b. cond b s (cond b r (f x)) ≡ cond b s (f x)) [ true ↦ refl | false ↦ refl ]

-- one try more
then_try : {S : Type 0} (p : Prog S) (most k n : ℕ) (done : Bool) (w : Worlds) (own : World) (m m1 : Meaning)
    (b b1 : Books S) (x x1 : Work S) (c0 : CoreState S) (fs : List Conflict) (move : Move S) →
    Tried p most k done n c0 (core_with w k m b x)
    → Dooms k (side k (transaction w.own (m.part k) x)) fs (core_of w m b) (core_of w m1 b1)
    → All (λ (f : Conflict). Reaches (p.row x.state) (sight_of m.image w.committed (transaction w.own (m.part k) x))
    (AsksToChange f.at.0)) fs
    → Next p most (with_segment k (Running (transaction w.own (m.part k) x)) (core_of w m1 b1)) move
    (core_with (with_own own w) k m1 b1 x1) → m1.image ≡ m.image → IsStepOf p m.image w.committed k fs move done
    → Tried p most k done (n + 1) c0 (core_with (with_own own w) k m1 b1 x1)
then_try {S} p most k n done w own m m1 b b1 x x1 c0 fs move g ds asked next im kind =
    let tx = transaction w.own (m.part k) x in
    let mid = with_segment k (Running tx) (core_of w m1 b1) in
    let end = core_with (with_own own w) k m1 b1 x1 in
    let t : Try S = record { dooms = fs; move = move } in
    let more = map DoomsMove fs ++ move ∷ [] in
    let K : Try S → Type 0 = IsTry p c0.image c0.world k done in
    let a = follows_append p most (core_with w k m b x) mid end (map DoomsMove fs) (move ∷ [])
    (dooms_moves p most k tx fs (core_of w m b) (core_of w m1 b1) ds asked) (end, next, refl) in
    let c = g.count in
    record {
      tries = g.tries ++ t ∷ [];
      follows = subst (λ z. Follows p most c0 z end) (sym (moves_more g.tries t))
          (follows_append p most c0 (core_with w k m b x) end (moves_of g.tries) more g.follows a);
      kinds = All-push K g.tries t g.kinds
          (record {
            wins = dooms_asked k (side k tx) fs (core_of w m b) (core_of w m1 b1) refl ds;
            step =
                subst₂ (λ h v. IsStepOf p h v k fs move done) g.image g.world kind;
          });
      count = length-append g.tries (t ∷ []) ∙ ap (λ z. z + 1) c;
      image = im ∙ g.image;
      world = g.world;
      cause = dooms_cause k (side k tx) fs (core_of w m b) (core_of w m1 b1) ds ∙ g.cause;
    }

-- no step yet
pub tried_none : {S : Type 0} (p : Prog S) (most k : ℕ) (done : Bool) (c : CoreState S) → Tried p most k done 0 c c
tried_none {S} p most k done c = record {
  tries = [];
  follows = refl;
  kinds = All-nil (IsTry p c.image c.world k done);
  count = refl;
  image = refl;
  world = refl;
  cause = refl;
}

-- where no more was tried
pub all_gone : {S : Type 0} (p : Prog S) (most k n : ℕ) (c c1 : CoreState S) → Tried p most k true n c c1 →
    Gone p most k n 0 c c1
all_gone p most k n c c1 t = record { reached = c1; steps = t; rest = tried_none p most k false c1 }

-- where none was tried, nothing was done
pub none_tried : {S : Type 0} (p : Prog S) (most k : ℕ) (done : Bool) (c c1 : CoreState S) → Tried p most k done 0 c c1
    → c1 ≡ c
none_tried {S} p most k done c c1 t = go t.tries t.count t.follows
  where
    go : (ts : List (Try S)) → length ts ≡ 0 → Follows p most c (moves_of ts) c1 → c1 ≡ c
    go [] e f = f
    go (y ∷ ts) e f = absurd cc

-- what was asked for on the way is what the step comes to
came_to : {S A : Type 0} (row left : Row S A) (s place : Sight S) (fs : List Conflict) →
    All (λ (f : Conflict). AskedFor row s left place f.at.0) fs →
    All (λ (f : Conflict). Reaches row s (AsksToChange f.at.0)) fs
came_to row left s place fs h = All-weaker (λ (f : Conflict). AskedFor row s left place f.at.0)
    (λ (f : Conflict). Reaches row s (AsksToChange f.at.0))
    (λ f q. record { call = q.call; next = q.next; place = q.at; upto = q.upto; is = q.changes }) fs h

-- what is free of the others stays so with the transaction in its segment
pub free_with : {S : Type 0} (k : ℕ) (s : Segment S) (c : CoreState S) (x : Transaction S) → IsFree c k x →
    IsFree (with_segment k s c) k x
free_with k s c x f = record {
  changed = λ j y n e a h. f.changed j y n (sym (cond-false (eqb j k) s (c.segments j) (ne_eqb j k n)) ∙ e) a h;
  made = λ j y n e a h. f.made j y n (sym (cond-false (eqb j k) s (c.segments j) (ne_eqb j k n)) ∙ e) a h;
}

-- where a transaction runs solo in a good core, no other hand does
pub others_mortal : {S : Type 0} (p : Prog S) (start : Machine S) (most k : ℕ) (w : Worlds) (m : Meaning) (b : Books S)
    (x : Transaction S) → Good p start most (with_segment k (Running x) (core_of w m b)) → x.solo ≡ true
    → (j : ℕ) (z : Work S) → j ≢ k → slice_get b.hands.items j ≡ Some (Runs z) → z.solo ≡ false
others_mortal {S} p start most k w m b x good solo j z n e =
    let c = core_of w m b in
    let other : (with_segment k (Running x) c).segments j ≡ Running (transaction w.own (m.part j) z) =
    cond-false (eqb j k) (Running x) (c.segments j) (ne_eqb j k n) ∙ ap (segment_of w.own (m.part j)) e in
    (good.apart k j x (transaction w.own (m.part j) z) (λ q. n (sym q))
    (cond-true (eqb k k) (Running x) (c.segments k) (eq-eqb k k refl)) other).solo solo

-- the world of the transaction that was taken out isn't seen in the others, where they aren't solo
pub own_unseen : {S : Type 0} (k : ℕ) (s : Segment S) (own : World) (w : Worlds) (m : Meaning) (b : Books S) →
    ((j : ℕ) (z : Work S) → j ≢ k → slice_get b.hands.items j ≡ Some (Runs z) → z.solo ≡ false)
    → with_segment k s (core_of (with_own own w) m b) ≡ with_segment k s (core_of w m b)
own_unseen {S} k s own w m b mortal q = record (core_of w m b) { segments = λ j. at j q }
  where
    at : (j : ℕ) → set_segment k s (core_of (with_own own w) m b).segments j ≡ set_segment k s (core_of w m b).segments
        j
    at j = elim (cases_Bool (eqb j k)) [
      | inl y ↦ cond-true (eqb j k) s (segment_of own (m.part j) (slice_get b.hands.items j)) y ∙
          sym (cond-true (eqb j k) s (segment_of w.own (m.part j) (slice_get b.hands.items j)) y)
      | inr n ↦ cond-false (eqb j k) s (segment_of own (m.part j) (slice_get b.hands.items j)) n ∙
          mortal_segment own w.own (m.part j) (slice_get b.hands.items j) (λ z e. mortal j z (eqb-false j k n) e)
          ∙ sym (cond-false (eqb j k) s (segment_of w.own (m.part j) (slice_get b.hands.items j)) n)
    ]

-- so it is after a step that was done, in which others were doomed
pub done_others : {S : Type 0} (p : Prog S) (sound : Heap → List S → Type 0) (most k : ℕ) (m m1 : Meaning)
    (b b1 : Books S) (x x1 : Work S) (s : Sane p sound most k m b x) (own : World) (o : Outcome)
    → StepDone p s.worlds own k (side k (transaction s.worlds.own (m.part k) x)) o m b x m1 b1 x1 → x.solo ≡ true →
    (j : ℕ) (z : Work S) → j ≢ k → slice_get b1.hands.items j ≡ Some (Runs z) → z.solo ≡ false
done_others p sound most k m m1 b b1 x x1 s own o d solo =
    let w = s.worlds in
    let tx = transaction w.own (m.part k) x in
    let asked = came_to (p.row x.state) (Ret d.last) (sight_of m.image w.committed tx) d.went.place d.dooms
    d.went.asked in
    let doomed = dooms_moves p most k tx d.dooms (core_of w m b) (core_of w m1 b1) d.others asked in
    others_mortal p s.start most k w m1 b1 tx
    (good_after p s.start most (core_with w k m b x) (with_segment k (Running tx) (core_of w m1 b1))
    (map DoomsMove d.dooms) s.good doomed) solo

module _ {S : Type 0} (p : Prog S) (most k n : ℕ) (w : Worlds) (m m1 : Meaning) (r1 : ℕ) (b b1 : Books S)
    (x x1 : Work S) (c0 : CoreState S) (im : m1.image ≡ m.image) (st : IsStore r1 m1) (fit : Fit k m1 b1 x1.progress)
  where
    abbrev tx : Transaction S
    tx = transaction w.own (m.part k) x

    here : (s : Segment S) (c : CoreState S) → (with_segment k s c).segments k ≡ s
    here s c = cond-true (eqb k k) s (c.segments k) (eq-eqb k k refl)

    again : (s r : Segment S) (c : CoreState S) → with_segment k s c ≡ with_segment k s (with_segment k r c)
    again s r c i = record c { segments = sym (set_again k s r c.segments) i }

    -- the world of the transaction isn't seen in the others: it is as it was, or they aren't solo
    unseen : (own : World) (s : Segment S) → (x.solo ≡ false → own ≡ w.own) →
        (x.solo ≡ true → (j : ℕ) (z : Work S) → j ≢ k → slice_get b1.hands.items j ≡ Some (Runs z) → z.solo ≡ false)
        → with_segment k s (core_of (with_own own w) m1 b1) ≡ with_segment k s (core_of w m1 b1)
    unseen own s mortal others = elim (cases_Bool x.solo) [
      | inl y ↦ own_unseen k s own w m1 b1 (others y)
      | inr y ↦
          ap (λ v. with_segment k s (core_of (with_own v w) m1 b1)) (mortal y)
    ]

    module _ (g : Tried p most k true n c0 (core_with w k m b x)) where
      -- one step more
      pub gone_step : (own : World) (o : Outcome) → o ≢ WaitsNow → StepDone p w own k (side k tx) o m b x m1 b1 x1 →
          suc x.steps ≤ most → (x.solo ≡ true → (j : ℕ) (z : Work S) → j ≢ k →
          slice_get b1.hands.items j ≡ Some (Runs z)
          → z.solo ≡ false)
          → Gone p most k (n + 1) 0 c0 (core_with (with_own own w) k m1 b1 (stepped x1))
      gone_step own o goes d le others =
          let tx1 = transaction own (m1.part k) (stepped x1) in
          let v : Advances p m1.image w.committed tx tx1 = subst (λ h. Advances p h w.committed tx tx1) (sym im)
          (d.goes goes) in
          let f = is_free w k r1 m1 b1 x1 st fit.own_names fit.works in
          let free = free_with k (Running tx) (core_of w m1 b1) tx1 (record { changed = f.changed; made = f.made }) in
          let end = core_with (with_own own w) k m1 b1 (stepped x1) in
          let reached : end ≡ with_segment k (Running tx1) (with_segment k (Running tx) (core_of w m1 b1)) =
          unseen own (Running tx1) d.mortal others ∙ again (Running tx1) (Running tx) (core_of w m1 b1) in
          record {
            reached = end;
            steps = then_try p most k n true w own m m1 b b1 x (stepped x1) c0 d.dooms (Goes k tx tx1) g d.others
                (came_to (p.row x.state) (Ret d.last) (sight_of m.image w.committed tx) d.went.place d.dooms
                d.went.asked) (here (Running tx) (core_of w m1 b1), le, v, free, reached) im (refl, d.last, d.went);
            rest = tried_none p most k false end;
          }

      -- a step that left looks and locks alone
      gone_rest : (fs : List Conflict) → Dooms k (side k tx) fs (core_of w m b) (core_of w m1 b1) →
          Stays m.image tx (transaction w.own (m1.part k) x1)
          → (left : Row S (Outcome × S)) → Went (p.row x.state) (sight_of m.image w.committed tx) left
          (m1.part k).looked
          (m1.part k).changed fs → Gone p most k (n + 0) 1 c0 (core_with w k m1 b1 x1)
      gone_rest fs ds stays left went =
          let tx1 = transaction w.own (m1.part k) x1 in
          let start = core_with w k m b x in
          let v : Stays m1.image tx tx1 = subst (λ h. Stays h tx tx1) (sym im) stays in
          let free = free_with k (Running tx) (core_of w m1 b1) tx1 (is_free w k r1 m1 b1 x1 st fit.own_names fit.works)
          in
          record {
            reached = start;
            steps = subst (λ z. Tried p most k true z c0 start) (sym (add-zero n)) g;
            rest = then_try p most k 0 false w w.own m m1 b b1 x x1 start fs (Rests k tx tx1)
                (tried_none p most k false start) ds
                (came_to (p.row x.state) left (sight_of m.image w.committed tx) went.place fs went.asked)
                (here (Running tx) (core_of w m1 b1), v, free, again (Running tx1) (Running tx) (core_of w m1 b1)) im
                (refl, left, went);
          }

      -- a step that waits
      pub gone_wait : (own : World) (o : Outcome) → o ≡ WaitsNow → StepDone p w own k (side k tx) o m b x m1 b1 x1 →
          Gone p most k (n + 0) 1 c0 (core_with w k m1 b1 x1)
      gone_wait own o waits d = gone_rest d.dooms d.others (d.waits waits).1 (Ret d.last) d.went

      -- a step that was cut
      pub gone_cut : (e : Halt) → StepCut p w k (side k tx) e m b x m1 r1 b1 x1 →
          Gone p most k (n + 0) 1 c0 (core_with w k m1 b1 x1)
      gone_cut e d = gone_rest d.dooms d.others d.stays d.left d.went

-- ---- the good core on the way

-- after these steps the transaction's state may stand over what it sees
pub sane_stands : {S : Type 0} (p : Prog S) (sound : Heap → List S → Type 0) (most k : ℕ) (m : Meaning) (b : Books S)
    (x : Work S) → StaysSound p sound → Sane p sound most k m b x → Standing (sound (sees m k)) x.state
sane_stands p sound most k m b x law s =
    let w = s.worlds in
    sound_transaction p sound law s.start most (core_with w k m b x) k (transaction w.own (m.part k) x) s.first s.good
    (cond-true (eqb k k) (Running (transaction w.own (m.part k) x)) ((core_of w m b).segments k) (eq-eqb k k refl))

-- steps keep it good
pub gone_good : {S : Type 0} (p : Prog S) (start : Machine S) (most k n more : ℕ) (c c1 : CoreState S) →
    Good p start most c → Gone p most k n more c c1 → Good p start most c1
gone_good p start most k n more c c1 good g = good_after p start most g.reached c1 (moves_of g.rest.tries)
    (good_after p start most c g.reached (moves_of g.steps.tries) good g.steps.follows) g.rest.follows

-- and the devices show the world of a solo one, unless a step was cut
pub sane_paused : {S : Type 0} (p : Prog S) (sound : Heap → List S → Type 0) (most k n r1 : ℕ) (pause : Pause)
    (d d1 : DeviceState) (m m1 : Meaning) (b b1 : Books S) (x x1 : Work S) (s : SaneShown p sound most k d m b x)
    → Paused p most k s.out s.err s.sane.worlds (core_with s.sane.worlds k m b x) n pause m1 r1 b1 x1 d1 →
    SaneAfter p sound most k pause d1 m1 b1 x1
sane_paused {S} p sound most k n r1 pause d d1 m m1 b b1 x x1 s u = by pause u.told
  where
    sane : Sane p sound most k m1 b1 x1
    sane = record {
      worlds = with_own u.own s.sane.worlds;
      start = s.sane.start;
      first = s.sane.first;
      good = gone_good p s.sane.start most k n (tried_by pause) (core_with s.sane.worlds k m b x)
          (core_with (with_own u.own s.sane.worlds) k m1 b1 x1) s.sane.good u.gone;
    }

    shows : Shown x1.solo s.out s.err d1 u.own → SaneShown p sound most k d1 m1 b1 x1
    shows h = record { sane = sane; out = s.out; err = s.err; shown = h }

    by : (z : Pause) → HasTold p s.out s.err (with_own u.own s.sane.worlds) k z m1 x1 d1 →
        SaneAfter p sound most k z d1 m1 b1 x1
    by Whole h = shows h
    by Waits h = shows h
    by EndedPause h = shows h
    by (Stopped stop) h = sane

pub done_not_waits : Done ≢ WaitsNow
done_not_waits e = cc

pub ended_not_waits : Ended ≢ WaitsNow
ended_not_waits e = cc
