-- What one event leaves: one that commits nothing, one that adds a turn, and one that fails.
use Rattle.std.proofs.Common.{◌≡◌, ◌≢◌, ◌⊎◌, ℕ, zero, suc, ◌+◌, ◌<◌, ◌≤◌, false, true, Bool, eqb, [], ◌∷◌, ◌++◌, length, Option, refl, sym, ◌∙◌, ap, subst, inl, inr, append-nil, length-append, arith}
use Rattle.std.specs.List.{sum_by, range_with_len}
use Rattle.std.proofs.lemmas.Bool.{cases_Bool, both_ways, eqb-false, eq-eqb, ne_eqb, cond-true, cond-false}
use Rattle.std.proofs.lemmas.List.Elements.{All-nil, All-weaker}
use Rattle.py_data.specs.declared.stop.Conflict.{Conflict}
use Rattle.py_data.specs.Sight.{mem}
use Rattle.lock_run.specs.Prog.{Prog}
use Rattle.stm_segment.specs.declared.cause.Cause.{Cause}
use Rattle.stm_core.specs.declared.events.Event.{Event}
use Rattle.stm_core.specs.declared.events.Reply.{Reply}
use Rattle.stm_core.specs.declared.events.Reply.TheVariants.{Failed}
use Rattle.seg_store.specs.Meaning.{overlay}
use Rattle.stm_segment.specs.CoreState.{Transaction, Segment, Idle, Running, CoreState, turn_of, world_after, threads_after, with_segment, first_cause}
use Rattle.stm_core.specs.Moves.{published}
use Rattle.stm_core.specs.Passes.{doom_readers, after_commit, NoneWins}
use Rattle.stm_core.specs.Outside.{Outer}
use Rattle.stm_core.specs.Advanced.{with_cause, Fails, EndsSo}
use Rattle.stm_core.specs.Solo.{up_to_whole}
use Rattle.stm_core.specs.Events.{Limits}
use Rattle.stm_core.specs.History.{event_segment, IsQuiet, AddsTurn, AsksSteps, steps_of, Publishes, IsLookedAt, IsMadeBy, IsEarly, ComesToEnd, HasStood, IsDoomed, LeavesOthers, IsToldLost, Leaves}
use Rattle.stm_core.proofs.Publishing.{mem_range}
use Rattle.stm_core.proofs.TwoPasses.{met_none, Clears, clears}
use Rattle.stm_core.proofs.SoloMoves.{solo_beats}
use Rattle.stm_core.proofs.Advanced.{cut_kept, may_drop}
use Rattle.stm_core.proofs.Came.{quiet_none, quiet_then, Came, StoodWithin, came_drop, came_then, came_more, came_dooms}

-- ---- nothing is committed

module _ {S : Type 0} (p : Prog S) (most : ℕ) (e : Event) where
  pub record Calm (r : Reply) (c c1 : CoreState S) : Type 0 where
    pub quiet : IsQuiet c c1
    pub beside : LeavesOthers p most e c c1
    pub told : IsToldLost (event_segment e) r beside.new c c1

  -- it made no conflict
  pub calm_plain : (r : Reply) (c c1 : CoreState S) → IsQuiet c c1 → c1.conflicts ≡ c.conflicts →
      ((j : ℕ) → j ≢ event_segment e → c1.segments j ≡ c.segments j) → IsToldLost (event_segment e) r [] c c1 →
      Calm r c c1
  calm_plain r c c1 q f g t = record {
    quiet = q;
    beside = record {
      new = [];
      conflicts = f ∙ sym (append-nil c.conflicts);
      made = All-nil (IsMadeBy e c c1);
      stood =
          All-nil (HasStood p most e c c1);
      others = λ j d. inl (g j d);
    };
    told = t;
  }

  pub calm_same : (r : Reply) (c c1 : CoreState S) → IsToldLost (event_segment e) r [] c c → c1 ≡ c → Calm r c c1
  calm_same r c c1 t is = subst (Calm r c) (sym is) (calm_plain r c c (quiet_none c) refl (λ j d. refl) t)

  -- only its own segment has something else in hand now
  pub calm_set : (r : Reply) (s : Segment S) (c c1 : CoreState S) →
      IsToldLost (event_segment e) r [] c (with_segment (event_segment e) s c) →
      c1 ≡ with_segment (event_segment e) s c → Calm r c c1
  calm_set r s c c1 t is = subst (Calm r c) (sym is)
      (calm_plain r c (with_segment (event_segment e) s c)
      (record { image = refl; threads = refl; world = refl; history = refl }) refl
      (λ j d. cond-false (eqb j (event_segment e)) s (c.segments j) (ne_eqb j (event_segment e) d)) t)

  -- and that is nothing
  pub calm_idle : (r : Reply) (c c1 : CoreState S) →
      IsToldLost (event_segment e) r [] c (with_segment (event_segment e) Idle c) →
      c1 ≡ with_segment (event_segment e) Idle c → Calm r c c1
  calm_idle r c c1 t is = calm_set r Idle c c1 t is

  -- what it came through, with its end
  abbrev pub beside_end : (M : Conflict → Type 0) (a b : ℕ) (c u c1 : CoreState S) →
      (x : Came p most (event_segment e) M a b c u) → ((f : Conflict) → M f → IsMadeBy e c c1 f) →
      ((n : ℕ) → n < b → IsEarly e n) → ComesToEnd e u c1
      → c1.conflicts ≡ u.conflicts → ((j : ℕ) → j ≢ event_segment e → c1.segments j ≡ u.segments j) →
      LeavesOthers p most e c c1
  beside_end M a b c u c1 x made early end co se = record {
    new = x.new;
    conflicts = co ∙ x.conflicts;
    made = All-weaker M (IsMadeBy e c c1) made x.new x.made;
    stood = All-weaker (StoodWithin p most (event_segment e) M b c u) (HasStood p most e c c1)
        (λ f h. record {
          left = u;
          stood = h.stood;
          early = early (sum_by steps_of h.stood.before.moves) h.few;
          end =
              end;
        }) x.new x.stood;
    others = λ j d. subst (λ (s : Segment S). (s ≡ c.segments j) ⊎ IsDoomed j x.new (c.segments j) s) (sym (se j d))
        (x.others j d);
  }

  pub calm_end : (r : Reply) (M : Conflict → Type 0) (a b : ℕ) (c u : CoreState S) →
      (x : Came p most (event_segment e) M a b c u) → ((f : Conflict) → M f → IsMadeBy e c u f) →
      ((n : ℕ) → n < b → IsEarly e n) → ComesToEnd e u u
      → IsToldLost (event_segment e) r x.new c u → Calm r c u
  calm_end r M a b c u x made early end t =
      record { quiet = x.quiet; beside = beside_end M a b c u u x made early end refl (λ j d. refl); told = t }

-- with its reply, where that says of none that it commits
pub calm_leaves : {S : Type 0} (p : Prog S) (l : Limits) (e : Event) (r : Reply) (c c1 : CoreState S) →
    (IsQuiet c c1 → Publishes p l e r c c1) → Calm p l.length e r c c1 → Leaves p l e r c c1
calm_leaves p l e r c c1 publishes z = record { publishes = publishes z.quiet; beside = z.beside; told = z.told }

-- ---- a turn

-- both passes of the transaction x of segment i, from a state to which moves led that committed nothing, and a cause is
-- set
pub turn_added : {S : Type 0} (p : Prog S) (l : Limits) (i : ℕ) (x : Transaction S) (c0 c : CoreState S)
    (q : Option Cause)
    → c.segments i ≡ Running x → 1 ≤ x.steps → NoneWins i x c →
    IsQuiet c0 (doom_readers i x (range_with_len 0 l.segments) c)
    → AddsTurn l i x c0 (record (published i x (doom_readers i x (range_with_len 0 l.segments) c)) { cause = q })
turn_added {S} p l i x c0 c q mine some none quiet =
    let js = range_with_len 0 l.segments in
    let d = doom_readers i x js c in
    let cleared : Clears p l.length i x js c d = clears p l.length i x js c mine none in
    record {
      some = some;
      history = ap (λ h. h ++ turn_of x ∷ []) quiet.history;
      image = ap (λ h. overlay h x.changes) quiet.image;
      threads = ap (λ ts. threads_after ts x) quiet.threads;
      world = ap (λ w. world_after w x) quiet.world;
      idle = cond-true (eqb i i) Idle (d.segments i) (eq-eqb i i refl);
      unread = λ j y below runs a locked. unread_by j y below (cases_Bool (eqb j i)) runs a locked cleared;
    }
  where
    unread_by : (j : ℕ) (y : Transaction S) → j < l.segments → (eqb j i ≡ true) ⊎ (eqb j i ≡ false) →
        (published i x (doom_readers i x (range_with_len 0 l.segments) c)).segments j ≡ Running y → (a : ℕ) →
        mem a x.changed ≡ true
        → Clears p l.length i x (range_with_len 0 l.segments) c (doom_readers i x (range_with_len 0 l.segments) c) →
        y.looked a ≡ false
    unread_by j y below (inl same) runs a locked r =
        absurd (let clash : Idle ≡ Running y =
        sym (cond-true (eqb j i) Idle ((doom_readers i x (range_with_len 0 l.segments) c).segments j) same) ∙
        runs in cc)
    unread_by j y below (inr other) runs a locked r =
        let on : (doom_readers i x (range_with_len 0 l.segments) c).segments j ≡ Running y =
        sym (cond-false (eqb j i) Idle ((doom_readers i x (range_with_len 0 l.segments) c).segments j) other) ∙
        runs in
        met_none x.changed y.looked a (r.unread j y (mem_range 0 l.segments j (omega arith) (omega arith))
        (eqb-false j i other) on) locked

-- it makes the history longer
turn_longer : {S : Type 0} (l : Limits) (i : ℕ) (x : Transaction S) (c c1 : CoreState S) → AddsTurn l i x c c1 →
    length c1.history ≡ length c.history + 1
turn_longer l i x c c1 t = ap length t.history ∙ length-append c.history (turn_of x ∷ [])

-- ---- an event that fails

-- an event that asks for at most m steps of its segment, in which conflicts of the kind M come about before its end
pub record Tries (S : Type 0) (e : Event) (m : ℕ) (M : Conflict → Type 0) : Type 0 where
  pub asks : AsksSteps e m
  pub early : (i : ℕ) → i < m → IsEarly e i
  pub ends : (u c1 : CoreState S) → EndsSo (event_segment e) u c1 → ComesToEnd e u c1
  pub makes : (c c1 : CoreState S) (f : Conflict) → M f → IsMadeBy e c c1 f
  pub turns : (c c1 : CoreState S) (f : Conflict) → IsLookedAt (event_segment e) f → f.writer.solo ≡ true →
      length c.history < length c1.history → IsMadeBy e c c1 f

module _ {S : Type 0} (p : Prog S) (l : Limits) (e : Event) (m reserved : ℕ) (M : Conflict → Type 0)
    (t : Tries S e m M) where
  -- the segment whose call it is
  abbrev pub own : ℕ
  own = event_segment e

  -- what it makes where it fails with a solo transaction
  abbrev Solos : Conflict → Type 0
  Solos f = M f ⊎ (IsLookedAt own f × (f.writer.solo ≡ true))

  -- after moves of its segment that led to u
  module _ (n b : ℕ) (c u : CoreState S) (came : Came p l.length own M n b c u) (few : b ≤ m) where
    early : (i : ℕ) → i < b → IsEarly e i
    early i lt = t.early i (omega (arith, lt, few))

    -- the transaction is dropped, and a cause kept
    drop_leaves : (y : Cause) (x : Transaction S) (c1 : CoreState S) → n ≤ b → u.segments own ≡ Running x →
        (x.solo ≡ true → x.steps ≡ 0) → c1 ≡ with_cause y (with_segment own Idle u) → Leaves p l e (Failed y) c c1
    drop_leaves y x c1 le runs none is =
        let v = with_segment own Idle u in
        let all : Came p l.length own M (n + 0) b c v = came_then p l.length own M n b 0 0 b c u v (omega arith)
        (omega (arith, le)) came (came_drop p l.length own M u (may_drop p l.length own u x runs none)) in
        subst (Leaves p l e (Failed y) c) (sym is) (record {
          publishes = inl (quiet_then c v (with_cause y v) all.quiet
              (record { image = refl; threads = refl; world = refl; history = refl }));
          beside = beside_end p l.length e M (n + 0) b c v (with_cause y v) all
              (λ f h. t.makes c (with_cause y v) f h) early (t.ends v (with_cause y v) (inr (y, inl refl))) refl
              (λ j d. refl);
          told = tt;
        })

    -- the solo transaction is committed, and a cause kept
    cut_leaves : (y : Cause) (x : Transaction S) (c1 : CoreState S) → n + 1 ≤ b → u.segments own ≡ Running x →
        x.solo ≡ true → 1 ≤ x.steps → c1 ≡ record (after_commit own x (range_with_len 0 l.segments) u)
        { cause = first_cause u.cause y } → Leaves p l e (Failed y) c c1
    cut_leaves y x c1 le runs solo some is =
        let js = range_with_len 0 l.segments in
        let d = doom_readers own x js u in
        let none = solo_beats own x u solo in
        let mine = (clears p l.length own x js u runs none).mine in
        let dooms = came_dooms p l.length own Solos x (λ j z a. inr ((refl, refl), solo)) js u runs none in
        let all : Came p l.length own Solos (n + 0) b c d = came_then p l.length own Solos n b 0 1 b c u d (omega arith)
        le (came_more p l.length own M Solos n b c u (λ f h. inl h) came) dooms in
        let end = record (published own x d) { cause = first_cause u.cause y } in
        let turn : AddsTurn l own x c end = turn_added p l own x c u (first_cause u.cause y) runs some none all.quiet in
        let was = all.goes.on x mine in
        let longer : length c.history < length end.history = let q = turn_longer l own x c end turn in
        omega (arith, q) in
        subst (Leaves p l e (Failed y) c) (sym is) (record {
          publishes = inr (record {
            most = m;
            call = t.asks;
            y = was.0;
            runs = was.1;
            left = d;
            way = all.way;
            early = let q = all.count in omega (arith, q, le, few);
            x = x;
            ran = mine;
            same = was.2.same;
            steps = was.2.steps ∙ ap (λ i. (was.0).steps + i) (sym all.count);
            solo = solo;
            turn = turn;
          });
          beside = beside_end p l.length e Solos (n + 0) b c d end all (λ f h. made f longer h) early
              (t.ends d end (inr (y, inr (x, mine, solo, some, cut_kept own x js u y)))) refl
              (λ j q. cond-false (eqb j own) Idle (d.segments j) (ne_eqb j own q));
          told = tt;
        })
      where
        made : (f : Conflict) → length c.history < length (after_commit own x (range_with_len 0 l.segments) u).history →
            Solos f → IsMadeBy e c
            (record (after_commit own x (range_with_len 0 l.segments) u) { cause = first_cause u.cause y }) f
        made f longer (inl h) =
            t.makes c (record (after_commit own x (range_with_len 0 l.segments) u)
            { cause = first_cause u.cause y }) f h
        made f longer (inr h) =
            t.turns c (record (after_commit own x (range_with_len 0 l.segments) u)
            { cause = first_cause u.cause y }) f h.0 h.1 longer

    -- by whether the transaction is solo
    pub fails_leave : (o : Outer S) (x : Transaction S) (y : Cause) (o1 : Outer S) → o.core ≡ u →
        u.segments own ≡ Running x → n + 1 ≤ b → Fails x.solo p own l.segments reserved l.words y o x o1 →
        Leaves p l e (Failed y) c o1.core
    fails_leave o x y o1 at runs le h = fails x.solo refl h
      where
        whole : x.solo ≡ true → (i : ℕ) → x.steps ≡ i → o1.core ≡ record (up_to_whole own l.segments x i o.core)
            { cause = first_cause o.core.cause y } → Leaves p l e (Failed y) c o1.core
        whole s zero q is = drop_leaves y x o1.core (omega (arith, le)) runs (λ z. q)
            (is ∙ ap (λ z. with_cause y (with_segment own Idle z)) at)
        whole s (suc i) q is = cut_leaves y x o1.core le runs s (omega (arith, q))
            (is ∙ ap (λ (z : CoreState S). record (after_commit own x (range_with_len 0 l.segments) z)
            { cause = first_cause z.cause y }) at)

        fails : (s : Bool) → x.solo ≡ s → Fails s p own l.segments reserved l.words y o x o1 →
            Leaves p l e (Failed y) c o1.core
        fails false q f = drop_leaves y x o1.core (omega (arith, le)) runs (λ s. absurd (both_ways x.solo q s))
            (ap (λ (z : Outer S). z.core) f.1 ∙ ap (λ z. with_cause y (with_segment own Idle z)) at)
        fails true q f = whole q x.steps refl (ap (λ (z : Outer S). z.core) f.1.gives)
