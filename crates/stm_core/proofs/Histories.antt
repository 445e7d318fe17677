-- What events leave of the committed state, the history, the conflicts and other segments.
use Rattle.std.proofs.Common.{◌≡◌, ◌≢◌, ℕ, suc, ◌+◌, ◌<◌, ◌≤◌, false, true, Bool, cond, eqb, List, [], ◌∷◌, ◌++◌, length, Some, Result, Ok, Err, All, AllPairs, refl, sym, ◌∙◌, ap, subst, inl, inr, append-nil, append_assoc, length-append, arith}
use Rattle.std.specs.List.{count_by, range_with_len}
use Rattle.std.proofs.lemmas.Bool.{eq-eqb, ne_eqb, cond-true, cond-false}
use Rattle.std.proofs.lemmas.List.Elements.{All-cons, All-nil, All-weaker, Contains-push}
use Rattle.std.proofs.lemmas.List.Kept.{AllPairs-cons}
use Rattle.std.proofs.lemmas.List.Sums.{sum_by-cons}
use Rattle.py_data.specs.declared.stop.Side.{Side}
use Rattle.py_data.specs.declared.stop.Conflict.{Conflict}
use Rattle.lock_run.specs.declared.client.Life.{Life}
use Rattle.lock_run.specs.declared.client.Life.TheVariants.{Lives, Ended as EndedLife, Failed as FailedLife}
use Rattle.lock_run.specs.declared.turn.Turn.{Turn}
use Rattle.lock_run.specs.Prog.{Prog}
use Rattle.stm_core.specs.declared.answers.Advance.{Advance}
use Rattle.stm_core.specs.declared.answers.Advance.TheVariants.{Ran, Waits, Ended, NeedSolo}
use Rattle.stm_core.specs.declared.answers.AdvanceError.{AdvanceError}
use Rattle.stm_core.specs.declared.answers.AdvanceError.TheVariants as advance
use Rattle.stm_core.specs.declared.begin.BeginError.{BeginError}
use Rattle.stm_core.specs.declared.begin.BeginError.TheVariants as begin
use Rattle.stm_segment.specs.declared.cause.Cause.TheVariants.{OutOfMemory as NoMemoryLeft}
use Rattle.stm_core.specs.declared.commit.Commit.{Commit}
use Rattle.stm_core.specs.declared.commit.Commit.TheVariants as commit
use Rattle.stm_core.specs.declared.events.Event.{Event}
use Rattle.stm_core.specs.declared.events.Event.TheVariants as event
use Rattle.stm_core.specs.declared.events.Reply.{Reply}
use Rattle.stm_core.specs.declared.events.Reply.TheVariants.{Skipped, Begun as HasBegun, Refused, Advanced as HasAdvanced, Solo as IsSolo, Unsolo, Committed as HasCommitted, Nothing, Lost, Failed, Installed, Unfit, OutOfMemory}
use Rattle.stm_core.specs.declared.solo.SoloError.{SoloError}
use Rattle.stm_core.specs.declared.solo.SoloError.TheVariants as solo
use Rattle.stm_segment.specs.CoreState.{Transaction, Segment, Idle, Doomed, Running, CoreState, fresh, soloed, turn_of, with_segment, with_conflict}
use Rattle.stm_segment.specs.Conflict.{loser, IsStanding}
use Rattle.stm_core.specs.Moves.{published, begun_at}
use Rattle.stm_core.specs.Passes.{doom_readers, after_commit, NoneWins}
use Rattle.stm_core.specs.Outside.{Outer}
use Rattle.stm_core.specs.Advanced.{CountsDone, tried_after, Ends, StepsTaken, AdvancedFrom}
use Rattle.stm_core.specs.Begun.{Begun}
use Rattle.stm_core.specs.Committed.{Beaten, CommitEnds, CommitOf}
use Rattle.stm_core.specs.Solo.{SoloedFrom}
use Rattle.stm_core.specs.Pieces.{IsGivenUp}
use Rattle.stm_core.specs.Events.{Limits, begin_reply, advance_reply, solo_reply, commit_reply, may_make, PieceRan, PieceFrom, Made, MadeIf, EventsMade}
use Rattle.stm_core.specs.History.{IsQuiet, Publishes, IsAsked, IsLookedAt, Leaves, AllLeave, numbers_of, has_failed, IsGrown}
use Rattle.stm_core.proofs.TwoPasses.{Clears, clears}
use Rattle.stm_core.proofs.Advanced.{asker_loses}
use Rattle.stm_core.proofs.Leaving.{Calm, calm_plain, calm_same, calm_set, calm_idle, beside_end, calm_end, calm_leaves, turn_added, Tries, fails_leave}
use Rattle.stm_core.proofs.PieceEvents.{piece_asked}
use Rattle.stm_core.proofs.Came.{quiet_none, quiet_then, Came, came_none, came_loses, came_then, came_dooms, came_tried}

-- ---- begin

begin_calm : {S : Type 0} (p : Prog S) (l : Limits) (k t : ℕ) (result : Result (Unit {0}) BeginError)
    (c c1 : CoreState S) → Begun p k t l.budget result c c1 → Calm p l.length (event.Begin k t) (begin_reply result) c
    c1
begin_calm p l k t (Ok u) c c1 h =
    let b = begun_at k t h.0.ready.state c in
    subst (Calm p l.length (event.Begin k t) HasBegun c) (sym h.1)
    (calm_plain p l.length (event.Begin k t) HasBegun c b
    (record { image = refl; threads = refl; world = refl; history = refl }) refl
    (λ j n. cond-false (eqb j k) (Running (fresh c t h.0.ready.state)) (c.segments j) (ne_eqb j k n)) tt)
begin_calm p l k t (Err (begin.Over y)) c c1 h = calm_same p l.length (event.Begin k t) (Refused (begin.Over y)) c c1
    tt h.1
begin_calm p l k t (Err (begin.Busy i)) c c1 h = calm_same p l.length (event.Begin k t) (Refused (begin.Busy i)) c c1
    tt h.3
begin_calm p l k t (Err (begin.NotReady i)) c c1 h =
    calm_same p l.length (event.Begin k t) (Refused (begin.NotReady i)) c c1 tt h.4
begin_calm p l k t (Err begin.AtBudget) c c1 h = calm_same p l.length (event.Begin k t) (Refused begin.AtBudget) c c1
    tt h.4
begin_calm p l k t (Err begin.OutOfMemory) c c1 h =
    subst (Calm p l.length (event.Begin k t) (Refused begin.OutOfMemory) c) (sym h.1)
    (calm_plain p l.length (event.Begin k t) (Refused begin.OutOfMemory) c (record c { cause = Some NoMemoryLeft })
    (record { image = refl; threads = refl; world = refl; history = refl }) refl (λ j n. refl) tt)

begin_publishes : {S : Type 0} (p : Prog S) (l : Limits) (e : Event) (result : Result (Unit {0}) BeginError)
    (c c1 : CoreState S) → IsQuiet c c1 → Publishes p l e (begin_reply result) c c1
begin_publishes p l e (Ok u) c c1 q = q
begin_publishes p l e (Err y) c c1 q = q

-- ---- solo

solo_calm : {S : Type 0} (p : Prog S) (most k : ℕ) (s : Segment S) (result : Result (Unit {0}) SoloError)
    (o o1 : Outer S) → o.core.segments k ≡ s → SoloedFrom s k result o o1 →
    Calm p most (event.Solo k) (solo_reply result) o.core o1.core
solo_calm {S} p most k (Doomed f) (Err (solo.Over y)) o o1 is h =
    calm_same p most (event.Solo k) (Unsolo (solo.Over y)) o.core o1.core tt (ap (λ (z : Outer S). z.core) h.1)
solo_calm {S} p most k (Running x) (Err (solo.Over y)) o o1 is h =
    calm_same p most (event.Solo k) (Unsolo (solo.Over y)) o.core o1.core tt (ap (λ (z : Outer S). z.core) h.1)
solo_calm {S} p most k (Running x) (Err (solo.Taken j)) o o1 is h =
    calm_same p most (event.Solo k) (Unsolo (solo.Taken j)) o.core o1.core tt (ap (λ (z : Outer S). z.core) h.2)
solo_calm {S} p most k (Doomed f) (Err (solo.Lost g)) o o1 is h =
    calm_idle p most (event.Solo k) (Unsolo (solo.Lost g)) o.core o1.core
    (cond-true (eqb k k) Idle (o.core.segments k) (eq-eqb k k refl), is ∙ ap Doomed (sym h.1))
    (ap (λ (z : Outer S). z.core) h.2)
solo_calm {S} p most k (Running x) (Ok u) o o1 is h =
    calm_set p most (event.Solo k) IsSolo (Running (soloed o.core.world x)) o.core o1.core tt
    (ap (λ (z : Outer S). z.core) h.2)
solo_calm p most k Idle result o o1 is h = absurd h
solo_calm p most k (Doomed f) (Err (solo.Taken j)) o o1 is h = absurd h
solo_calm p most k (Doomed f) (Ok u) o o1 is h = absurd h
solo_calm p most k (Running x) (Err (solo.Lost g)) o o1 is h = absurd h

solo_publishes : {S : Type 0} (p : Prog S) (l : Limits) (e : Event) (result : Result (Unit {0}) SoloError)
    (c c1 : CoreState S) → IsQuiet c c1 → Publishes p l e (solo_reply result) c c1
solo_publishes p l e (Ok u) c c1 q = q
solo_publishes p l e (Err y) c c1 q = q

-- ---- advance

-- no more steps are tried than were asked for
at_most : (most n : ℕ) (result : Result Advance AdvanceError) → CountsDone most n result → n + tried_after result ≤ most
at_most most n (Ok (Ran i)) h = let e = h.1 in omega arith
at_most most n (Ok (Waits i)) h = let e = h.1 in omega arith
at_most most n (Ok (Ended i)) h = let e = h.2 in omega arith
at_most most n (Ok (NeedSolo i)) h = let e = h.1 in omega arith
at_most most n (Err y) h = omega (arith, h)

module _ {S : Type 0} (p : Prog S) (l : Limits) (k m reserved : ℕ) where
  abbrev event_is : Event
  event_is = event.Advance k m

  abbrev Asks : ℕ → ℕ → CoreState S → CoreState S → Type 0
  Asks n b c u = Came p l.length k (IsAsked k) n b c u

  -- as an event that fails
  tries : Tries S event_is m (IsAsked k)
  tries = record {
    asks = refl;
    early = λ i lt. lt;
    ends = λ u c1 h. h;
    makes = λ c c1 f h. inl h;
    turns = λ c c1 f looked solo longer. inr (looked, solo, longer);
  }

  -- nothing is committed
  quiet_leaves : (result : Result Advance AdvanceError) (c c1 : CoreState S) →
      Calm p l.length event_is (advance_reply result) c c1 → Leaves p l event_is (advance_reply result) c c1
  quiet_leaves (Ok a) c c1 z = calm_leaves p l event_is (HasAdvanced a) c c1 (λ q. q) z
  quiet_leaves (Err (advance.Lost f)) c c1 z = calm_leaves p l event_is (Lost f) c c1 (λ q. q) z
  quiet_leaves (Err (advance.Failed y)) c c1 z = calm_leaves p l event_is (Failed y) c c1 (λ q. inl q) z

  module _ (n b : ℕ) (c u : CoreState S) (came : Asks n b c u) (few : b ≤ m) where
    in_time : (i : ℕ) → i < b → i < m
    in_time i lt = omega (arith, lt, few)

    stays : (a : Advance) (c1 : CoreState S) → c1 ≡ u → Leaves p l event_is (HasAdvanced a) c c1
    stays a c1 is = subst (Leaves p l event_is (HasAdvanced a) c) (sym is)
        (quiet_leaves (Ok a) c u (calm_end p l.length event_is (HasAdvanced a) (IsAsked k) n b c u came (λ f h. inl h)
        in_time (inl refl) tt))

    -- what comes after the steps
    ends_leave : (o : Outer S) (x : Transaction S) (result : Result Advance AdvanceError) (o1 : Outer S) → o.core ≡ u →
        u.segments k ≡ Running x → n + tried_after result ≤ b → Ends p k l.segments reserved l.words o x result o1 →
        Leaves p l event_is (advance_reply result) c o1.core
    ends_leave o x (Ok (Ran i)) o1 at runs le h = stays (Ran i) o1.core (ap (λ (z : Outer S). z.core) h.1 ∙ at)
    ends_leave o x (Ok (Waits i)) o1 at runs le h = stays (Waits i) o1.core (ap (λ (z : Outer S). z.core) h.2 ∙ at)
    ends_leave o x (Ok (Ended i)) o1 at runs le h = stays (Ended i) o1.core (ap (λ (z : Outer S). z.core) h.1 ∙ at)
    ends_leave o x (Ok (NeedSolo i)) o1 at runs le h =
        stays (NeedSolo i) o1.core (ap (λ (z : Outer S). z.core) h.3 ∙ at)
    ends_leave o x (Err (advance.Lost f)) o1 at runs le h =
        let own = asker_loses p l.length k f h.3 in
        let v = with_conflict f (with_segment k Idle u) in
        let last = came_loses p l.length k (IsAsked k) f u (subst (λ z. IsStanding p z f) at h.2)
        (h.3.segment, h.3.asks) own in
        let all = came_then p l.length k (IsAsked k) n b 0 1 b c u v (omega arith) le came last in
        let is : o1.core ≡ v = ap (λ (z : Outer S). z.core) h.4 ∙
        ap (λ z. with_conflict f (with_segment k Idle z)) at in
        subst (Leaves p l event_is (Lost f) c) (sym is)
        (quiet_leaves (Err (advance.Lost f)) c v
        (calm_end p l.length event_is (Lost f) (IsAsked k) (n + 0) b c v all (λ f h. inl h) in_time (inl refl)
        (cond-true (eqb k k) Idle (u.segments k) (eq-eqb k k refl), inr (Contains-push came.new f, own))))
    ends_leave o x (Err (advance.Failed y)) o1 at runs le h =
        fails_leave p l event_is m reserved (IsAsked k) tries n b c u came few o x y o1 at runs le h.1

  steps_leave : (o : Outer S) (result : Result Advance AdvanceError) (o1 : Outer S) →
      StepsTaken p l.length k l.segments m reserved l.words o result o1 →
      Leaves p l event_is (advance_reply result) o.core o1.core
  steps_leave o result o1 s =
      let n = s.steps in
      let more = tried_after result in
      let c = o.core in
      let done = came_tried p l.length k true n c s.gone.reached s.gone.steps in
      let rest = came_tried p l.length k false more s.gone.reached s.before s.gone.rest in
      let all = came_then p l.length k (IsAsked k) n n 0 more (n + more) c s.gone.reached s.before (omega arith)
      (omega arith) done rest in
      ends_leave (n + 0) (n + more) c s.before all (at_most m n result s.count)
      (record o { core = s.before; told = cond s.last.solo s.last.world o.told }) s.last result o1 refl s.runs
      (omega arith) s.ends

  advance_leaves : (s : Segment S) (o : Outer S) (result : Result Advance AdvanceError) (o1 : Outer S) →
      o.core.segments k ≡ s → AdvancedFrom s p l.length k l.segments m reserved l.words o result o1 →
      Leaves p l event_is (advance_reply result) o.core o1.core
  advance_leaves Idle o result o1 is h = absurd h
  advance_leaves (Doomed f) o result o1 is h =
      subst (λ (r : Result Advance AdvanceError). Leaves p l event_is (advance_reply r) o.core o1.core) (sym h.0)
      (quiet_leaves (Err (advance.Lost f)) o.core o1.core
      (calm_idle p l.length event_is (Lost f) o.core o1.core
      (cond-true (eqb k k) Idle (o.core.segments k) (eq-eqb k k refl), inl is) (ap (λ (z : Outer S). z.core) h.1)))
  advance_leaves (Running x) o result o1 is h = by_life (p.life x.state) refl
    where
      ended : (p.life x.state ≢ Lives) → Leaves p l event_is (advance_reply result) o.core o1.core
      ended n = let e = h.0 n in
          subst (λ (r : Result Advance AdvanceError). Leaves p l event_is (advance_reply r) o.core o1.core) (sym e.0)
          (quiet_leaves (Ok (Ended 0)) o.core o1.core
          (calm_same p l.length event_is (HasAdvanced (Ended 0)) o.core o1.core tt
          (ap (λ (z : Outer S). z.core) e.1)))

      by_life : (y : Life) → p.life x.state ≡ y → Leaves p l event_is (advance_reply result) o.core o1.core
      by_life Lives is = steps_leave o result o1 (h.1 is)
      by_life EndedLife is = ended (λ e. let clash : EndedLife ≡ Lives = sym is ∙ e in absurd cc)
      by_life FailedLife is = ended (λ e. let clash : FailedLife ≡ Lives = sym is ∙ e in absurd cc)

-- ---- commit

module _ {S : Type 0} (p : Prog S) (l : Limits) (i : ℕ) (x : Transaction S) where
  none_yet : (n : ℕ) → n < 1 → n ≡ 0
  none_yet n h = omega (arith, h)

  -- both passes, and the turn
  commit_done : (n : ℕ) (c : CoreState S) → c.segments i ≡ Running x → 1 ≤ x.steps → NoneWins i x c →
      n ≡ length c.history → (c1 : CoreState S) → c1 ≡ after_commit i x (range_with_len 0 l.segments) c →
      Leaves p l (event.Commit i) (HasCommitted n) c c1
  commit_done n c mine some none number c1 is =
      let js = range_with_len 0 l.segments in
      let d = doom_readers i x js c in
      let came = came_dooms p l.length i (IsLookedAt i) x (λ j y a. (refl, refl)) js c mine none in
      let cleared : Clears p l.length i x js c d = clears p l.length i x js c mine none in
      subst (Leaves p l (event.Commit i) (HasCommitted n) c) (sym is) (record {
        publishes = record {
          call = refl;
          x = x;
          runs = mine;
          number = number;
          turn =
              turn_added p l i x c c d.cause mine some none came.quiet;
        };
        beside = beside_end p l.length (event.Commit i) (IsLookedAt i) 0 1 c d (published i x d) came (λ f h. h)
            none_yet (inr (x, cleared.mine, refl)) refl
            (λ j q. cond-false (eqb j i) Idle (d.segments j) (ne_eqb j i q));
        told = tt;
      })

  beaten_calm : (f : Conflict) (c c1 : CoreState S) → Beaten p i x f c → c1 ≡ with_conflict f (with_segment i Idle c) →
      Calm p l.length (event.Commit i) (Lost f) c c1
  beaten_calm f c c1 b is =
      let own : (loser f).segment ≡ i = ap (λ (z : Side). z.segment)
      (cond-true (eqb f.lost 0) f.writer f.other (ap (λ n. eqb n 0) b.lost)) ∙ b.writer in
      let v = with_conflict f (with_segment i Idle c) in
      subst (Calm p l.length (event.Commit i) (Lost f) c) (sym is)
      (calm_end p l.length (event.Commit i) (Lost f) (IsLookedAt i) 0 1 c v
      (came_loses p l.length i (IsLookedAt i) f c b.stands (b.writer, b.looked) own) (λ g h. h) none_yet (inl refl)
      (cond-true (eqb i i) Idle (c.segments i) (eq-eqb i i refl), inr (Contains-push [] f, own)))

  commit_ends : (result : Result Commit Conflict) (c c1 : CoreState S) → c.segments i ≡ Running x →
      CommitEnds p i l.segments x result c c1 → Leaves p l (event.Commit i) (commit_reply result) c c1
  commit_ends (Ok commit.Nothing) c c1 is h = calm_leaves p l (event.Commit i) Nothing c c1 (λ q. q)
      (calm_idle p l.length (event.Commit i) Nothing c c1 tt h.1)
  commit_ends (Ok (commit.Committed n)) c c1 is h = commit_done n c is h.0 h.1 h.2 c1 h.3
  commit_ends (Err f) c c1 is h = calm_leaves p l (event.Commit i) (Lost f) c c1 (λ q. q) (beaten_calm f c c1 h.1 h.2)

commit_leaves : {S : Type 0} (p : Prog S) (l : Limits) (k : ℕ) (s : Segment S) (result : Result Commit Conflict)
    (c c1 : CoreState S) → c.segments k ≡ s → CommitOf p k l.segments s result c c1
    → Leaves p l (event.Commit k) (commit_reply result) c c1
commit_leaves p l k Idle result c c1 is h = absurd h
commit_leaves {S} p l k (Doomed f) result c c1 is h =
    subst (λ (r : Result Commit Conflict). Leaves p l (event.Commit k) (commit_reply r) c c1) (sym h.0)
    (calm_leaves p l (event.Commit k) (Lost f) c c1 (λ q. q)
    (calm_idle p l.length (event.Commit k) (Lost f) c c1
    (cond-true (eqb k k) Idle (c.segments k) (eq-eqb k k refl), inl is) h.1))
commit_leaves p l k (Running x) result c c1 is h = commit_ends p l k x result c c1 is h

-- ---- a piece

module _ {S : Type 0} (p : Prog S) (l : Limits) (k m : ℕ) where
  -- it makes no conflict before it ends
  abbrev NoConflict : Conflict → Type 0
  NoConflict f = ⊥

  -- as an event that fails
  piece_tries : Tries S (event.Piece k m) m NoConflict
  piece_tries = record {
    asks = refl;
    early = λ i lt. lt;
    ends = λ u c1 h. h;
    makes = λ c c1 f h. absurd h;
    turns = λ c c1 f looked solo longer. (looked, solo, longer);
  }

  -- there was no memory for its install: no step of it was done
  piece_failed : (reserved : ℕ) (o o1 : Outer S) → 1 ≤ m → IsGivenUp p k l.segments reserved l.words o o1 →
      Leaves p l (event.Piece k m) (Failed NoMemoryLeft) o.core o1.core
  piece_failed reserved o o1 some h =
      let none = came_none p l.length k NoConflict o.core in
      let came = came_then p l.length k NoConflict 0 0 0 0 1 o.core o.core o.core (omega arith) (omega arith) none
      none in
      fails_leave p l (event.Piece k m) m reserved NoConflict piece_tries (0 + 0) 1 o.core o.core came some o h.x
      NoMemoryLeft o1 refl h.runs (omega arith) h.fails

  ran_leaves : (r : Reply) (o o1 : Outer S) → 1 ≤ m → PieceRan p l k m r o o1 →
      Leaves p l (event.Piece k m) r o.core o1.core
  ran_leaves (Installed n) o o1 some h =
      let i = h.4 in
      calm_leaves p l (event.Piece k m) (Installed n) o.core o1.core (λ q. q)
      (calm_set p l.length (event.Piece k m) (Installed n) (Running i.after) o.core o1.core tt
      (ap (λ (z : Outer S). z.core) i.is))
  ran_leaves (Failed y) o o1 some h = subst (λ z. Leaves p l (event.Piece k m) (Failed z) o.core o1.core) (sym h.0)
      (piece_failed h.1 o o1 some h.2)
  ran_leaves OutOfMemory o o1 some h = calm_leaves p l (event.Piece k m) OutOfMemory o.core o1.core (λ q. q)
      (calm_same p l.length (event.Piece k m) OutOfMemory o.core o1.core tt (ap (λ (z : Outer S). z.core) h))
  ran_leaves _ o o1 some h = absurd h

  piece_leaves : (s : Segment S) (r : Reply) (o o1 : Outer S) → 1 ≤ m → o.core.segments k ≡ s →
      PieceFrom s p l k m r o o1 → Leaves p l (event.Piece k m) r o.core o1.core
  piece_leaves Idle r o o1 some is h = absurd h
  piece_leaves (Doomed f) r o o1 some is h =
      subst (λ z. Leaves p l (event.Piece k m) z o.core o1.core) (sym h.0)
      (calm_leaves p l (event.Piece k m) (Lost f) o.core o1.core (λ q. q)
      (calm_idle p l.length (event.Piece k m) (Lost f) o.core o1.core
      (cond-true (eqb k k) Idle (o.core.segments k) (eq-eqb k k refl), inl is) (ap (λ (z : Outer S). z.core) h.1)))
  piece_leaves (Running x) r o o1 some is h = by_life (p.life x.state) refl
    where
      ended : (p.life x.state ≢ Lives) → Leaves p l (event.Piece k m) r o.core o1.core
      ended n = let e = h.0 n in
          subst (λ z. Leaves p l (event.Piece k m) z o.core o1.core) (sym e.0)
          (calm_leaves p l (event.Piece k m) Skipped o.core o1.core (λ q. q)
          (calm_same p l.length (event.Piece k m) Skipped o.core o1.core tt (ap (λ (z : Outer S). z.core) e.1)))

      by_life : (y : Life) → p.life x.state ≡ y → Leaves p l (event.Piece k m) r o.core o1.core
      by_life Lives is = ran_leaves r o o1 some (h.1 is)
      by_life EndedLife is = ended (λ e. let clash : EndedLife ≡ Lives = sym is ∙ e in absurd cc)
      by_life FailedLife is = ended (λ e. let clash : FailedLife ≡ Lives = sym is ∙ e in absurd cc)

-- ---- events

made_leaves : {S : Type 0} (p : Prog S) (l : Limits) (e : Event) (r : Reply) (o o1 : Outer S) →
    may_make l o.core e ≡ true → Made p l e r o o1 → Leaves p l e r o.core o1.core
made_leaves p l (event.Begin k t) r o o1 may h =
    subst (λ r. Leaves p l (event.Begin k t) r o.core o1.core) (sym h.1)
    (calm_leaves p l (event.Begin k t) (begin_reply h.0) o.core o1.core
    (begin_publishes p l (event.Begin k t) h.0 o.core o1.core) (begin_calm p l k t h.0 o.core o1.core h.2.0))
made_leaves p l (event.Advance k m) r o o1 may h =
    subst (λ r. Leaves p l (event.Advance k m) r o.core o1.core) (sym h.2)
    (advance_leaves p l k m h.1 (o.core.segments k) o h.0 o1 refl h.3)
made_leaves p l (event.Solo k) r o o1 may h =
    subst (λ r. Leaves p l (event.Solo k) r o.core o1.core) (sym h.1)
    (calm_leaves p l (event.Solo k) (solo_reply h.0) o.core o1.core
    (solo_publishes p l (event.Solo k) h.0 o.core o1.core)
    (solo_calm p l.length k (o.core.segments k) h.0 o o1 refl h.2))
made_leaves p l (event.Commit k) r o o1 may h =
    subst (λ r. Leaves p l (event.Commit k) r o.core o1.core) (sym h.1)
    (commit_leaves p l k (o.core.segments k) h.0 o.core o1.core refl h.2.0)
made_leaves p l (event.Piece k m) r o o1 may h =
    piece_leaves p l k m (o.core.segments k) r o o1 (piece_asked l o.core k m may).1 refl h

event_leaves : {S : Type 0} (p : Prog S) (l : Limits) (e : Event) (b : Bool) (r : Reply) (o o1 : Outer S) →
    may_make l o.core e ≡ b → MadeIf p l e b r o o1 → Leaves p l e r o.core o1.core
event_leaves p l e true r o o1 may h = made_leaves p l e r o o1 may h
event_leaves {S} p l e false r o o1 may h =
    subst (λ r. Leaves p l e r o.core o1.core) (sym h.0)
    (calm_leaves p l e Skipped o.core o1.core (λ q. q)
    (calm_same p l.length e Skipped o.core o1.core tt (ap (λ (z : Outer S). z.core) h.1)))

pub all_leave : {S : Type 0} (p : Prog S) (l : Limits) (es : List Event) (rs : List Reply) (o o1 : Outer S) →
    EventsMade p l es rs o o1 → AllLeave p l es rs o.core o1.core
all_leave {S} p l [] [] o o1 h = ap (λ (z : Outer S). z.core) h
all_leave p l [] (r ∷ rs) o o1 h = absurd h
all_leave p l (e ∷ es) [] o o1 h = absurd h
all_leave {S} p l (e ∷ es) (r ∷ rs) o o1 h =
    let u : Outer S = h.0 in
    (u.core, event_leaves p l e (may_make l o.core e) r o u refl h.1, all_leave p l es rs u o1 h.2)

-- ---- from the first to the last

-- the numbers of turns that were replied, and how many events failed
record Grown {S : Type 0} (numbers : List ℕ) (failed : ℕ) (c c1 : CoreState S) : Type 0 where
  turns : List Turn
  history : c1.history ≡ c.history ++ turns
  ascend : AllPairs (λ (m n : ℕ). m < n) numbers
  places : All (λ (n : ℕ). (length c.history ≤ n) × (n < length c1.history)) numbers
  others : length turns ≤ length numbers + failed
  new : List Conflict
  conflicts : c1.conflicts ≡ c.conflicts ++ new
  quiet : turns ≡ [] → IsQuiet c c1

module _ {S : Type 0} (ns : List ℕ) (failed : ℕ) (c u c1 : CoreState S) (new : List Conflict)
    (more : u.conflicts ≡ c.conflicts ++ new) (g : Grown ns failed u c1) where
  grown_conflicts : c1.conflicts ≡ c.conflicts ++ (new ++ g.new)
  grown_conflicts = g.conflicts ∙ ap (λ h. h ++ g.new) more ∙ append_assoc c.conflicts new g.new

  -- places in what comes after are places
  grown_places : length c.history ≤ length u.history →
      All (λ (n : ℕ). (length c.history ≤ n) × (n < length c1.history)) ns
  grown_places le = All-weaker (λ (n : ℕ). (length u.history ≤ n) × (n < length c1.history))
      (λ (n : ℕ). (length c.history ≤ n) × (n < length c1.history)) (λ n h. (let a = h.0 in omega (arith, le, a), h.1))
      ns g.places

  -- nothing was committed
  grown_quiet : (i : ℕ) → failed ≤ i → IsQuiet c u → Grown ns i c c1
  grown_quiet i le q = record {
    turns = g.turns;
    history = g.history ∙ ap (λ h. h ++ g.turns) q.history;
    ascend = g.ascend;
    places = grown_places (let e = ap length q.history in omega (arith, e));
    others = let o = g.others in omega (arith, o, le);
    new = new ++ g.new;
    conflicts = grown_conflicts;
    quiet = λ e. quiet_then c u c1 q (g.quiet e);
  }

  -- a turn was added
  module _ (t : Turn) (is : u.history ≡ c.history ++ t ∷ []) where
    one_more : length u.history ≡ length c.history + 1
    one_more = ap length is ∙ length-append c.history (t ∷ [])

    with_turn : c1.history ≡ c.history ++ t ∷ g.turns
    with_turn = g.history ∙ ap (λ h. h ++ g.turns) is ∙ append_assoc c.history (t ∷ []) g.turns

    -- with its number
    grown_commit : (n i : ℕ) → failed ≤ i → n ≡ length c.history → Grown (n ∷ ns) i c c1
    grown_commit n i le number = record {
      turns = t ∷ g.turns;
      history = with_turn;
      ascend = AllPairs-cons (λ (m n : ℕ). m < n) n ns
          (All-weaker (λ (j : ℕ). (length u.history ≤ j) × (j < length c1.history)) (λ j. n < j)
          (λ j h. let a = h.0 in omega (arith, a, one_more, number)) ns g.places) g.ascend;
      places = All-cons (λ (j : ℕ). (length c.history ≤ j) × (j < length c1.history)) n ns (
        omega (arith, number),
        let e = ap length with_turn ∙ length-append c.history (t ∷ g.turns) in
            omega (arith, e, number),
      ) (grown_places (omega (arith, one_more)));
      others = let o = g.others in omega (arith, o, le);
      new = new ++ g.new;
      conflicts = grown_conflicts;
      quiet = λ e. absurd cc;
    }

    -- without one
    grown_cut : (i : ℕ) → suc failed ≤ i → Grown ns i c c1
    grown_cut i le = record {
      turns = t ∷ g.turns;
      history = with_turn;
      ascend = g.ascend;
      places = grown_places (omega (arith, one_more));
      others = let o = g.others in omega (arith, o, le);
      new = new ++ g.new;
      conflicts = grown_conflicts;
      quiet = λ e. absurd cc;
    }

grown_one : {S : Type 0} (p : Prog S) (l : Limits) (e : Event) (r : Reply) (rs : List Reply) (c u c1 : CoreState S)
    (new : List Conflict) → Publishes p l e r c u → u.conflicts ≡ c.conflicts ++ new →
    Grown (numbers_of rs) (count_by has_failed rs) u c1
    → Grown (numbers_of (r ∷ rs)) (count_by has_failed (r ∷ rs)) c c1
grown_one {S} p l e r rs c u c1 new q f g = by_reply r q (sum_by-cons (λ (z : Reply). cond (has_failed z) 1 0) r rs)
  where
    by_reply : (r : Reply) → Publishes p l e r c u → count_by has_failed (r ∷ rs) ≡ cond (has_failed r) 1 0 + count_by
        has_failed rs → Grown (numbers_of (r ∷ rs)) (count_by has_failed (r ∷ rs)) c c1
    by_reply (HasCommitted n) q is = grown_commit (numbers_of rs) (count_by has_failed rs) c u c1 new f g (turn_of q.x)
        q.turn.history n (count_by has_failed (HasCommitted n ∷ rs)) (omega (arith, is)) q.number
    by_reply (Failed y) (inl q) is = grown_quiet (numbers_of rs) (count_by has_failed rs) c u c1 new f g
        (count_by has_failed (Failed y ∷ rs)) (omega (arith, is)) q
    by_reply (Failed y) (inr q) is = grown_cut (numbers_of rs) (count_by has_failed rs) c u c1 new f g (turn_of q.x)
        q.turn.history (count_by has_failed (Failed y ∷ rs)) (omega (arith, is))
    by_reply Skipped q is = grown_quiet (numbers_of rs) (count_by has_failed rs) c u c1 new f g
        (count_by has_failed (Skipped ∷ rs)) (omega (arith, is)) q
    by_reply HasBegun q is = grown_quiet (numbers_of rs) (count_by has_failed rs) c u c1 new f g
        (count_by has_failed (HasBegun ∷ rs)) (omega (arith, is)) q
    by_reply (Refused y) q is = grown_quiet (numbers_of rs) (count_by has_failed rs) c u c1 new f g
        (count_by has_failed (Refused y ∷ rs)) (omega (arith, is)) q
    by_reply (HasAdvanced a) q is = grown_quiet (numbers_of rs) (count_by has_failed rs) c u c1 new f g
        (count_by has_failed (HasAdvanced a ∷ rs)) (omega (arith, is)) q
    by_reply IsSolo q is = grown_quiet (numbers_of rs) (count_by has_failed rs) c u c1 new f g
        (count_by has_failed (IsSolo ∷ rs)) (omega (arith, is)) q
    by_reply (Unsolo y) q is = grown_quiet (numbers_of rs) (count_by has_failed rs) c u c1 new f g
        (count_by has_failed (Unsolo y ∷ rs)) (omega (arith, is)) q
    by_reply Nothing q is = grown_quiet (numbers_of rs) (count_by has_failed rs) c u c1 new f g
        (count_by has_failed (Nothing ∷ rs)) (omega (arith, is)) q
    by_reply (Lost y) q is = grown_quiet (numbers_of rs) (count_by has_failed rs) c u c1 new f g
        (count_by has_failed (Lost y ∷ rs)) (omega (arith, is)) q
    by_reply (Installed n) q is = grown_quiet (numbers_of rs) (count_by has_failed rs) c u c1 new f g
        (count_by has_failed (Installed n ∷ rs)) (omega (arith, is)) q
    by_reply Unfit q is = grown_quiet (numbers_of rs) (count_by has_failed rs) c u c1 new f g
        (count_by has_failed (Unfit ∷ rs)) (omega (arith, is)) q
    by_reply OutOfMemory q is = grown_quiet (numbers_of rs) (count_by has_failed rs) c u c1 new f g
        (count_by has_failed (OutOfMemory ∷ rs)) (omega (arith, is)) q

grown : {S : Type 0} (p : Prog S) (l : Limits) (es : List Event) (rs : List Reply) (c c1 : CoreState S) →
    AllLeave p l es rs c c1 → Grown (numbers_of rs) (count_by has_failed rs) c c1
grown {S} p l [] [] c c1 h = record {
  turns = [];
  history = ap (λ (z : CoreState S). z.history) h ∙ sym (append-nil c.history);
  ascend = λ i j d lt below. absurd (omega (arith, below));
  places = All-nil (λ (n : ℕ). (length c.history ≤ n) × (n < length c1.history));
  others = omega arith;
  new = [];
  conflicts = ap (λ (z : CoreState S). z.conflicts) h ∙ sym (append-nil c.conflicts);
  quiet = λ e. subst (IsQuiet c) (sym h) (quiet_none c);
}
grown p l [] (r ∷ rs) c c1 h = absurd h
grown p l (e ∷ es) [] c c1 h = absurd h
grown p l (e ∷ es) (r ∷ rs) c c1 h = grown_one p l e r rs c h.0 c1 h.1.beside.new h.1.publishes h.1.beside.conflicts
    (grown p l es rs h.0 c1 h.2)

pub all_grown : {S : Type 0} (p : Prog S) (l : Limits) (es : List Event) (rs : List Reply) (c c1 : CoreState S) →
    AllLeave p l es rs c c1 → IsGrown rs c c1
all_grown p l es rs c c1 h =
    let g = grown p l es rs c c1 h in
    record {
      turns = g.turns;
      history = g.history;
      ascend = g.ascend;
      places = g.places;
      others = g.others;
      new =
          g.new;
      conflicts = g.conflicts;
      quiet = g.quiet;
    }
