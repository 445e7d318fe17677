-- What each call of a core keeps of what explains its peaks.
use Rattle.std.proofs.Common.{◌≡◌, inl, ℕ, zero, suc, ◌<◌, ◌≤◌, Bool, true, false, cond, List, [], ◌∷◌, ◌++◌, Some, Result, Ok, Err, refl, sym, ap, subst, ◌∙◌, arith}
use Rattle.std.specs.List.{range_with_len}
use Rattle.py_data.specs.Heap.{Heap}
use Rattle.lock_run.specs.declared.client.Life.{Life}
use Rattle.lock_run.specs.declared.client.Life.TheVariants.{Lives, Ended as EndedLife, Failed as FailedLife}
use Rattle.lock_run.specs.Client.{WaitsQuietly, StaysSound, IsSafe}
use Rattle.lock_run.specs.Prog.{Prog}
use Rattle.lock_run.specs.Machine.{Machine, DoesTurn, Runs}
use Rattle.py_data.specs.declared.stop.Conflict.{Conflict}
use Rattle.seg_store.specs.Meaning.{overlay}
use Rattle.stm_core.specs.declared.answers.Advance.{Advance}
use Rattle.stm_core.specs.declared.answers.Advance.TheVariants.{Ran, Waits, Ended, NeedSolo}
use Rattle.stm_core.specs.declared.answers.AdvanceError.{AdvanceError}
use Rattle.stm_core.specs.declared.answers.AdvanceError.TheVariants.{Lost, Failed}
use Rattle.stm_core.specs.declared.begin.BeginError.{BeginError}
use Rattle.stm_core.specs.declared.begin.BeginError.TheVariants.{Over, Busy, NotReady, AtBudget, OutOfMemory as NoMemory}
use Rattle.stm_core.specs.declared.commit.Commit.{Commit}
use Rattle.stm_core.specs.declared.commit.Commit.TheVariants.{Committed as AtTurn, Nothing}
use Rattle.stm_core.specs.declared.solo.SoloError.{SoloError}
use Rattle.stm_core.specs.declared.solo.SoloError.TheVariants.{Over as OverSolo, Lost as LostSolo, Taken}
use Rattle.stm_segment.specs.declared.cause.Cause.{Cause}
use Rattle.stm_segment.specs.declared.cause.Cause.TheVariants.{Full, ReadFault, WriteFault, ErrFault, OutOfMemory}
use Rattle.stm_core.specs.Advance.{moves_of}
use Rattle.stm_core.specs.Advanced.{CountsDone, tried_after, IsStepCause, with_cause, IsSoloCause, Fails, Ends, StepsTaken, AdvancedFrom, Advanced}
use Rattle.stm_core.specs.Begun.{Begun}
use Rattle.stm_core.specs.Committed.{CommitEnds, CommitOf, Committed}
use Rattle.stm_segment.specs.CoreState.{Transaction, Segment, Idle, Doomed, Running, CoreState, committed, turn_of, world_after, threads_after, with_segment, with_conflict, soloed, first_cause}
use Rattle.stm_core.specs.Good.{Good}
use Rattle.stm_core.specs.Moves.{begun_at, Move, Follows}
use Rattle.stm_core.specs.Outside.{Outer}
use Rattle.stm_core.specs.Passes.{doom_readers, after_commit}
use Rattle.stm_core.specs.Solo.{SoloedFrom, Soloed, up_to_whole}
use Rattle.stm_core.proofs.Publish.{publish_turn}
use Rattle.heap_bound.specs.Laws.{IsStart, MayStep, AdvanceLaw, BeginLaw, SoloLaw, CommitLaw}
use Rattle.heap_bound.specs.Moments.{IsWanted, WantedBy, IsExplained}
use Rattle.heap_bound.specs.Using.{Lifts}
use Rattle.heap_bound.proofs.Cutting.{transaction_wanted}
use Rattle.heap_bound.proofs.Unmoved.{tried_leaves, both_leave, OnlyDooms, readers_doomed}
use Rattle.heap_bound.proofs.Explaining.{once_now, wanted_later, explained_after, explained_same, explained_kept}

-- ---- a commit

module _ {S : Type 0} (p : Prog S) (start : Machine S) (most segments : ℕ) where
  lifts_none : (m : Machine S) (f : ℕ → ℕ) → Lifts p most segments m f f
  lifts_none m f c lo = inl (omega arith)

  module _ (f : ℕ → ℕ) (u : CoreState S) (good : Good p start most u) (e : IsExplained p start most segments f u) where
    -- a state with the same history, committed state and cause
    alike : (c : CoreState S) → c.history ≡ u.history → committed c ≡ committed u → c.cause ≡ u.cause →
        IsExplained p start most segments f c
    alike c h m q = explained_same p start most segments u c f f good e (lifts_none (committed u) f) h m q

    module _ (k : ℕ) (x : Transaction S) (js : List ℕ) (is : u.segments k ≡ Running x) (some : 1 ≤ x.steps) where
      commit_runs : Runs p (committed u) (turn_of x ∷ []) (committed (after_commit k x js u))
      commit_runs = (committed (after_commit k x js u), turn, refl)
        where
          d : OnlyDooms u (doom_readers k x js u)
          d = readers_doomed k x js u

          same : record {
            heap = overlay u.image x.changes;
            threads = threads_after u.threads x;
            world = world_after u.world x;
          } ≡
              committed (after_commit k x js u)
          same = λ i. record {
            heap = overlay (sym d.image i) x.changes;
            threads = threads_after (sym d.threads i) x;
            world = world_after (sym d.world i) x;
          }

          turn : DoesTurn p (committed u) (turn_of x) (committed (after_commit k x js u))
          turn = subst (DoesTurn p (committed u) (turn_of x)) same
              (publish_turn p u.image u.threads u.world x (good.stands k x is) some)

      commit_history : (after_commit k x js u).history ≡ u.history ++ turn_of x ∷ []
      commit_history = ap (λ h. h ++ turn_of x ∷ []) (readers_doomed k x js u).history

      commit_explained : IsExplained p start most segments f (after_commit k x js u)
      commit_explained = explained_after p start most segments u (after_commit k x js u) f f (turn_of x ∷ []) good e
          (lifts_none (committed u) f) commit_history commit_runs (readers_doomed k x js u).cause

      -- and what was wanted before
      commit_wanted : (c : Cause) → WantedBy p start most u.history (committed u) (Some c) →
          WantedBy p start most (after_commit k x js u).history (committed (after_commit k x js u)) (Some c)
      commit_wanted c w = subst (λ h. WantedBy p start most h (committed (after_commit k x js u)) (Some c))
          (sym commit_history) (wanted_later p start most u.history (turn_of x ∷ []) (committed u)
          (committed (after_commit k x js u)) (Some c) w commit_runs)

    -- a commit up to the last whole step, for a cause
    pub whole_explained : (k n : ℕ) (x : Transaction S) (c : Cause) → u.segments k ≡ Running x →
        WantedBy p start most u.history (committed u) (Some c) → (j : ℕ) → x.steps ≡ j →
        IsExplained p start most segments f (record (up_to_whole k n x j u) { cause = first_cause u.cause c })
    whole_explained k n x c is w zero q = explained_kept p start most segments u
        (record (with_segment k Idle u) { cause = first_cause u.cause c }) f c e w refl refl refl
    whole_explained k n x c is w (suc j) q =
        let js = range_with_len 0 n in
        let some : 1 ≤ x.steps = omega (arith, q) in
        explained_kept p start most segments (after_commit k x js u)
        (record (after_commit k x js u) { cause = first_cause u.cause c }) f c (commit_explained k x js is some)
        (commit_wanted k x js is some c w) refl refl (ap (λ z. first_cause z c) (sym (readers_doomed k x js u).cause))

    -- ---- the calls that leave the peaks

    pub begun_explained : (k t budget : ℕ) (r : Result (Unit {0}) BeginError) (c1 : CoreState S) →
        Begun p k t budget r u c1 →
        IsExplained p start most segments f c1
    begun_explained k t budget (Ok v) c1 b = subst (IsExplained p start most segments f) (sym b.1)
        (alike (begun_at k t b.0.ready.state u) refl refl refl)
    begun_explained k t budget (Err (Over c)) c1 b = subst (IsExplained p start most segments f) (sym b.1) e
    begun_explained k t budget (Err (Busy i)) c1 b = subst (IsExplained p start most segments f) (sym b.3) e
    begun_explained k t budget (Err (NotReady s)) c1 b = subst (IsExplained p start most segments f) (sym b.4) e
    begun_explained k t budget (Err AtBudget) c1 b = subst (IsExplained p start most segments f) (sym b.4) e
    begun_explained k t budget (Err NoMemory) c1 b = subst (IsExplained p start most segments f) (sym b.1)
        (explained_kept p start most segments u (record u { cause = Some OutOfMemory }) f OutOfMemory e tt refl refl
        (ap (λ z. first_cause z OutOfMemory) (sym b.0.goes_on)))

    pub soloed_explained : (k : ℕ) (r : Result (Unit {0}) SoloError) (o o1 : Outer S) → o.core ≡ u → Soloed k r o o1 →
        IsExplained p start most segments f o1.core
    soloed_explained k r o o1 same a = from (o.core.segments k) r a
      where
        of_core : IsExplained p start most segments f o.core
        of_core = subst (IsExplained p start most segments f) (sym same) e

        idle : (s : Segment S) → IsExplained p start most segments f (with_segment k s o.core)
        idle s = subst (λ z. IsExplained p start most segments f (with_segment k s z)) (sym same)
            (alike (with_segment k s u) refl refl refl)

        here : (z : CoreState S) → IsExplained p start most segments f z → o1.core ≡ z →
            IsExplained p start most segments f o1.core
        here z x q = subst (IsExplained p start most segments f) (sym q) x

        from : (s : Segment S) (r : Result (Unit {0}) SoloError) → SoloedFrom s k r o o1 →
            IsExplained p start most segments f o1.core
        from (Doomed g) (Err (OverSolo c)) q = here o.core of_core (ap (λ (z : Outer S). z.core) q.1)
        from (Running x) (Err (OverSolo c)) q = here o.core of_core (ap (λ (z : Outer S). z.core) q.1)
        from (Doomed g) (Err (LostSolo h)) q = here (with_segment k Idle o.core) (idle Idle)
            (ap (λ (z : Outer S). z.core) q.2)
        from (Running x) (Err (Taken j)) q = here o.core of_core (ap (λ (z : Outer S). z.core) q.2)
        from (Running x) (Ok v) q = here (with_segment k (Running (soloed o.core.world x)) o.core)
            (idle (Running (soloed o.core.world x))) (ap (λ (z : Outer S). z.core) q.2)
        from Idle r q = absurd q
        from (Doomed g) (Err (Taken j)) q = absurd q
        from (Doomed g) (Ok v) q = absurd q
        from (Running x) (Err (LostSolo h)) q = absurd q

    pub committed_explained : (k n : ℕ) (r : Result Commit Conflict) (c1 : CoreState S) → Committed p k n r u c1 →
        IsExplained p start most segments f c1
    committed_explained k n r c1 a = from (u.segments k) refl r a
      where
        ends : (x : Transaction S) → u.segments k ≡ Running x → (r : Result Commit Conflict) →
            CommitEnds p k n x r u c1 →
            IsExplained p start most segments f c1
        ends x is (Ok Nothing) q = subst (IsExplained p start most segments f) (sym q.1)
            (alike (with_segment k Idle u) refl refl refl)
        ends x is (Ok (AtTurn i)) q = subst (IsExplained p start most segments f) (sym q.3)
            (commit_explained k x (range_with_len 0 n) is q.0)
        ends x is (Err g) q = subst (IsExplained p start most segments f) (sym q.2)
            (alike (with_conflict g (with_segment k Idle u)) refl refl refl)

        from : (s : Segment S) → u.segments k ≡ s → (r : Result Commit Conflict) → CommitOf p k n s r u c1 →
            IsExplained p start most segments f c1
        from Idle is r q = absurd q
        from (Doomed g) is r q = subst (IsExplained p start most segments f) (sym q.1)
            (alike (with_segment k Idle u) refl refl refl)
        from (Running x) is r q = ends x is r q

-- ---- an advance

-- a list of moves keeps a core good
abbrev pub GoodAfter : Type 0 → Type 0
GoodAfter S = (p : Prog S) (start : Machine S) (most : ℕ) (k k1 : CoreState S) (ms : List (Move S)) →
    Good p start most k → Follows p most k ms k1 → Good p start most k1

module _ {S : Type 0} (p : Prog S) (sound : Heap → List S → Type 0) (law : StaysSound p sound) (safe : IsSafe p sound)
    (quiet : WaitsQuietly p) (after : GoodAfter S) (start : Machine S) (begins : IsStart sound start)
    (most k n reserved limit segments : ℕ)
    (g : ℕ → ℕ) where
  abbrev Explained : CoreState S → Type 0
  Explained c = IsExplained p start most segments g c

  -- why the step was cut
  step_wanted : (u : CoreState S) → Good p start most u → (x : Transaction S) → MayStep p most u k x → (c : Cause) →
      IsStepCause p u x reserved limit c → WantedBy p start most u.history (committed u) (Some c)
  step_wanted u good x m (Full r need l) w = once_now p start u.history (committed u) (λ z. IsWanted p most z need)
      good.run
      (transaction_wanted p sound law safe quiet start begins most u good k x m w.0.call w.0.next w.0.place w.0.upto
      need
      w.0.is)
  step_wanted u good x m OutOfMemory w = tt
  step_wanted u good x m ReadFault w = absurd w
  step_wanted u good x m WriteFault w = absurd w
  step_wanted u good x m ErrFault w = absurd w

  solo_wanted : (u : CoreState S) → Good p start most u → (x : Transaction S) → MayStep p most u k x → (c : Cause) →
      IsSoloCause p u x reserved limit c → WantedBy p start most u.history (committed u) (Some c)
  solo_wanted u good x m (Full r need l) w = step_wanted u good x m (Full r need l) w
  solo_wanted u good x m OutOfMemory w = tt
  solo_wanted u good x m ReadFault w = tt
  solo_wanted u good x m WriteFault w = tt
  solo_wanted u good x m ErrFault w = tt

  module _ (v : Outer S) (good : Good p start most v.core) (e : Explained v.core) (x : Transaction S) (o1 : Outer S)
    where
      here : (z : Outer S) → o1 ≡ z → Explained z.core → Explained o1.core
      here z q w = subst (λ (y : Outer S). Explained y.core) (sym q) w

      failed : MayStep p most v.core k x → (solo : Bool) (c : Cause) → Fails solo p k n reserved limit c v x o1 →
          Explained o1.core
      failed m false c w = here (record v { core = with_cause c (with_segment k Idle v.core) }) w.1
          (explained_kept p start most segments v.core (with_cause c (with_segment k Idle v.core)) g c e
          (step_wanted v.core good x m c w.0) refl refl refl)
      failed m true c w = subst (λ (y : Outer S). Explained y.core) (sym w.1.gives)
          (whole_explained p start most segments g v.core good e k n x c m.runs (solo_wanted v.core good x m c w.0)
          x.steps
          refl)

      ends : v.core.segments k ≡ Running x → (asked done : ℕ) → (done < asked → suc x.steps ≤ most) →
          (r : Result Advance AdvanceError) → CountsDone asked done r → Ends p k n reserved limit v x r o1 →
          Explained o1.core
      ends is asked done room (Ok (Ran i)) count w = here v w.1 e
      ends is asked done room (Ok (Waits i)) count w = here v w.2 e
      ends is asked done room (Ok (Ended i)) count w = here v w.1 e
      ends is asked done room (Ok (NeedSolo i)) count w = here v w.3 e
      ends is asked done room (Err (Lost f)) count w =
          here (record v { core = with_conflict f (with_segment k Idle v.core) }) w.4
          (alike p start most segments g v.core good e (with_conflict f (with_segment k Idle v.core)) refl refl refl)
      ends is asked done room (Err (Failed c)) count w =
          failed (record { runs = is; small = room count; lives = w.0 }) x.solo c w.1

  module _ (f : ℕ → ℕ) (o : Outer S) (good : Good p start most o.core) (e : IsExplained p start most segments f o.core)
      (lifts : Lifts p most segments (committed o.core) f g) (asked : ℕ) where
    like : (c : CoreState S) → c.history ≡ o.core.history → committed c ≡ committed o.core → c.cause ≡ o.core.cause →
        Explained c
    like c h m q = explained_same p start most segments o.core c f g good e lifts h m q

    taken : (r : Result Advance AdvanceError) (o1 : Outer S) → StepsTaken p most k n asked reserved limit o r o1 →
        Explained o1.core
    taken r o1 t =
        let first = t.gone.steps in
        let second = t.gone.rest in
        let one = tried_leaves p most k true t.steps o.core t.gone.reached first in
        let two = tried_leaves p most k false (tried_after r) t.gone.reached t.before second in
        let same = both_leave o.core t.gone.reached t.before one two in
        let once = after p start most o.core t.gone.reached (moves_of first.tries) good first.follows in
        let x = t.last in
        let v : Outer S = record o { core = t.before; told = cond x.solo x.world o.told } in
        ends v (after p start most t.gone.reached t.before (moves_of second.tries) once second.follows)
        (like t.before same.history same.base (second.cause ∙ first.cause)) x o1 t.runs asked t.steps t.room r t.count
        t.ends

    pub advanced_explained : (r : Result Advance AdvanceError) (o1 : Outer S) →
        Advanced p most k n asked reserved limit o r o1 → Explained o1.core
    advanced_explained r o1 a = from (o.core.segments k) a
      where
        by_life : (x : Transaction S) (l : Life) → p.life x.state ≡ l →
            AdvancedFrom (Running x) p most k n asked reserved limit o r o1 → Explained o1.core
        by_life x Lives q w = taken r o1 (w.1 q)
        by_life x EndedLife q w = subst (λ (y : Outer S). Explained y.core)
            (sym (w.0 (λ z. (let s : EndedLife ≡ Lives = sym q ∙ z in cc))).1)
            (like o.core refl refl refl)
        by_life x FailedLife q w = subst (λ (y : Outer S). Explained y.core)
            (sym (w.0 (λ z. (let s : FailedLife ≡ Lives = sym q ∙ z in cc))).1)
            (like o.core refl refl refl)

        from : (s : Segment S) → AdvancedFrom s p most k n asked reserved limit o r o1 → Explained o1.core
        from Idle w = absurd w
        from (Doomed d) w = subst (λ (y : Outer S). Explained y.core) (sym w.1)
            (like (with_segment k Idle o.core) refl refl refl)
        from (Running x) w = by_life x (p.life x.state) refl w

-- ---- the laws

pub begin_law : {S : Type 0} → BeginLaw S
begin_law p start most segments f u good e k t budget r c1 b =
    begun_explained p start most segments f u good e k t budget r c1 b

pub solo_law : {S : Type 0} → SoloLaw S
solo_law p start most segments f o o1 good e k r a = soloed_explained p start most segments f o.core good e k r o o1
    refl a

pub commit_law : {S : Type 0} → CommitLaw S
commit_law p start most segments f u good e k n r c1 a = committed_explained p start most segments f u good e k n r c1 a

pub advance_law : {S : Type 0} (p : Prog S) (sound : Heap → List S → Type 0) → StaysSound p sound → IsSafe p sound →
    WaitsQuietly p → GoodAfter S → AdvanceLaw p sound
advance_law p sound law safe quiet after start begins most segments k n asked reserved limit f g o o1 r good e lifts a =
    advanced_explained p sound law safe quiet after start begins most k n reserved limit segments g f o good e lifts
    asked r
    o1 a
