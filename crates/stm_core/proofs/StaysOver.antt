-- A run that has ended stays so where the core is handed out.
use Rattle.std.proofs.Common.{◌≡◌, ◌≢◌, ℕ, Some, None, Ok, refl, sym, ◌∙◌, ap, subst, inl, inr, arith}
use Rattle.std.specs.List.{range_with_len}
use Rattle.lock_run.specs.Prog.{Prog}
use Rattle.lock_run.specs.Machine.{Machine}
use Rattle.lock_run.specs.RunState.{IsDone, SomeReady}
use Rattle.stm_segment.specs.declared.cause.Cause.{Cause}
use Rattle.stm_core.specs.declared.commit.Commit.{Commit}
use Rattle.stm_core.specs.declared.commit.Commit.TheVariants.{Committed as AtTurn, Nothing}
use Rattle.stm_core.specs.declared.standing.RunState.{RunState}
use Rattle.stm_core.specs.declared.standing.RunState.TheVariants.{Running as GoesOn, Done, Stuck, Spent, Faulted}
use Rattle.stm_segment.specs.CoreState.{Transaction, Segment, Idle, Running, CoreState, committed}
use Rattle.stm_core.specs.Good.{Good}
use Rattle.stm_core.specs.Outside.{Outer}
use Rattle.stm_core.specs.Committed.{CommitEnds, CommitOf}
use Rattle.stm_core.specs.Standing.{IsOutcome, SomeRuns}
use Rattle.stm_core.specs.Finishing.{SettlesSolo, idle_core}
use Rattle.stm_core.proofs.SoloMoves.{doom_leaves}

-- ---- a commit leaves the cause

ends_cause : {S : Type 0} (p : Prog S) (k n : ℕ) (x : Transaction S) (r : Commit) (c c1 : CoreState S) →
    CommitEnds p k n x (Ok r) c c1 → c1.cause ≡ c.cause
ends_cause p k n x Nothing c c1 h = ap (λ z. z.cause) h.1
ends_cause p k n x (AtTurn i) c c1 h = ap (λ z. z.cause) h.3 ∙ (doom_leaves k x (range_with_len 0 n) c).cause

-- ---- what has ended doesn't go on

none_ready : {S : Type 0} (p : Prog S) (m : Machine S) → IsDone p m → SomeReady p m → ⊥
none_ready p m done r = done r.0 r.1 r.2 r.3.0

kept_over : {S : Type 0} (p : Prog S) (budget : ℕ) (c : CoreState S) (e : Cause) → c.cause ≡ Some e →
    IsOutcome p budget c GoesOn → ⊥
kept_over p budget c e kept (inl g) = absurd (let q : None ≡ Some e = sym g.0 ∙ kept in cc)
kept_over p budget c e kept (inr g) = absurd (let q : None ≡ Some e = sym g.0.0 ∙ kept in cc)

idle_runs : {S : Type 0} (c : CoreState S) → SomeRuns (idle_core c) → ⊥
idle_runs {S} c r = absurd (let q : ◌≡◌ {A = Segment S} Idle (Running r.1) = r.2 in cc)

-- where what runs is dropped
dropped_over : {S : Type 0} (p : Prog S) (budget : ℕ) (c : CoreState S) (s : RunState) → IsOutcome p budget c s →
    s ≢ GoesOn → IsOutcome p budget (idle_core c) GoesOn → ⊥
dropped_over p budget c (Faulted e) h over g = kept_over p budget (idle_core c) e h g
dropped_over p budget c GoesOn h over g = over refl
dropped_over p budget c _ h over (inl g) = idle_runs c g.2
dropped_over p budget c Done h over (inr g) = none_ready p (committed c) h.1 g.1.0
dropped_over p budget c Stuck h over (inr g) =
    let r = g.1.0 in
    let w = h.1.1 r.0 r.1 r.2 r.3.0 c.world in
    r.3.1 c.world w.0 w.1 w.2
dropped_over p budget c Spent h over (inr g) = let least = h.1.1 in let most = g.1.1 in omega (arith, least, most)

-- where a transaction runs, only a cause has ended the run
runs_over : {S : Type 0} (p : Prog S) (start : Machine S) (most budget k n : ℕ) (x : Transaction S) (r : Commit)
    (c c1 : CoreState S) (s : RunState) → Good p start most c → c.segments k ≡ Running x →
    CommitEnds p k n x (Ok r) c c1 → IsOutcome p budget c s → s ≢ GoesOn → IsOutcome p budget (idle_core c1) GoesOn → ⊥
runs_over p start most budget k n x r c c1 (Faulted e) good runs ends h over g =
    kept_over p budget (idle_core c1) e (ends_cause p k n x r c c1 ends ∙ h) g
runs_over p start most budget k n x r c c1 GoesOn good runs ends h over g = over refl
runs_over p start most budget k n x r c c1 Done good runs ends h over g =
    let y = good.stands k x runs in h.1 x.thread y.before y.is y.lives
runs_over p start most budget k n x r c c1 Stuck good runs ends h over g = h.0.1 k x runs
runs_over p start most budget k n x r c c1 Spent good runs ends h over g = h.0.1 k x runs

-- the solo transaction is committed, and what else runs is dropped
pub stays_over : {S : Type 0} (p : Prog S) (start : Machine S) (most budget n : ℕ) (o u : Outer S) (s s1 : RunState) →
    Good p start most o.core → IsOutcome p budget o.core s → s ≢ GoesOn → SettlesSolo p n o u →
    IsOutcome p budget (idle_core u.core) s1 → s1 ≢ GoesOn
stays_over {S} p start most budget n o u s s1 good h over (inl quiet) h1 e =
    dropped_over p budget o.core s h over
    (subst (λ (z : Outer S). IsOutcome p budget (idle_core z.core) GoesOn) quiet.1
    (subst (IsOutcome p budget (idle_core u.core)) e h1))
stays_over {S} p start most budget n o u s s1 good h over (inr t) h1 e =
    runs_over p start most budget t.0 n t.1 t.4 o.core u.core s good t.2
    (subst (λ (z : Segment S). CommitOf p t.0 n z (Ok t.4) o.core u.core) t.2 t.5.0) h over
    (subst (IsOutcome p budget (idle_core u.core)) e h1)
