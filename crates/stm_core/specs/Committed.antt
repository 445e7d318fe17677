-- What a commit answers, and what it makes of the core. States `docs/HEAP.md`, "Commit".
use Rattle.std.specs.Prelude.{◌≡◌, ◌≢◌, ℕ, ◌<◌, ◌≤◌, false, length, Some, Result, Ok, Err}
use Rattle.std.specs.List.{range_with_len}
use Rattle.py_data.specs.declared.stop.Conflict.{Conflict}
use Rattle.lock_run.specs.Prog.{Prog}
use Rattle.stm_core.specs.declared.commit.Commit.{Commit}
use Rattle.stm_core.specs.declared.commit.Commit.TheVariants.{Committed as AtTurn, Nothing}
use Rattle.stm_segment.specs.CoreState.{Transaction, Segment, Idle, Doomed, Running, CoreState, with_segment, with_conflict}
use Rattle.stm_segment.specs.Conflict.{side, wins, IsStanding}
use Rattle.stm_core.specs.Passes.{met, after_commit, NoneWins}

-- The first pass of the writer x on segment i ends at a conflict that stands, with a reader that wins: of the running
-- transactions that have looked at a record that x changed, and that win, the one of the least segment, and the first
-- such record.
pub record Beaten {S : Type 0} (p : Prog S) (i : ℕ) (x : Transaction S) (f : Conflict) (c : CoreState S) : Type 0 where
  pub stands : IsStanding p c f
  pub writer : f.writer.segment ≡ i
  pub looked : f.asks ≡ false
  pub lost : f.lost ≡ 0
  pub first_record : met x.changed stands.y.looked ≡ Some f.at.0
  pub first_reader : (j : ℕ) (y : Transaction S) (a : ℕ) → j < f.other.segment → j ≢ i → c.segments j ≡ Running y →
      met x.changed y.looked ≡ Some a → wins (side j y) (side i x) ≡ false

-- of a transaction that runs, on one of n segments
abbrev pub CommitEnds : {S : Type 0} → Prog S → ℕ → ℕ → Transaction S → Result Commit Conflict → CoreState S →
    CoreState S → Type 0
CommitEnds p k n x (Ok Nothing) c c1 = (x.steps ≡ 0) × (c1 ≡ with_segment k Idle c)
CommitEnds p k n x (Ok (AtTurn i)) c c1 = (1 ≤ x.steps) × NoneWins k x c × (i ≡ length c.history) ×
    (c1 ≡ after_commit k x (range_with_len 0 n) c)
CommitEnds p k n x (Err f) c c1 = (1 ≤ x.steps) × Beaten p k x f c × (c1 ≡ with_conflict f (with_segment k Idle c))

-- of what the segment has in hand
abbrev pub CommitOf : {S : Type 0} → Prog S → ℕ → ℕ → Segment S → Result Commit Conflict → CoreState S → CoreState S →
    Type 0
CommitOf p k n Idle r c c1 = ⊥
CommitOf p k n (Doomed f) r c c1 = (r ≡ Err f) × (c1 ≡ with_segment k Idle c)
CommitOf p k n (Running x) r c c1 = CommitEnds p k n x r c c1

-- segment k of n commits
abbrev pub Committed : {S : Type 0} → Prog S → ℕ → ℕ → Result Commit Conflict → CoreState S → CoreState S → Type 0
Committed p k n r c c1 = CommitOf p k n (c.segments k) r c c1
