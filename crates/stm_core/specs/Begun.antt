-- When a transaction begins, and why it doesn't. States `docs/HEAP.md`, "Events".
use Rattle.std.specs.Prelude.{◌≡◌, ◌≢◌, ◌⊎◌, ℕ, ◌-◌, ◌^◌, ◌<◌, ◌≤◌, min, false, List, [], Option, Some, None, slice_get, Result, Ok, Err}
use Rattle.lock_run.specs.Client.{Waiting, Going}
use Rattle.lock_run.specs.declared.client.Life.TheVariants.{Lives}
use Rattle.lock_run.specs.declared.turn.Turn.{Turn}
use Rattle.lock_run.specs.Prog.{Prog}
use Rattle.lock_run.specs.RunState.{steps_done}
use Rattle.stm_segment.specs.declared.cause.Cause.TheVariants.{OutOfMemory as NoMemoryLeft}
use Rattle.stm_core.specs.declared.begin.BeginError.{BeginError}
use Rattle.stm_core.specs.declared.begin.BeginError.TheVariants.{Over, Busy, NotReady, AtBudget, OutOfMemory}
use Rattle.stm_segment.specs.declared.books.Work.{Work}
use Rattle.stm_segment.specs.declared.books.Books.{Books}
use Rattle.stm_segment.specs.CoreState.{Transaction, Idle, Running, CoreState}
use Rattle.stm_core.specs.Moves.{begun_at}

-- ---- threads

-- a segment runs the thread
abbrev pub RunsOn : {S : Type 0} → CoreState S → ℕ → Type 0
RunsOn {S} c t = (j : ℕ) × (y : Transaction S) × (c.segments j ≡ Running y) × (y.thread ≡ t)

-- a thread that may begin: it lives, no segment runs it, and over the image its next step doesn't wait
pub record IsReady {S : Type 0} (p : Prog S) (c : CoreState S) (t : ℕ) : Type 0 where
  pub state : S
  pub is : slice_get c.threads t ≡ Some state
  pub lives : p.life state ≡ Lives
  pub rests : (j : ℕ) (y : Transaction S) → c.segments j ≡ Running y → t ≢ y.thread
  pub goes : Going (p.row state) c.image

-- why a thread may not begin: there is none of that number, or it has ended, a segment runs it, or it waits
abbrev pub UnreadyAt : {S : Type 0} → Prog S → CoreState S → ℕ → Option S → Type 0
UnreadyAt p c t None = Unit {0}
UnreadyAt p c t (Some q) = (p.life q ≢ Lives) ⊎ (RunsOn c t ⊎ Waiting (p.row q) c.image)

abbrev pub IsUnready : {S : Type 0} → Prog S → CoreState S → ℕ → Type 0
IsUnready p c t = UnreadyAt p c t (slice_get c.threads t)

-- ---- the budget

-- the count of the steps of turns in 64 bits, which stays at the last number
abbrev pub CountsSteps : ℕ → List Turn → Type 0
CountsSteps n ts = n ≡ min (steps_done ts) (2 ^ 64 - 1)

-- the history has the budget's steps, or as many transactions were begun as there are numbers
abbrev pub IsAtBudget : {S : Type 0} → ℕ → CoreState S → Type 0
IsAtBudget budget c = (budget ≤ steps_done c.history) ⊎ (c.begun ≡ 2 ^ 64 - 1)

-- ---- begin

-- the thread t may begin on segment k
pub record CanBegin {S : Type 0} (p : Prog S) (k t budget : ℕ) (c : CoreState S) : Type 0 where
  pub goes_on : c.cause ≡ None
  pub idle : c.segments k ≡ Idle
  pub ready : IsReady p c t
  pub short : steps_done c.history < budget
  pub few : c.begun < 2 ^ 64 - 1

-- what `begin` answers, by the first cause that holds, and what it makes of the core
abbrev pub Begun : {S : Type 0} → Prog S → ℕ → ℕ → ℕ → Result Unit BeginError → CoreState S → CoreState S → Type 0
Begun p k t budget (Ok u) c c1 = (a : CanBegin p k t budget c) × (c1 ≡ begun_at k t a.ready.state c)
Begun p k t budget (Err (Over e)) c c1 = (c.cause ≡ Some e) × (c1 ≡ c)
Begun p k t budget (Err (Busy i)) c c1 = (i ≡ k) × (c.cause ≡ None) × (c.segments k ≢ Idle) × (c1 ≡ c)
Begun p k t budget (Err (NotReady s)) c c1 = (s ≡ t) × (c.cause ≡ None) × (c.segments k ≡ Idle) × IsUnready p c t ×
    (c1 ≡ c)
Begun p k t budget (Err AtBudget) c c1 = (c.cause ≡ None) × (c.segments k ≡ Idle) × IsReady p c t × IsAtBudget budget c
    × (c1 ≡ c)
Begun p k t budget (Err OutOfMemory) c c1 = CanBegin p k t budget c × (c1 ≡ record c { cause = Some NoMemoryLeft })

-- the transaction of the thread t, of which no step was done yet
pub record IsFresh {S : Type 0} (t : ℕ) (b : Books S) (x : Work S) : Type 0 where
  pub state : slice_get b.threads.entries t ≡ Some x.state
  pub thread : x.thread ≡ t
  pub begun : x.begun ≡ b.begun
  pub steps : x.steps ≡ 0
  pub solo : x.solo ≡ false
  pub names : x.progress.names ≡ []
  pub kept_names : x.progress.kept_names ≡ 0
  pub started : x.progress.started ≡ []
