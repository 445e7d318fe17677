-- How a core stands: what a segment has in hand, which thread is next, and how the run stands.
-- States `docs/HEAP.md`, "How a core stands".
use Rattle.std.specs.Prelude.{◌≡◌, ◌⊎◌, ℕ, ◌<◌, ◌≤◌, Bool, true, cond, ◌&&◌, ◌||◌, ltb, Option, Some, None}
use Rattle.lock_run.specs.Prog.{Prog}
use Rattle.lock_run.specs.RunState.{SomeLives, IsDone, IsStuck, IsSpent, IsRunning}
use Rattle.stm_core.specs.declared.standing.Slot.{Slot}
use Rattle.stm_core.specs.declared.standing.Slot.TheVariants as slot
use Rattle.stm_core.specs.declared.standing.RunState.{RunState}
use Rattle.stm_core.specs.declared.standing.RunState.TheVariants.{Running as GoesOn, Done, Stuck, Spent, Faulted}
use Rattle.stm_segment.specs.CoreState.{Transaction, Segment, Idle, Doomed, Running, CoreState, committed}
use Rattle.stm_core.specs.Begun.{IsReady, IsUnready}

-- what a segment has in hand, as the caller is told
abbrev pub slot_of : {S : Type 0} → Segment S → Slot
slot_of Idle = slot.Idle
slot_of (Doomed f) = slot.Doomed
slot_of (Running x) = slot.Running x.thread x.steps x.solo

-- The order in which threads are looked for: those above the one last begun come first, in the order of their numbers,
-- and then the others. The thread s comes before t.
abbrev pub sooner : Option ℕ → ℕ → ℕ → Bool
sooner None s t = ltb s t
sooner (Some l) s t = cond (ltb l t) (ltb l s && ltb s t) (ltb l s || ltb s t)

-- the first ready thread in that order
abbrev pub IsNext : {S : Type 0} → Prog S → CoreState S → Option ℕ → Type 0
IsNext p c None = (t : ℕ) → IsUnready p c t
IsNext p c (Some t) = IsReady p c t × ((s : ℕ) → sooner c.last s t ≡ true → IsUnready p c s)

-- the first ready thread of those from one number on and below another
abbrev pub FirstReady : {S : Type 0} → Prog S → CoreState S → ℕ → ℕ → Option ℕ → Type 0
FirstReady p c from to None = (s : ℕ) → from ≤ s → s < to → IsUnready p c s
FirstReady p c from to (Some t) = (from ≤ t) × (t < to) × IsReady p c t × ((s : ℕ) → from ≤ s → s < t → IsUnready p c s)

-- ---- how the run stands

abbrev pub SomeRuns : {S : Type 0} → CoreState S → Type 0
SomeRuns {S} c = (j : ℕ) × (x : Transaction S) × (c.segments j ≡ Running x)

abbrev pub NoneRuns : {S : Type 0} → CoreState S → Type 0
NoneRuns {S} c = (j : ℕ) (x : Transaction S) → c.segments j ≡ Running x → ⊥

-- no cause is kept, and no segment runs
abbrev pub IsAtRest : {S : Type 0} → CoreState S → Type 0
IsAtRest c = (c.cause ≡ None) × NoneRuns c

-- the first that holds: a cause is kept, or else, but for a segment that runs, how its committed state stands
abbrev pub IsOutcome : {S : Type 0} → Prog S → ℕ → CoreState S → RunState → Type 0
IsOutcome p budget c (Faulted e) = c.cause ≡ Some e
IsOutcome p budget c Done = (c.cause ≡ None) × IsDone p (committed c)
IsOutcome p budget c Stuck = IsAtRest c × IsStuck p (committed c)
IsOutcome p budget c Spent = IsAtRest c × IsSpent p budget c.history (committed c)
IsOutcome p budget c GoesOn = ((c.cause ≡ None) × SomeLives p (committed c) × SomeRuns c) ⊎
    (IsAtRest c × IsRunning p budget c.history (committed c))
