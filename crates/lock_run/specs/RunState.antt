-- How a run of the one-lock machine stands. States `docs/HEAP.md`, "How a run stands".
use Rattle.std.specs.Prelude.{◌≡◌, ◌≢◌, ℕ, ◌<◌, ◌≤◌, Bool, true, false, List, [], Option, Some, slice_get}
use Rattle.std.specs.List.{sum_by}
use Rattle.py_data.specs.Heap.{Heap}
use Rattle.py_data.specs.World.{World}
use Rattle.lock_run.specs.declared.client.Life.TheVariants.{Lives}
use Rattle.lock_run.specs.declared.turn.Turn.{Turn}
use Rattle.lock_run.specs.Prog.{Prog}
use Rattle.lock_run.specs.Client.{Going, Waiting}
use Rattle.lock_run.specs.Machine.{Machine}

-- whether a thread can go on: it lives, and its next step over this heap doesn't wait
abbrev pub IsReady : {S : Type 0} → Prog S → S → Heap → Bool → Type 0
IsReady p s h true = (p.life s ≡ Lives) × Going (p.row s) h
IsReady p s h false = p.life s ≡ Lives → Waiting (p.row s) h

-- the world at the beginning of a run: an input that tells this and came to its end so often, nothing written yet
abbrev pub first_world : Option (List ℕ) → ℕ → World
first_world input ends = record { input = input; ends = ends; out = []; err = []; mid = false }

-- how many steps turns have, all together
abbrev pub steps_done : List Turn → ℕ
steps_done ts = sum_by (λ (t : Turn). t.steps) ts

abbrev pub SomeLives : {S : Type 0} → Prog S → Machine S → Type 0
SomeLives {S} p m = (t : ℕ) × (q : S) × (slice_get m.threads t ≡ Some q) × (p.life q ≡ Lives)

-- a thread can go on
abbrev pub SomeReady : {S : Type 0} → Prog S → Machine S → Type 0
SomeReady {S} p m = (t : ℕ) × (q : S) × (slice_get m.threads t ≡ Some q) × IsReady p q m.heap true

-- done: all threads have ended
abbrev pub IsDone : {S : Type 0} → Prog S → Machine S → Type 0
IsDone {S} p m = (t : ℕ) (q : S) → slice_get m.threads t ≡ Some q → p.life q ≢ Lives

-- each thread that lives waits
abbrev pub AllWait : {S : Type 0} → Prog S → Machine S → Type 0
AllWait {S} p m = (t : ℕ) (q : S) → slice_get m.threads t ≡ Some q → p.life q ≡ Lives → Waiting (p.row q) m.heap

-- stuck: threads live, and all that live wait
abbrev pub IsStuck : {S : Type 0} → Prog S → Machine S → Type 0
IsStuck p m = SomeLives p m × AllWait p m

-- spent: a thread can go on, and the turns that were done have at least the budget's steps
abbrev pub IsSpent : {S : Type 0} → Prog S → ℕ → List Turn → Machine S → Type 0
IsSpent p budget history m = SomeReady p m × (budget ≤ steps_done history)

-- running: a thread can go on, and the turns that were done have fewer steps than the budget
abbrev pub IsRunning : {S : Type 0} → Prog S → ℕ → List Turn → Machine S → Type 0
IsRunning p budget history m = SomeReady p m × (steps_done history < budget)
