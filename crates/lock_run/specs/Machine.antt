-- The one-lock machine: one heap, one list of threads, one world, and the turns that it does. States `docs/HEAP.md`,
-- "The one-lock machine" and "Turns and runs".
use Rattle.std.specs.Prelude.{◌≡◌, ◌≢◌, ℕ, ◌≤◌, zero, suc, List, [], ◌∷◌, ◌++◌, Some, None, slice_get, slice_set}
use Rattle.py_data.specs.Heap.{Heap}
use Rattle.py_data.specs.Collection.{places}
use Rattle.py_data.specs.Sight.{Sight, Does, opened}
use Rattle.py_data.specs.World.{World}
use Rattle.lock_run.specs.declared.client.Outcome.{Outcome}
use Rattle.lock_run.specs.declared.client.Outcome.TheVariants.{Waits as WaitsNow}
use Rattle.lock_run.specs.declared.client.Life.TheVariants.{Lives}
use Rattle.lock_run.specs.declared.turn.Turn.{Turn}
use Rattle.lock_run.specs.Prog.{Prog}

-- a state of the machine: its heap, the states of its threads in the order of their numbers, and its world
pub record Machine (S : Type 0) : Type 0 where
  pub heap : Heap
  pub threads : List S
  pub world : World

-- one step of a living thread, which does not wait
pub record Step {S : Type 0} (p : Prog S) (q : S) (s : Sight S) (q1 : S) (s1 : Sight S) : Type 0 where
  pub lives : p.life q ≡ Lives
  pub outcome : Outcome
  pub goes_on : outcome ≢ WaitsNow
  pub does : Does (p.row q) s (outcome, q1) s1

-- n steps, the last one last
abbrev pub Steps : {S : Type 0} → Prog S → ℕ → S → Sight S → S → Sight S → Type 0
Steps p zero q s q1 s1 = (q1 ≡ q) × (s1 ≡ s)
Steps {S} p (suc n) q s q1 s1 = (r : S) × (u : Sight S) × Steps p n q s r u × Step p r u q1 s1

-- the machine once the thread has the state q and has left s
abbrev pub machine_after : {S : Type 0} → Machine S → ℕ → S → Sight S → Machine S
machine_after m t q s = record { heap = s.heap; threads = slice_set m.threads t q ++ s.started; world = s.world }

-- a turn: so many steps of the thread, whose new records got exactly the turn's names, in order
pub record DoesTurn {S : Type 0} (p : Prog S) (m : Machine S) (t : Turn) (m1 : Machine S) : Type 0 where
  pub before : S
  pub after : S
  pub sight : Sight S
  pub is : slice_get m.threads t.thread ≡ Some before
  pub some : 1 ≤ t.steps
  pub steps : Steps p t.steps before (opened S m.heap m.world) after sight
  pub names : sight.made ≡ places t.names
  pub gives : m1 ≡ machine_after m t.thread after sight

-- a run: turns one after another
abbrev pub Runs : {S : Type 0} → Prog S → Machine S → List Turn → Machine S → Type 0
Runs p m [] m1 = m1 ≡ m
Runs {S} p m (t ∷ ts) m1 = (u : Machine S) × DoesTurn p m t u × Runs p u ts m1

-- the first state: an empty heap, the first thread alone, and this world
abbrev pub begin_with : {S : Type 0} → Prog S → World → Machine S
begin_with p w = record { heap = λ _. None; threads = p.first ∷ []; world = w }
