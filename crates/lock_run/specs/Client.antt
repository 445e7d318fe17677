-- What a client's step does over a view, and the laws that a client keeps. States `docs/HEAP.md`, "Clients".
use Rattle.std.specs.Prelude.{◌≡◌, ◌≢◌, ℕ, Bool, false, List, [], ◌∷◌, ◌++◌, Some, slice_get, slice_set}
use Rattle.py_data.specs.declared.stop.Stop.{Stop}
use Rattle.py_data.specs.Heap.{Heap, no_records}
use Rattle.py_data.specs.Row.{Row}
use Rattle.py_data.specs.Sense.{Sense, Bracket, Safe, Run, Stopped, ShownOf}
use Rattle.py_data.specs.Sight.{Sight, Does, opened}
use Rattle.py_data.specs.World.{World}
use Rattle.lock_run.specs.declared.client.Outcome.{Outcome}
use Rattle.lock_run.specs.declared.client.Outcome.TheVariants.{Done, Ended, Waits}
use Rattle.lock_run.specs.declared.client.Life.{Life}
use Rattle.lock_run.specs.declared.client.Life.TheVariants.{Lives}
use Rattle.lock_run.specs.Prog.{Prog}

-- the state is one of a list that may stand over the heap
abbrev pub Standing : {S : Type 0} → (List S → Type 0) → S → Type 0
Standing sound s = (ss : List _) × (t : ℕ) × (slice_get ss t ≡ Some s) × sound ss

-- A view shows g, and some heap of which it shows so much has the state standing over it: over a view of all of a heap
-- it is g, over a view of a part any heap with the part's records.
pub record StandsIn {S : Type 0} (sound : Heap → List S → Type 0) (partial : Bool) (g : Heap) (s : S) : Type 0 where
  pub heap : Heap
  pub shown : ShownOf partial g heap
  pub standing : Standing (sound heap) s

-- the step was opened and its row was done
abbrev pub Stepped : {S X : Type 0} → Sense S X → Bracket S X → Row S (Outcome × S) → X → Outcome → S → X → Type 0
Stepped u b row old o s new = (v : _) × b.opens old v × Run u row v (o, s) new

-- the step was opened, its row met a Stop, and the step was taken back
abbrev pub StepStopped : {S X : Type 0} → Sense S X → Bracket S X → Row S (Outcome × S) → X → Stop → X → Type 0
StepStopped u b row old e new = (v : _) × (w : _) × b.opens old v × Stopped u row v e w × b.undoes w new

-- the first state alone may stand over no records
abbrev pub IsSoundFirst : {S : Type 0} → Prog S → (Heap → List S → Type 0) → Type 0
IsSoundFirst p sound = sound no_records (p.first ∷ [])

-- each step of a living thread of a sound list leaves a sound one
abbrev pub StaysSound : {S : Type 0} → Prog S → (Heap → List S → Type 0) → Type 0
StaysSound {S} p sound =
    (ss : List S) (t : ℕ) (s : S) (h : Heap) (w : World) (o : Outcome) (s1 : S) (y : Sight S) →
    sound h ss → slice_get ss t ≡ Some s → p.life s ≡ Lives → Does (p.row s) (opened S h w) (o, s1) y →
    sound y.heap (slice_set (ss ++ y.started) t s1)

-- the next step of each living thread of a sound list has what its calls need
abbrev pub IsSafe : {S : Type 0} → Prog S → (Heap → List S → Type 0) → Type 0
IsSafe {S} p sound = (ss : List S) (t : ℕ) (s : S) (h : Heap) → sound h ss → slice_get ss t ≡ Some s →
    p.life s ≡ Lives → Safe false (p.row s) h

-- whether a thread lives after a step that ended so
abbrev pub LifeAfter : Outcome → Life → Type 0
LifeAfter Done life = life ≡ Lives
LifeAfter Ended life = life ≢ Lives
LifeAfter Waits life = Unit {0}

-- how a step of a living thread ended tells whether the thread lives on
abbrev pub TellsLife : {S : Type 0} → Prog S → Type 0
TellsLife {S} p = (s s1 : S) (x y : Sight S) (o : Outcome) → p.life s ≡ Lives → Does (p.row s) x (o, s1) y →
    LifeAfter o (p.life s1)

-- heap, made names, started states and world are as they were; only looks may have been added
pub record Unchanged {S : Type 0} (x y : Sight S) : Type 0 where
  pub heap : y.heap ≡ x.heap
  pub made : y.made ≡ x.made
  pub started : y.started ≡ x.started
  pub world : y.world ≡ x.world

-- a step that waits changes nothing
abbrev pub WaitsQuietly : {S : Type 0} → Prog S → Type 0
WaitsQuietly {S} p = (s s1 : S) (x y : Sight S) → Does (p.row s) x (Waits, s1) y → (s1 ≡ s) × Unchanged x y

-- the row waits over this heap, whatever the world
abbrev pub Waiting : {S : Type 0} → Row S (Outcome × S) → Heap → Type 0
Waiting {S} row h = (w : World) → (q : S) × (z : Sight S) × Does row (opened S h w) (Waits, q) z

-- the row doesn't wait over this heap
abbrev pub Going : {S : Type 0} → Row S (Outcome × S) → Heap → Type 0
Going {S} row h = (w : World) (q : S) (z : Sight S) → Does row (opened S h w) (Waits, q) z → ⊥
