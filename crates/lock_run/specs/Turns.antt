-- What a turn of a LockRun does: a turn of the machine, or why it was cut and what stays. States `docs/HEAP.md`, "Turns
-- and runs".
use Rattle.std.specs.Prelude.{◌≡◌, ◌≢◌, ◌⊎◌, ℕ, ◌≤◌, ◌<◌, List, [], ◌∷◌, ◌++◌, Option, Some, None, slice_get, slice_set, false, suc}
use Rattle.py_data.specs.declared.stop.Out.TheVariants.{Output, ErrorOutput}
use Rattle.py_data.specs.Row.{Row, Do, Call, Reply, Make, Put, Take}
use Rattle.py_data.specs.Sight.{Sight, Does, opened}
use Rattle.py_data.specs.World.{World, grown}
use Rattle.py_data.specs.Collection.{places}
use Rattle.py_data.specs.Heap.{Rec}
use Rattle.stm_io.specs.Outside.{Rose}
use Rattle.lock_run.specs.declared.client.Outcome.TheVariants.{Waits as WaitsNow}
use Rattle.lock_run.specs.declared.client.Life.TheVariants.{Lives}
use Rattle.lock_run.specs.declared.turn.TurnWhy.{TurnWhy}
use Rattle.lock_run.specs.declared.turn.TurnWhy.TheVariants.{NotThere, Ended, Waits, BadNames, ReadFault, WriteFault, ErrFault, OutOfMemory}
use Rattle.lock_run.specs.declared.turn.Turn.{Turn}
use Rattle.lock_run.specs.Prog.{Prog}
use Rattle.lock_run.specs.Client.{Unchanged}
use Rattle.lock_run.specs.PlainState.{PlainState, NoName}
use Rattle.lock_run.specs.Machine.{Machine, Steps, DoesTurn}
use Rattle.lock_run.specs.Cut.{RowCut}

-- what a one-lock machine holds: its view, and the states of its threads in the order of their numbers
pub record LockState (S : Type 0) : Type 0 where
  pub view : PlainState S
  pub threads : List S

-- no count of faults falls
pub record NoneFall {S : Type 0} (d d1 : PlainState S) : Type 0 where
  pub reads : d.reads ≤ d1.reads
  pub writes : d.writes ≤ d1.writes
  pub errs : d.errs ≤ d1.errs

-- The view and the threads show m, where the outputs stood at o and e when the outputs of m were empty.
pub record Stands {S : Type 0} (o e : Option (List ℕ)) (d : PlainState S) (ts : List S) (m : Machine S) : Type 0 where
  pub heap : m.heap ≡ d.heap
  pub threads : m.threads ≡ ts
  pub input : m.world.input ≡ d.input
  pub ends : m.world.ends ≡ d.ends
  pub out : d.out ≡ grown o m.world.out
  pub err : d.err ≡ grown e m.world.err
  pub mid : m.world.mid ≡ d.mid

-- A turn that was done: whichever machine the LockRun showed before, the machine can do the turn, and the LockRun shows
-- what it leads to.
abbrev pub TurnDone : {S : Type 0} → Prog S → Turn → LockState S → LockState S → Type 0
TurnDone {S} p t a b = (o e : Option (List ℕ)) (m : Machine S) → Stands o e a.view a.threads m →
    (m1 : Machine S) × Stands o e b.view b.threads m1 × DoesTurn p m t m1

-- the next call of what is left of a row
abbrev pub Calls : {S A : Type 0} → Row S A → Call S → Type 0
Calls {S = S} {A = A} q c = (k : Reply c → Row S A) × (q ≡ Do c k)

-- After `done` steps the thread had the state `after` and had left `sight`; so much stays. The next step was cut: its
-- changes are taken back, and what it told the devices stays.
pub record CutIn {S : Type 0} (p : Prog S) (t done : ℕ) (o e : Option (List ℕ)) (m : Machine S) (d1 : PlainState S)
    (ts1 : List S) : Type 0 where
  pub before : S
  pub after : S
  pub sight : Sight S
  pub is : slice_get m.threads t ≡ Some before
  pub steps : Steps p done before (opened S m.heap m.world) after sight
  pub heap : d1.heap ≡ sight.heap
  pub mid : d1.mid ≡ sight.world.mid
  pub threads : ts1 ≡ slice_set m.threads t after ++ sight.started
  pub told : World
  pub cut : RowCut (p.row after) sight told
  pub out : d1.out ≡ grown o told.out
  pub err : d1.err ≡ grown e told.err
  pub input : d1.input ≡ told.input
  pub ends : d1.ends ≡ told.ends

-- nothing of the next step is left: what stands is what the steps before it left
abbrev pub LeavesNothing : {S : Type 0} {p : Prog S} {t done : ℕ} {o e : Option (List ℕ)} {m : Machine S}
    {d1 : PlainState S} {ts1 : List S} → CutIn p t done o e m d1 ts1 → Type 0
LeavesNothing c = c.told ≡ c.sight.world

-- why the next step wasn't done
abbrev pub CutWhy : {S : Type 0} (p : Prog S) (t done : ℕ) (names : List ℕ) (o e : Option (List ℕ)) (m : Machine S)
    (d d1 : PlainState S) (ts1 : List S) → TurnWhy → CutIn p t done o e m d1 ts1 → Type 0
CutWhy p t done names o e m d d1 ts1 NotThere c = ⊥
CutWhy p t done names o e m d d1 ts1 Ended c = (p.life c.after ≢ Lives) × LeavesNothing c
CutWhy {S} p t done names o e m d d1 ts1 Waits c =
    (p.life c.after ≡ Lives) × LeavesNothing c × (q : S) × Does (p.row c.after) c.sight (WaitsNow, q) c.cut.place ×
    Unchanged c.sight c.cut.place
CutWhy p t done names o e m d d1 ts1 BadNames c =
    (p.life c.after ≡ Lives) × (d1.free ≡ false) × (r : Rec) × (rest : List ℕ) × Calls c.cut.left (Make r) ×
    (c.cut.place.made ++ rest ≡ names) × NoName c.cut.place.heap rest
CutWhy p t done names o e m d d1 ts1 ReadFault c = (p.life c.after ≡ Lives) × (most : ℕ) × Calls c.cut.left (Take most)
    × Rose d.reads d1.reads
CutWhy p t done names o e m d d1 ts1 WriteFault c = (p.life c.after ≡ Lives) × (bytes : List ℕ) × Calls c.cut.left
    (Put Output bytes) × Rose d.writes d1.writes
CutWhy p t done names o e m d d1 ts1 ErrFault c = (p.life c.after ≡ Lives) × (bytes : List ℕ) × Calls c.cut.left
    (Put ErrorOutput bytes) × Rose d.errs d1.errs
CutWhy p t done names o e m d d1 ts1 OutOfMemory c = Unit {0}

-- a list is the beginning of another
abbrev pub Begins : List ℕ → List ℕ → Type 0
Begins xs names = (rest : List ℕ) × (xs ++ rest ≡ names)

-- What is told of steps that were cut: how much stays, with the names that it gave, and why. Where names are planned,
-- those that were given are the first of them.
abbrev pub CutTold : {S : Type 0} (p : Prog S) (t done : ℕ) (names : List ℕ) (o e : Option (List ℕ)) (m : Machine S)
    (d d1 : PlainState S) (ts1 : List S) → TurnWhy → Type 0
CutTold p t done names o e m d d1 ts1 why =
    (c : CutIn p t done o e m d1 ts1) × (d1.made ≡ c.sight.made) × CutWhy p t done names o e m d d1 ts1 why c ×
    (d1.free ≡ false → Begins c.sight.made names)

-- After k steps of the thread, from a turn's beginning at d0: the state and the threads show what the steps left.
pub record Going {S : Type 0} (p : Prog S) (t k : ℕ) (names : List ℕ) (o e : Option (List ℕ)) (m : Machine S)
    (d0 d : PlainState S) (ts : List S) : Type 0 where
  pub before : S
  pub after : S
  pub sight : Sight S
  pub is : slice_get m.threads t ≡ Some before
  pub steps : Steps p k before (opened S m.heap m.world) after sight
  pub heap : sight.heap ≡ d.heap
  pub made : sight.made ≡ d.made
  pub input : sight.world.input ≡ d.input
  pub ends : sight.world.ends ≡ d.ends
  pub out : d.out ≡ grown o sight.world.out
  pub err : d.err ≡ grown e sight.world.err
  pub mid : sight.world.mid ≡ d.mid
  pub threads : ts ≡ slice_set m.threads t after ++ sight.started
  pub named : d.free ≡ false → d.made ++ d.left ≡ names
  pub reads : d0.reads ≤ d.reads
  pub writes : d0.writes ≤ d.writes
  pub errs : d0.errs ≤ d.errs

-- a step that was done: one step more of the turn
abbrev pub StepGoes : {S : Type 0} → Prog S → ℕ → LockState S → LockState S → Type 0
StepGoes {S} p t a b =
    (k : ℕ) (names : List ℕ) (o e : Option (List ℕ)) (m : Machine S) (d0 : PlainState S) →
    Going p t k names o e m d0 a.view a.threads → Going p t (suc k) names o e m d0 b.view b.threads

-- a step that was not done: what the steps before it left is told, with the cause
abbrev pub StepCut : {S : Type 0} → Prog S → ℕ → TurnWhy → LockState S → LockState S → Type 0
StepCut {S} p t why a b =
    (k : ℕ) (names : List ℕ) (o e : Option (List ℕ)) (m : Machine S) (d0 : PlainState S) →
    Going p t k names o e m d0 a.view a.threads
    → CutTold p t k names o e m d0 b.view b.threads why

-- k steps of a turn were done
abbrev pub Reach : {S : Type 0} → Prog S → ℕ → ℕ → LockState S → LockState S → Type 0
Reach {S} p t k a b =
    (names : List ℕ) (o e : Option (List ℕ)) (m : Machine S) (d0 : PlainState S) →
    Going p t 0 names o e m d0 a.view a.threads → Going p t k names o e m d0 b.view b.threads

-- fewer than so many steps were done, and the next was not
abbrev pub ReachCut : {S : Type 0} → Prog S → ℕ → ℕ → ℕ → TurnWhy → LockState S → LockState S → Type 0
ReachCut {S} p t steps done why a b =
    (done < steps) × ((names : List ℕ) (o e : Option (List ℕ)) (m : Machine S) (d0 : PlainState S) →
    Going p t 0 names o e m d0 a.view a.threads
    → CutTold p t done names o e m d0 b.view b.threads why)

-- A turn that was cut: there is no such thread; or all steps were done and names are left; or the next step wasn't
-- done. The steps that stay gave the first of the turn's names.
abbrev pub TurnCut : {S : Type 0} → Prog S → Turn → ℕ → TurnWhy → LockState S → LockState S → Type 0
TurnCut {S} p t done why a b =
    (o e : Option (List ℕ)) (m : Machine S) → Stands o e a.view a.threads m →
    ((why ≡ NotThere) × (done ≡ 0) × (slice_get m.threads t.thread ≡ None) × Stands o e b.view b.threads m)
    ⊎ ((c : CutIn p t.thread done o e m b.view b.threads)
    × (((done < t.steps) × CutWhy p t.thread done (places t.names) o e m a.view b.view b.threads why c)
    ⊎ ((done ≡ t.steps) × (why ≡ BadNames) × (n : ℕ) × (rest : List ℕ) × (places t.names ≡ c.sight.made ++ n ∷ rest)))
    × Begins c.sight.made (places t.names))

-- the thread has ended, or its next step waits
pub record Rests {S : Type 0} (p : Prog S) (m : Machine S) (t : ℕ) : Type 0 where
  pub state : S
  pub is : slice_get m.threads t ≡ Some state
  pub why : (p.life state ≢ Lives) ⊎ ((q : S) × (z : Sight S) × Does (p.row state) (opened S m.heap m.world)
      (WaitsNow, q) z)

-- A turn of at most so many steps, with names of its own: the machine does it, and all steps were done or the thread
-- rests.
abbrev pub FreeDone : {S : Type 0} → Prog S → ℕ → ℕ → Turn → LockState S → LockState S → Type 0
FreeDone {S} p thread most t a b =
    (t.thread ≡ thread) × (1 ≤ t.steps) × (t.steps ≤ most)
    × ((o e : Option (List ℕ)) (m : Machine S) → Stands o e a.view a.threads m →
    (m1 : Machine S) × Stands o e b.view b.threads m1 × DoesTurn p m t m1 × ((t.steps ≡ most) ⊎ Rests p m1 thread))

-- Or it was cut: then some steps may stay done, with the names that they gave; where the thread rests, none was done.
abbrev pub FreeCut : {S : Type 0} → Prog S → ℕ → ℕ → ℕ → List ℕ → TurnWhy → LockState S → LockState S → Type 0
FreeCut {S} p thread most done names why a b =
    (o e : Option (List ℕ)) (m : Machine S) → Stands o e a.view a.threads m →
    ((why ≡ NotThere) × (done ≡ 0) × (names ≡ []) × (slice_get m.threads thread ≡ None) × Stands o e b.view b.threads m)
    ⊎ ((c : CutIn p thread done o e m b.view b.threads)
    × (done < most) × (c.sight.made ≡ names) × (why ≢ BadNames) × ((why ≡ Ended) ⊎ (why ≡ Waits) → done ≡ 0) × CutWhy p
    thread done names o e m a.view b.view b.threads why c)
