-- The state of the transactional core: the committed state, the history, the conflicts, and what each segment has in
-- hand.
-- States `docs/HEAP.md`, "The transactional core".
use Rattle.std.specs.Prelude.{ℕ, ◌≤◌, Bool, true, false, cond, ◌||◌, eqb, nat_le, List, [], ◌∷◌, ◌++◌, Option, Some, None, slice_set}
use Rattle.py_data.specs.declared.stop.Conflict.{Conflict}
use Rattle.py_data.specs.declared.value.Addr.{Addr}
use Rattle.py_data.specs.Heap.{Heap, Marks}
use Rattle.py_data.specs.World.{World}
use Rattle.py_data.specs.Collection.{places}
use Rattle.py_data.specs.Sight.{Sight, mem, no_marks}
use Rattle.lock_run.specs.declared.turn.Turn.{Turn}
use Rattle.lock_run.specs.Prog.{Prog}
use Rattle.lock_run.specs.Machine.{Machine}
use Rattle.seg_store.specs.Meaning.{overlay}
use Rattle.stm_segment.specs.declared.cause.Cause.{Cause}

-- the world of a transaction that isn't solo, at which no step of it looks
abbrev pub no_world : World
no_world = record { input = None; ends = 0; out = []; err = []; mid = false }

-- a transaction that runs: its thread, the steps done so far, and what they changed, locked, looked at, made and
-- started
pub record Transaction (S : Type 0) : Type 0 where
  pub thread : ℕ
  pub steps : ℕ
  pub state : S
  pub changes : Heap  -- the records that it has changed or made, as it sees them
  pub changed : List ℕ  -- the committed records that it has locked
  pub looked : Marks
  pub made : List Addr
  pub started : List S
  pub begun : ℕ  -- how many transactions were begun before it
  pub solo : Bool
  pub world : World  -- where it is solo, the world after its steps; otherwise `no_world`

-- what a segment has in hand: nothing, a transaction that lost this conflict to another, or one that runs
pub data Segment (S : Type 0) : Type 0 where
  Idle : Segment S
  Doomed : Conflict → Segment S
  Running : Transaction S → Segment S

pub record CoreState (S : Type 0) : Type 0 where
  pub image : Heap
  pub threads : List S
  pub world : World
  pub history : List Turn
  pub conflicts : List Conflict
  pub begun : ℕ  -- how many transactions were begun so far
  pub last : Option ℕ  -- the thread whose transaction was begun last
  pub cause : Option Cause
  pub segments : ℕ → Segment S

-- the committed state, as one of the one-lock machine
abbrev pub committed : {S : Type 0} → CoreState S → Machine S
committed k = record { heap = k.image; threads = k.threads; world = k.world }

-- the first cause stays
abbrev pub first_cause : Option Cause → Cause → Option Cause
first_cause None e = Some e
first_cause (Some d) e = Some d

-- ---- the bound on a turn

-- so many steps are few enough for a turn, and for a transaction so far, where it may have this number
abbrev pub IsShort : ℕ → ℕ → Type 0
IsShort most steps = steps ≤ most

-- whether they are
abbrev pub is_short : ℕ → ℕ → Bool
is_short most steps = nat_le steps most

-- ---- what a transaction sees

-- the records that it holds: those that it has locked and those that it made
abbrev pub owned : {S : Type 0} → Transaction S → Marks
owned x = λ a. mem a x.changed || mem a (places x.made)

-- ---- what a commit leaves

abbrev pub turn_of : {S : Type 0} → Transaction S → Turn
turn_of x = record { thread = x.thread; steps = x.steps; names = x.made }

abbrev pub world_after : {S : Type 0} → World → Transaction S → World
world_after w x = cond x.solo x.world w

abbrev pub threads_after : {S : Type 0} → List S → Transaction S → List S
threads_after ts x = slice_set ts x.thread x.state ++ x.started

-- the sight with which a transaction goes into its next step
abbrev pub sight_of : {S : Type 0} → Heap → World → Transaction S → Sight S
sight_of image w x = record {
  heap = overlay image x.changes;
  looked = x.looked;
  touched = owned x;
  made =
      places x.made;
  started = x.started;
  world = world_after w x;
  used = x.solo;
}

-- ---- one segment set

abbrev pub set_segment : {S : Type 0} → ℕ → Segment S → (ℕ → Segment S) → ℕ → Segment S
set_segment i s f = λ j. cond (eqb j i) s (f j)

abbrev pub with_segment : {S : Type 0} → ℕ → Segment S → CoreState S → CoreState S
with_segment i s k = record k { segments = set_segment i s k.segments }

abbrev pub with_conflict : {S : Type 0} → Conflict → CoreState S → CoreState S
with_conflict f k = record k { conflicts = k.conflicts ++ f ∷ [] }

-- a transaction of the thread t as it begins
abbrev pub fresh : {S : Type 0} → CoreState S → ℕ → S → Transaction S
fresh k t p = record {
  thread = t;
  steps = 0;
  state = p;
  changes = λ a. None;
  changed = [];
  looked = no_marks;
  made =
      [];
  started = [];
  begun = k.begun;
  solo = false;
  world = no_world;
}

-- a transaction as it becomes solo over the committed world w; one that is solo stays as it is
abbrev pub soloed : {S : Type 0} → World → Transaction S → Transaction S
soloed w x = record x { solo = true; world = world_after w x }

-- a core as it is made: the machine's first state, and nothing in hand
abbrev pub core_new : {S : Type 0} → Prog S → World → CoreState S
core_new p w = record {
  image = λ a. None;
  threads = p.first ∷ [];
  world = w;
  history = [];
  conflicts = [];
  begun = 0;
  last = None;
  cause = None;
  segments = λ i. Idle;
}
