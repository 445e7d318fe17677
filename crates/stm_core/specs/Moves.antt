-- What the calls of the core are made of: moves from one state of the core to the next. States `docs/HEAP.md`,
-- "Events".
use Rattle.std.specs.Prelude.{◌≡◌, ◌≢◌, ℕ, suc, ◌+◌, ◌<◌, ◌≤◌, true, false, List, [], ◌∷◌, ◌++◌, Option, Some, None, slice_get}
use Rattle.py_data.specs.declared.stop.Conflict.{Conflict}
use Rattle.py_data.specs.Heap.{Heap}
use Rattle.py_data.specs.World.{World}
use Rattle.py_data.specs.Collection.{places}
use Rattle.py_data.specs.Sight.{Sight, opened, mem}
use Rattle.lock_run.specs.declared.client.Life.TheVariants.{Lives}
use Rattle.lock_run.specs.Prog.{Prog}
use Rattle.lock_run.specs.Machine.{Step, Steps}
use Rattle.stm_segment.specs.declared.cause.Cause.{Cause}
use Rattle.stm_segment.specs.declared.cause.Cause.TheVariants.{Full, OutOfMemory}
use Rattle.stm_segment.specs.Asking.{Reaches, AsksRoom}
use Rattle.seg_store.specs.Meaning.{over, overlay}
use Rattle.stm_segment.specs.CoreState.{IsShort, Transaction, Idle, Doomed, Running, CoreState, owned, turn_of, world_after, threads_after, sight_of, set_segment, with_segment, with_conflict, fresh, first_cause}
use Rattle.stm_segment.specs.Conflict.{loser, IsStanding}
use Rattle.stm_core.specs.Good.{IsLocked, Shows}

-- one step more of a transaction, over what it sees, which leaves what it has then
pub record Advances {S : Type 0} (p : Prog S) (image : Heap) (w : World) (x x1 : Transaction S) : Type 0 where
  pub sight : Sight S
  pub step : Step p x.state (sight_of image w x) x1.state sight
  pub thread : x1.thread ≡ x.thread
  pub begun : x1.begun ≡ x.begun
  pub solo : x1.solo ≡ x.solo
  pub steps : x1.steps ≡ suc x.steps
  pub shows : Shows image x1 sight

-- its locks and names are no other's
pub record IsFree {S : Type 0} (k : CoreState S) (i : ℕ) (x : Transaction S) : Type 0 where
  pub changed : (j : ℕ) (y : Transaction S) → j ≢ i → k.segments j ≡ Running y → (a : ℕ) → mem a x.changed ≡ true →
      mem a y.changed ≡ false
  pub made : (j : ℕ) (y : Transaction S) → j ≢ i → k.segments j ≡ Running y → (a : ℕ) → mem a (places x.made) ≡ true →
      mem a (places y.made) ≡ false

-- a step that was taken back, or that waits, leaves looks and locks
pub record Stays {S : Type 0} (image : Heap) (x x1 : Transaction S) : Type 0 where
  pub thread : x1.thread ≡ x.thread
  pub steps : x1.steps ≡ x.steps
  pub state : x1.state ≡ x.state
  pub made : x1.made ≡ x.made
  pub started : x1.started ≡ x.started
  pub begun : x1.begun ≡ x.begun
  pub solo : x1.solo ≡ x.solo
  pub world : x1.world ≡ x.world
  pub view : (a : ℕ) → over (x1.changes a) (image a) ≡ over (x.changes a) (image a)
  pub looked : (a : ℕ) → x.looked a ≡ true → x1.looked a ≡ true
  pub more : (a : ℕ) → owned x a ≡ true → owned x1 a ≡ true
  pub within : (a : ℕ) → owned x1 a ≡ false → x1.changes a ≡ None
  pub locked : (a : ℕ) → mem a x1.changed ≡ true → IsLocked image x1.looked a

-- After fewer steps of a thread that has the state q than a transaction may have, from the committed state on, its next
-- step comes to a call that wants so many words.
pub record ComesToWant {S : Type 0} (p : Prog S) (most : ℕ) (image : Heap) (w : World) (q : S) (n : ℕ) : Type 0 where
  pub done : ℕ
  pub after : S
  pub sight : Sight S
  pub short : IsShort most (suc done)
  pub steps : Steps p done q (opened S image w) after sight
  pub lives : p.life after ≡ Lives
  pub wants : Reaches (p.row after) sight (AsksRoom n)

-- why a cause is kept that a thread with the state q met: the heap has no room for what it came to want, or there was
-- no memory
abbrev pub IsMetBy : {S : Type 0} → Prog S → ℕ → CoreState S → S → Cause → Type 0
IsMetBy p most k q (Full r n l) = ComesToWant p most k.image k.world q n × (l < r + n)
IsMetBy p most k q OutOfMemory = Unit {0}
IsMetBy p most k q _ = ⊥

-- the thread t began on segment i
abbrev pub begun_at : {S : Type 0} → ℕ → ℕ → S → CoreState S → CoreState S
begun_at i t q k = record (with_segment i (Running (fresh k t q)) k) { begun = suc k.begun; last = Some t }

-- the transaction x of segment i was committed
abbrev pub published : {S : Type 0} → ℕ → Transaction S → CoreState S → CoreState S
published i x k = record {
  image = overlay k.image x.changes;
  threads = threads_after k.threads x;
  world = world_after k.world x;
  history = k.history ++ turn_of x ∷ [];
  conflicts = k.conflicts;
  begun = k.begun;
  last = k.last;
  cause = k.cause;
  segments = set_segment i Idle k.segments;
}

pub data Move (S : Type 0) : Type 0 where
  Begins : (i t : ℕ) (q : S) → Move S  -- the thread t begins on segment i
  Drops : (i : ℕ) → Move S  -- what segment i has in hand is dropped
  Dooms : Conflict → Move S  -- the loser, another segment, is doomed
  Loses : Conflict → Move S  -- the loser is told so at once
  Goes : (i : ℕ) (x x1 : Transaction S) → Move S  -- a step of segment i
  Rests : (i : ℕ) (x x1 : Transaction S) → Move S  -- a step of segment i that was taken back
  Commits : (i : ℕ) (x : Transaction S) → Move S
  Keeps : Cause → Move S

-- when each move can be made from a state, and to which it leads
abbrev pub Next : {S : Type 0} → Prog S → ℕ → CoreState S → Move S → CoreState S → Type 0
Next {S} p most k (Begins i t q) k1 =
    (k.cause ≡ None) × (k.segments i ≡ Idle) × (slice_get k.threads t ≡ Some q) × (p.life q ≡ Lives) ×
    ((j : ℕ) (y : Transaction S) → k.segments j ≡ Running y → t ≢ y.thread) × (k1 ≡ begun_at i t q k)
Next {S} p most k (Drops i) k1 = ((x : Transaction S) → k.segments i ≡ Running x → x.solo ≡ true → x.steps ≡ 0) ×
    (k1 ≡ with_segment i Idle k)
Next p most k (Dooms f) k1 = IsStanding p k f × (k1 ≡ with_conflict f (with_segment (loser f).segment (Doomed f) k))
Next p most k (Loses f) k1 = IsStanding p k f × (k1 ≡ with_conflict f (with_segment (loser f).segment Idle k))
Next {S} p most k (Goes i x x1) k1 =
    (k.segments i ≡ Running x) × IsShort most (suc x.steps) × Advances p k.image k.world x x1 × IsFree k i x1 ×
    (k1 ≡ with_segment i (Running x1) k)
Next {S} p most k (Rests i x x1) k1 =
    (k.segments i ≡ Running x) × Stays k.image x x1 × IsFree k i x1 × (k1 ≡ with_segment i (Running x1) k)
Next {S} p most k (Commits i x) k1 =
    (k.segments i ≡ Running x) × (1 ≤ x.steps) × ((j : ℕ) (y : Transaction S) → j ≢ i → k.segments j ≡ Running y →
    (a : ℕ) → mem a x.changed ≡ true → y.looked a ≡ false) × (k1 ≡ published i x k)
Next {S} p most k (Keeps e) k1 =
    (t : ℕ) × (q : S) × (slice_get k.threads t ≡ Some q) × (p.life q ≡ Lives) ×
    ((j : ℕ) (y : Transaction S) → k.segments j ≡ Running y → t ≢ y.thread) × IsMetBy p most k q e ×
    (k1 ≡ record k { cause = first_cause k.cause e })

-- a list of moves
abbrev pub Follows : {S : Type 0} → Prog S → ℕ → CoreState S → List (Move S) → CoreState S → Type 0
Follows p most k [] k1 = k1 ≡ k
Follows {S} p most k (m ∷ ms) k1 = (u : CoreState S) × Next p most k m u × Follows p most u ms k1
