-- When a transaction stands, and when a core is good. States `docs/HEAP.md`, "A transaction that stands" and "A good
-- core".
use Rattle.std.specs.Prelude.{◌≡◌, ◌≢◌, ℕ, ◌<◌, true, false, List, Some, None, slice_get, All, AllPairs, Contains}
use Rattle.py_data.specs.declared.stop.Conflict.{Conflict}
use Rattle.py_data.specs.Heap.{Rec, Heap, Marks, is_tracked}
use Rattle.py_data.specs.World.{World}
use Rattle.py_data.specs.Collection.{places}
use Rattle.py_data.specs.Sight.{Sight, opened, mem}
use Rattle.lock_run.specs.declared.client.Life.TheVariants.{Lives}
use Rattle.lock_run.specs.declared.turn.Turn.{Turn}
use Rattle.lock_run.specs.Prog.{Prog}
use Rattle.lock_run.specs.Machine.{Machine, Steps, Runs}
use Rattle.seg_store.specs.Meaning.{over}
use Rattle.stm_segment.specs.CoreState.{IsShort, Transaction, Doomed, Running, CoreState, committed, owned}
use Rattle.stm_segment.specs.Conflict.{loser, IsConflict}

-- a lock: on a tracked record of the image, which counts as looked at
pub record IsLocked (image : Heap) (looked : Marks) (a : ℕ) : Type 0 where
  pub entry : Rec
  pub is : image a ≡ Some entry
  pub tracked : is_tracked entry.kind ≡ true
  pub marked : looked a ≡ true

-- A sight shows what a transaction has: the image with its changes laid over it, its names and its started threads.
-- What was looked at and changed is in its sets, and it changed only what it holds. Its locks are locks, and its names
-- are free in the image. Where it is solo its world is the sight's, and otherwise the world wasn't used.
pub record Shows {S : Type 0} (image : Heap) (x : Transaction S) (sight : Sight S) : Type 0 where
  pub view : (a : ℕ) → sight.heap a ≡ over (x.changes a) (image a)
  pub made : sight.made ≡ places x.made
  pub started : sight.started ≡ x.started
  pub looked : (a : ℕ) → sight.looked a ≡ true → x.looked a ≡ true
  pub touched : (a : ℕ) → sight.touched a ≡ true → owned x a ≡ true
  pub within : (a : ℕ) → owned x a ≡ false → x.changes a ≡ None
  pub locked : (a : ℕ) → mem a x.changed ≡ true → IsLocked image x.looked a
  pub unused : (a : ℕ) → mem a (places x.made) ≡ true → image a ≡ None
  pub world_is : x.solo ≡ true → sight.world ≡ x.world
  pub quiet : x.solo ≡ false → sight.used ≡ false

-- A transaction stands: the one-lock machine, from the committed state, can do its steps, and they leave what it has.
pub record Stands {S : Type 0} (p : Prog S) (image : Heap) (threads : List S) (world : World)
    (x : Transaction S) : Type 0 where
  pub before : S
  pub sight : Sight S
  pub is : slice_get threads x.thread ≡ Some before
  pub lives : p.life before ≡ Lives
  pub steps : Steps p x.steps before (opened S image world) x.state sight
  pub shows : Shows image x sight

-- two transactions that run at once share no thread, no number, no name and no lock, and one of them at most is solo
pub record Apart {S : Type 0} (x y : Transaction S) : Type 0 where
  pub threads : x.thread ≢ y.thread
  pub begun : x.begun ≢ y.begun
  pub made : (a : ℕ) → mem a (places x.made) ≡ true → mem a (places y.made) ≡ false
  pub changed : (a : ℕ) → mem a x.changed ≡ true → mem a y.changed ≡ false
  pub solo : x.solo ≡ true → y.solo ≡ false

-- where a cause is kept, a thread lives that no segment runs
pub record Unfinished {S : Type 0} (p : Prog S) (k : CoreState S) : Type 0 where
  pub thread : ℕ
  pub state : S
  pub is : slice_get k.threads thread ≡ Some state
  pub lives : p.life state ≡ Lives
  pub rests : (i : ℕ) (x : Transaction S) → k.segments i ≡ Running x → x.thread ≢ thread

-- A core is good, from the machine's state `start` on: its history is a run that gives the committed state, each
-- transaction that runs stands and is apart from the others, each conflict was one, and a doomed segment lost the one
-- that it holds.
pub record Good {S : Type 0} (p : Prog S) (start : Machine S) (most : ℕ) (k : CoreState S) : Type 0 where
  pub run : Runs p start k.history (committed k)
  pub short : All (λ (t : Turn). IsShort most t.steps) k.history
  pub stands : (i : ℕ) (x : Transaction S) → k.segments i ≡ Running x → Stands p k.image k.threads k.world x
  pub at_most : (i : ℕ) (x : Transaction S) → k.segments i ≡ Running x → IsShort most x.steps × (x.begun < k.begun)
  pub apart : (i j : ℕ) (x y : Transaction S) → i ≢ j → k.segments i ≡ Running x → k.segments j ≡ Running y → Apart x y
  pub conflicts : All (IsConflict k.image k.begun) k.conflicts
  pub lost : (i : ℕ) (x : Transaction S) → k.segments i ≡ Running x →
      All (λ (f : Conflict). (loser f).begun ≢ x.begun) k.conflicts
  pub differ : AllPairs (λ (f g : Conflict). (loser f).begun ≢ (loser g).begun) k.conflicts
  pub doomed : (i : ℕ) (f : Conflict) → k.segments i ≡ Doomed f → Contains k.conflicts f × ((loser f).segment ≡ i)
  pub caused : k.cause ≢ None → Unfinished p k
