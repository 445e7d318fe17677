-- What code and proofs say to each other: nothing public rests on it. Store and books fit together, with a transaction
-- out of its hand and with all in their hands.
-- States `docs/HEAP.md`, "The transactional core".
use Rattle.std.specs.Prelude.{◌≡◌, ◌≢◌, ◌⊎◌, ℕ, ◌+◌, ◌<◌, ◌≤◌, true, false, List, Option, length, Some, slice_get, suc}
use Rattle.std.specs.List.{sum_by}
use Rattle.py_data.specs.declared.stop.Side.{Side}
use Rattle.py_data.specs.declared.stop.Conflict.{Conflict}
use Rattle.py_data.specs.Heap.{Heap}
use Rattle.py_data.specs.World.{World}
use Rattle.py_data.specs.declared.stop.Out.TheVariants.{Output, ErrorOutput}
use Rattle.py_data.specs.Row.{Call, Reply, Row, Ret, Do, Put, Take}
use Rattle.py_data.specs.Sense.{Upto}
use Rattle.py_data.specs.Sight.{Sight, mem, pure}
use Rattle.lock_run.specs.declared.client.Outcome.{Outcome}
use Rattle.lock_run.specs.declared.client.Outcome.TheVariants.{Waits as WaitsNow}
use Rattle.lock_run.specs.Prog.{Prog}
use Rattle.lock_run.specs.Cut.{RowCut}
use Rattle.seg_store.specs.Meaning.{Meaning, holds}
use Rattle.stm_segment.specs.declared.books.Work.{Work}
use Rattle.stm_segment.specs.declared.books.Hand.TheVariants.{Runs}
use Rattle.stm_segment.specs.declared.books.Books.{Books}
use Rattle.stm_segment.specs.declared.halt.Halt.{Halt}
use Rattle.stm_segment.specs.declared.halt.Halt.TheVariants.{Lost, NeedSolo, Full, ReadFault, WriteFault, ErrFault, OutOfMemory}
use Rattle.stm_segment.specs.CoreState.{Transaction, CoreState, sight_of}
use Rattle.stm_core.specs.Moves.{Advances, Stays}
use Rattle.stm_segment.specs.Books.{WorkFits, runs_at, one_running, one_started, is_lock, Worlds, transaction, core_of}
use Rattle.stm_segment.specs.Asking.{WaitsThere, Reaches, AsksToChange, AsksOutside, AsksRoom, AskedFor, LooksNext, ChangesNext, Went}
use Rattle.stm_segment.specs.Devices.{DeviceState, Tells}
use Rattle.stm_segment.specs.inner.Hold.{Dooms, SegWhy, LosesTo, Beside, Hold}

-- all transactions are in their hands
pub record Whole {S : Type 0} (m : Meaning) (b : Books S) : Type 0 where
  pub hands : length b.hands.items ≡ m.segments
  pub holders : (j a : ℕ) → holds (m.part j) a ≡ true → runs_at b.hands.items j ≡ true
  pub works : (j : ℕ) (x : Work S) → slice_get b.hands.items j ≡ Some (Runs x) → WorkFits (m.part j) x
  pub locked : (j a : ℕ) → mem a (m.part j).changed ≡ true → is_lock (m.image a) ((m.part j).looked a) ≡ true
  pub turns : sum_by one_running b.hands.items ≤ b.history.room
  pub losses : sum_by one_running b.hands.items ≤ b.conflicts.room
  pub pending : sum_by one_started b.hands.items ≡ b.pending
  pub threads : b.pending ≤ b.threads.room

-- a store of as many segments, and of the same limit
abbrev pub SameShape : Meaning → Meaning → Type 0
SameShape m m1 = (m1.segments ≡ m.segments) × (m1.limit ≡ m.limit)

-- ---- a step

-- the same work, one step further
abbrev pub stepped : {S : Type 0} → Work S → Work S
stepped x = record x { steps = suc x.steps }

-- Other segments were doomed by these conflicts, and then the step was done, or it waits. The world of a solo
-- transaction is `own` then; of another one, and of one that waits, it is as it was.
pub record StepDone {S : Type 0} (p : Prog S) (w : Worlds) (own : World) (k : ℕ) (me : Side) (o : Outcome)
    (m : Meaning) (b : Books S) (x : Work S) (m1 : Meaning) (b1 : Books S) (x1 : Work S) : Type 0 where
  pub dooms : List Conflict
  pub others : Dooms k me dooms (core_of w m b) (core_of w m1 b1)
  pub goes : o ≢ WaitsNow → Advances p m.image w.committed (transaction w.own (m.part k) x)
      (transaction own (m1.part k) (stepped x1))
  pub waits : o ≡ WaitsNow → (own ≡ w.own) × Stays m.image (transaction w.own (m.part k) x)
      (transaction w.own (m1.part k) x1)
  pub mortal : x.solo ≡ false → own ≡ w.own
  pub waiting : o ≡ WaitsNow → WaitsThere p m.image w.committed (transaction w.own (m.part k) x)
  pub last : Outcome × S
  pub went : Went (p.row x.state) (sight_of m.image w.committed (transaction w.own (m.part k) x)) (Ret last)
      (m1.part k).looked (m1.part k).changed dooms

-- Where a row, from the sight s, was stopped: its calls were done up to a place, and there the code found no memory, or
-- the next call was refused.
pub record StopsAt {S A : Type 0} (k : ℕ) (me : Side) (row : Row S A) (s : Sight S) (e : Halt) (c d : Hold S) : Type 0
  where
    pub left : Row S A
    pub place : Sight S
    pub upto : Upto pure row s left place
    pub looks : (a : ℕ) → (d.meaning.part k).looked a ≡ true → (place.looked a ≡ true) ⊎ LooksNext left a
    pub locks : (a : ℕ) → mem a (d.meaning.part k).changed ≡ true → (place.touched a ≡ true) ⊎ ChangesNext left a
    pub beside : Beside k me (AskedFor row s left place) c d
    pub why : (e ≡ OutOfMemory) ⊎ ((q : Call S) × (f : Reply q → Row S A) × (left ≡ Do q f) × SegWhy k me e q place.heap
        d)

-- Why a step wasn't done: from the sight s its row comes to a call that was refused, as the core is afterwards. Only
-- one that isn't solo meets a lock that wins, or wants to be solo; only a solo one meets a fault of a device.
abbrev pub CutWhy : {S A : Type 0} → ℕ → Side → Halt → Row S A → Sight S → CoreState S → ℕ → ℕ → Type 0
CutWhy k me (Lost f) row s c reserved limit = LosesTo k me f c × Reaches row s (AsksToChange f.at.0)
CutWhy k me NeedSolo row s c reserved limit = (me.solo ≡ false) × Reaches row s AsksOutside
CutWhy k me (Full r n l) row s c reserved limit = Reaches row s (AsksRoom n) × (r ≡ reserved) × (l ≡ limit) ×
    (l < r + n)
CutWhy k me OutOfMemory row s c reserved limit = Unit {0}
CutWhy k me _ row s c reserved limit = me.solo ≡ true

-- Other segments were doomed by these conflicts, and then the step was cut and taken back: looks and locks stay.
pub record StepCut {S : Type 0} (p : Prog S) (w : Worlds) (k : ℕ) (me : Side) (e : Halt) (m : Meaning) (b : Books S)
    (x : Work S) (m1 : Meaning) (r1 : ℕ) (b1 : Books S) (x1 : Work S) : Type 0 where
  pub dooms : List Conflict
  pub others : Dooms k me dooms (core_of w m b) (core_of w m1 b1)
  pub stays : Stays m.image (transaction w.own (m.part k) x) (transaction w.own (m1.part k) x1)
  pub left : Row S (Outcome × S)
  pub went : Went (p.row x.state) (sight_of m.image w.committed (transaction w.own (m.part k) x)) left
      (m1.part k).looked (m1.part k).changed dooms
  pub why : CutWhy k me e (p.row x.state) (sight_of m.image w.committed (transaction w.own (m.part k) x))
      (core_of w m1 b1) r1 m1.limit

-- a fault of a device that a Halt tells is one of the call that was cut
abbrev pub StopOf : {S A : Type 0} → Halt → Row S A → Type 0
StopOf ReadFault (Do (Take most) f) = Unit {0}
StopOf ReadFault _ = ⊥
StopOf WriteFault (Do (Put Output bytes) f) = Unit {0}
StopOf WriteFault _ = ⊥
StopOf ErrFault (Do (Put ErrorOutput bytes) f) = Unit {0}
StopOf ErrFault _ = ⊥
StopOf _ _ = Unit {0}

-- What the devices were told by the step of a solo transaction that was cut: its row's calls up to a place, and a part
-- of the next.
pub record StepBroke {S : Type 0} (p : Prog S) (t e : Option (List ℕ)) (image : Heap) (w : World) (x : Transaction S)
    (stop : Halt) (d1 : DeviceState) : Type 0 where
  pub told : World
  pub tells : Tells t e d1 told
  pub cut : RowCut (p.row x.state) (sight_of image w x) told
  pub fault : StopOf stop cut.left
