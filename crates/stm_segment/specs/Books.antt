-- The books of a core as values, and the core's state that they and a store stand for. States `docs/HEAP.md`, "The
-- transactional core".
use Rattle.std.specs.Prelude.{◌≡◌, ◌≢◌, ℕ, ◌+◌, ◌<◌, ◌≤◌, Bool, true, false, cond, ◌&&◌, List, [], ◌∷◌, length, take, Option, Some, None, slice_get}
use Rattle.std.specs.List.{sum_by}
use Rattle.py_data.specs.declared.value.Addr.{Addr}
use Rattle.py_data.specs.declared.stop.Side.{Side}
use Rattle.py_data.specs.Heap.{Rec, is_tracked}
use Rattle.py_data.specs.World.{World}
use Rattle.py_data.specs.Collection.{places}
use Rattle.py_data.specs.Sight.{mem}
use Rattle.lock_run.specs.Prog.{Prog}
use Rattle.lock_run.specs.Cut.{Broken}
use Rattle.seg_store.specs.Meaning.{Part, Meaning, holds}
use Rattle.stm_segment.specs.declared.books.Progress.{Progress}
use Rattle.stm_segment.specs.declared.books.Work.{Work}
use Rattle.stm_segment.specs.declared.books.Hand.{Hand}
use Rattle.stm_segment.specs.declared.books.Hand.TheVariants as hand
use Rattle.stm_segment.specs.declared.books.Cut.{Cut}
use Rattle.stm_segment.specs.declared.books.Books.{Books}
use Rattle.stm_segment.specs.CoreState.{no_world, Transaction, Segment, Idle, Doomed, Running, CoreState}

-- ---- of one hand

abbrev pub is_running : {S : Type 0} → Option (Hand S) → Bool
is_running (Some (hand.Runs w)) = true
is_running _ = false

abbrev pub started_of : {S : Type 0} → Option (Hand S) → ℕ
started_of (Some (hand.Runs w)) = length w.progress.started
started_of _ = 0

abbrev pub names_of : {S : Type 0} → Option (Hand S) → List Addr
names_of (Some (hand.Runs w)) = w.progress.names
names_of _ = []

-- a transaction runs on the segment
abbrev pub runs_at : {S : Type 0} → List (Hand S) → ℕ → Bool
runs_at hs j = is_running (slice_get hs j)

-- how many threads its transaction started
abbrev pub started_at : {S : Type 0} → List (Hand S) → ℕ → ℕ
started_at hs j = started_of (slice_get hs j)

abbrev pub names_at : {S : Type 0} → List (Hand S) → ℕ → List Addr
names_at hs j = names_of (slice_get hs j)

-- the transaction of a segment, as a side of a conflict
abbrev pub side_of : {S : Type 0} → ℕ → Side → Option (Hand S) → Side
side_of j none (Some (hand.Runs w)) = record { segment = j; thread = w.thread; begun = w.begun; solo = w.solo }
side_of j none _ = none

abbrev pub one_running : {S : Type 0} → Hand S → ℕ
one_running (hand.Runs w) = 1
one_running _ = 0

abbrev pub one_started : {S : Type 0} → Hand S → ℕ
one_started (hand.Runs w) = length w.progress.started
one_started _ = 0

-- none of them runs a solo transaction
abbrev pub NoneSolo : {S : Type 0} → List (Hand S) → Type 0
NoneSolo {S} hs = (j : ℕ) (x : Work S) → slice_get hs j ≡ Some (hand.Runs x) → x.solo ≡ false

-- the segment whose transaction is solo
abbrev pub IsSoloAt : {S : Type 0} → List (Hand S) → Option ℕ → Type 0
IsSoloAt hs None = NoneSolo hs
IsSoloAt {S} hs (Some j) = (x : Work S) × (slice_get hs j ≡ Some (hand.Runs x)) × (x.solo ≡ true)

-- ---- the core's state

-- What the books don't keep of the core's state: the committed world, and that of the solo transaction, if there is
-- one.
pub record Worlds : Type 0 where
  pub committed : World
  pub own : World

-- with another world for the solo transaction
abbrev pub with_own : World → Worlds → Worlds
with_own v w = record w { own = v }

-- the transaction that a part of a store and the work in hand are, where the world of a solo one is w
abbrev pub transaction : {S : Type 0} → World → Part → Work S → Transaction S
transaction w p x = record {
  thread = x.thread;
  steps = x.steps;
  state = x.state;
  changes = p.changes;
  changed = p.changed;
  looked = p.looked;
  made = x.progress.names;
  started = x.progress.started;
  begun = x.begun;
  solo = x.solo;
  world = cond x.solo w no_world;
}

abbrev pub segment_of : {S : Type 0} → World → Part → Option (Hand S) → Segment S
segment_of w p None = Idle
segment_of w p (Some hand.Idle) = Idle
segment_of w p (Some (hand.Doomed f)) = Doomed f
segment_of w p (Some (hand.Runs x)) = Running (transaction w p x)

-- the state of the core, in these worlds
abbrev pub core_of : {S : Type 0} → Worlds → Meaning → Books S → CoreState S
core_of w m b = record {
  image = m.image;
  threads = b.threads.entries;
  world = w.committed;
  history = b.history.entries;
  conflicts = b.conflicts.entries;
  begun = b.begun;
  last = b.last;
  cause = b.cause;
  segments = λ j. segment_of w.own (m.part j) (slice_get b.hands.items j);
}

-- the worlds once a transaction was committed: that of a solo one is the committed one then
abbrev pub worlds_after : {S : Type 0} → Worlds → Work S → Worlds
worlds_after w x = record w { committed = cond x.solo w.own w.committed }

-- the step that was cut for good, as runs are spoken of
abbrev pub broken_of : Option Cut → Option Broken
broken_of None = None
broken_of (Some b) = Some (record { thread = b.thread; turns = b.turns })

-- ---- what fits

-- a lock is on a tracked record of the image, which counts as looked at
abbrev pub is_lock : Option Rec → Bool → Bool
is_lock None marked = false
is_lock (Some r) marked = is_tracked r.kind && marked

-- what a transaction in its hand has told agrees with what the store keeps of it
pub record WorkFits {S : Type 0} (p : Part) (x : Work S) : Type 0 where
  pub names : places x.progress.names ≡ p.made
  pub kept_names : places (take x.progress.kept_names x.progress.names) ≡ p.kept_made
  pub within : x.progress.kept_names ≤ length x.progress.names

-- Store and books fit, while the transaction of segment k is out of its hand and has come so far.
pub record Fit {S : Type 0} (k : ℕ) (m : Meaning) (b : Books S) (p : Progress S) : Type 0 where
  pub mine : k < m.segments
  pub hands : length b.hands.items ≡ m.segments
  pub out : runs_at b.hands.items k ≡ false
  pub holders : (j a : ℕ) → j ≢ k → holds (m.part j) a ≡ true → runs_at b.hands.items j ≡ true
  pub works : (j : ℕ) (x : Work S) → slice_get b.hands.items j ≡ Some (hand.Runs x) → WorkFits (m.part j) x
  pub own_names : places p.names ≡ (m.part k).made
  pub kept_names : places (take p.kept_names p.names) ≡ (m.part k).kept_made
  pub within : p.kept_names ≤ length p.names
  pub locked : (j a : ℕ) → mem a (m.part j).changed ≡ true → is_lock (m.image a) ((m.part j).looked a) ≡ true
  pub turns : sum_by one_running b.hands.items < b.history.room
  pub losses : sum_by one_running b.hands.items < b.conflicts.room
  pub pending : sum_by one_started b.hands.items + length p.started ≡ b.pending
  pub threads : b.pending ≤ b.threads.room

-- ---- as they are made

-- all hands are idle
abbrev pub AllIdle : {S : Type 0} → List (Hand S) → Type 0
AllIdle {S} hs = (j : ℕ) (h : Hand S) → slice_get hs j ≡ Some h → h ≡ hand.Idle

-- the books of a core as it is made, for so many segments
pub record IsFirst {S : Type 0} (p : Prog S) (count : ℕ) (b : Books S) : Type 0 where
  pub hands : length b.hands.items ≡ count
  pub idle : AllIdle b.hands.items
  pub threads : b.threads.entries ≡ p.first ∷ []
  pub pending : b.pending ≡ 0
  pub history : b.history.entries ≡ []
  pub conflicts : b.conflicts.entries ≡ []
  pub begun : b.begun ≡ 0
  pub last : b.last ≡ None
  pub cause : b.cause ≡ None
  pub broken : b.broken ≡ None
