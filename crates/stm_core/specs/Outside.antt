-- The core's state with what lies outside of it: what the devices were told since the run began, and the step that
-- broke.
-- States `docs/HEAP.md`, "Solo transactions" and "What the devices were told".
use Rattle.std.specs.Prelude.{◌≡◌, ◌≢◌, ℕ, Bool, true, false, cond, List, [], ◌∷◌, length, slice_get, Option, Some, None, All}
use Rattle.py_data.specs.declared.stop.Out.TheVariants.{Output, ErrorOutput}
use Rattle.py_data.specs.World.{World}
use Rattle.py_data.specs.Row.{Row, Do, Put, Take}
use Rattle.py_data.specs.Sight.{opened}
use Rattle.lock_run.specs.declared.client.Life.TheVariants.{Lives}
use Rattle.lock_run.specs.Prog.{Prog}
use Rattle.lock_run.specs.Machine.{Machine}
use Rattle.lock_run.specs.Cut.{RowCut, Broken, Broke}
use Rattle.stm_segment.specs.declared.cause.Cause.{Cause}
use Rattle.stm_segment.specs.declared.cause.Cause.TheVariants.{ReadFault, WriteFault, ErrFault}
use Rattle.stm_segment.specs.CoreState.{Transaction, Running, CoreState, soloed, with_segment, first_cause}
use Rattle.stm_core.specs.Good.{Good}
use Rattle.stm_core.specs.Moves.{Move, Goes, Keeps, Next}
use Rattle.stm_core.specs.Stood.{Stood}

-- The core, what its devices were told since the run began, as a world, and the step that was cut for good, if one was.
pub record Outer (S : Type 0) : Type 0 where
  pub core : CoreState S
  pub told : World
  pub broken : Option Broken

-- a call leaves all but the core as it is
abbrev pub InCore : {S : Type 0} → (CoreState S → CoreState S → Type 0) → Outer S → Outer S → Type 0
InCore leads o o1 = leads o.core o1.core × (o1 ≡ record o { core = o1.core })

-- ---- faults of devices

-- a fault of a device is one of the call that was cut
abbrev pub FaultOf : {S A : Type 0} → Cause → Row S A → Type 0
FaultOf ReadFault (Do (Take most) k) = Unit {0}
FaultOf ReadFault _ = ⊥
FaultOf WriteFault (Do (Put Output bytes) k) = Unit {0}
FaultOf WriteFault _ = ⊥
FaultOf ErrFault (Do (Put ErrorOutput bytes) k) = Unit {0}
FaultOf ErrFault _ = ⊥
FaultOf _ _ = Unit {0}

abbrev pub is_device : Cause → Bool
is_device ReadFault = true
is_device WriteFault = true
is_device ErrFault = true
is_device _ = false

-- ---- what the devices were told

-- no step broke: they were told what the steps of the solo transaction left, or what the run left
pub record IsTold {S : Type 0} (o : Outer S) : Type 0 where
  pub solo : (i : ℕ) (x : Transaction S) → o.core.segments i ≡ Running x → x.solo ≡ true → o.told ≡ x.world
  pub alone : ((i : ℕ) (x : Transaction S) → o.core.segments i ≡ Running x → x.solo ≡ false) → o.told ≡ o.core.world

-- A step broke: a cause is kept, no transaction is solo, and no segment runs its thread, which lives. It was the
-- thread's next one, and a kept fault of a device is one of the call in which it was cut.
pub record IsBroken {S : Type 0} (p : Prog S) (first : Machine S) (o : Outer S) (b : Broken) : Type 0 where
  pub caused : o.core.cause ≢ None
  pub solo : (i : ℕ) (x : Transaction S) → o.core.segments i ≡ Running x → x.solo ≡ false
  pub thread : (i : ℕ) (x : Transaction S) → o.core.segments i ≡ Running x → x.thread ≢ b.thread
  pub broke : Broke p first o.core.history o.core.world o.told b
  pub stays : slice_get o.core.threads b.thread ≡ Some broke.state
  pub why : (e : Cause) → o.core.cause ≡ Some e → FaultOf e broke.cut.left

-- The devices were told what the transactions did, up to the step that broke; and a kept fault of a device is that
-- step's.
pub record Outside {S : Type 0} (p : Prog S) (first : Machine S) (o : Outer S) : Type 0 where
  pub told : o.broken ≡ None → IsTold o
  pub broken : (b : Broken) → o.broken ≡ Some b → IsBroken p first o b
  pub faulted : (e : Cause) → o.core.cause ≡ Some e → is_device e ≡ true → (b : Broken) × (o.broken ≡ Some b)

-- ALL THAT A CORE KEEPS, from the machine's state `first` on: it is good, each conflict of its list stood, and its
-- devices were told what the transactions did.
pub record Kept {S : Type 0} (p : Prog S) (first : Machine S) (most : ℕ) (o : Outer S) : Type 0 where
  pub good : Good p first most o.core
  pub stood : All (Stood p first o.core.history) o.core.conflicts
  pub outside : Outside p first o

-- ---- moves

-- what the devices were told after a move: a step of a solo transaction tells them what it did
abbrev pub told_after : {S : Type 0} → Move S → World → World
told_after (Goes i x x1) w = cond x.solo x1.world w
told_after _ w = w

-- after a list of moves
abbrev pub told_through : {S : Type 0} → List (Move S) → World → World
told_through [] w = w
told_through (m ∷ ms) w = told_through ms (told_after m w)

-- a cause that is kept by itself is no device's
abbrev pub IsInner : {S : Type 0} → Move S → Type 0
IsInner (Keeps e) = is_device e ≡ false
IsInner _ = Unit {0}

pub data OuterMove (S : Type 0) : Type 0 where
  Inner : Move S → OuterMove S  -- a move of transactions
  Solos : (i : ℕ) (x : Transaction S) → OuterMove S  -- the transaction of segment i becomes solo
  Breaks : Cause → Broken → World → OuterMove S  -- the next step of a thread is cut, and that is told

-- a thread that lives and that no segment runs
pub record IsFreeThread {S : Type 0} (p : Prog S) (c : CoreState S) (t : ℕ) : Type 0 where
  pub state : S
  pub is : slice_get c.threads t ≡ Some state
  pub lives : p.life state ≡ Lives
  pub rests : (j : ℕ) (y : Transaction S) → c.segments j ≡ Running y → t ≢ y.thread

-- no transaction is solo but, at most, that of segment k
abbrev pub NoOtherSolo : {S : Type 0} → ℕ → CoreState S → Type 0
NoOtherSolo {S} k c = (j : ℕ) (y : Transaction S) → j ≢ k → c.segments j ≡ Running y → y.solo ≡ false

-- when each move can be made, and to which state it leads
abbrev pub OuterNext : {S : Type 0} → Prog S → ℕ → Outer S → OuterMove S → Outer S → Type 0
OuterNext {S} p most o (Inner m) o1 = (c1 : CoreState S) × Next p most o.core m c1 × IsInner m ×
    (o1 ≡ record o { core = c1; told = told_after m o.told })
OuterNext p most o (Solos i x) o1 =
    (o.core.cause ≡ None) × (o.core.segments i ≡ Running x) × NoOtherSolo i o.core ×
    (o1 ≡ record o { core = with_segment i (Running (soloed o.core.world x)) o.core })
OuterNext {S} p most o (Breaks e b told) o1 =
    (t : IsFreeThread p o.core b.thread) × (cut : RowCut (p.row t.state) (opened S o.core.image o.core.world) told) ×
    FaultOf e cut.left
    × (o.broken ≡ None) × (length o.core.history ≡ b.turns)
    × ((i : ℕ) (x : Transaction S) → o.core.segments i ≡ Running x → x.solo ≡ false)
    × (o1 ≡ record { core = record o.core { cause = first_cause o.core.cause e }; told = told; broken = Some b })

-- a list of moves
abbrev pub OuterFollows : {S : Type 0} → Prog S → ℕ → Outer S → List (OuterMove S) → Outer S → Type 0
OuterFollows p most o [] o1 = o1 ≡ o
OuterFollows {S} p most o (m ∷ ms) o1 = (u : Outer S) × OuterNext p most o m u × OuterFollows p most u ms o1

-- such a list leads from the one to the other
abbrev pub OuterLed : {S : Type 0} → Prog S → ℕ → Outer S → Outer S → Type 0
OuterLed {S} p most o o1 = (ms : List (OuterMove S)) × OuterFollows p most o ms o1

-- a core as it is made
abbrev pub outer_new : {S : Type 0} → CoreState S → Outer S
outer_new c = record { core = c; told = c.world; broken = None }
