-- At which moments so many extents were in use, and when words were wanted: why a store's peaks are what they are, and
-- why a kept full heap wanted what it tells. States `docs/HEAP.md`, "The bound on a full heap".
use Rattle.std.specs.Prelude.{◌≡◌, ◌⊎◌, ℕ, ◌+◌, ◌^◌, ◌<◌, ◌≤◌, List, ◌++◌, Option, Some, None, slice_get}
use Rattle.py_data.specs.Heap.{Heap}
use Rattle.py_data.specs.Sight.{Sight, opened}
use Rattle.lock_run.specs.declared.turn.Turn.{Turn}
use Rattle.lock_run.specs.Prog.{Prog}
use Rattle.lock_run.specs.Machine.{Machine, Steps, Runs}
use Rattle.seg_store.specs.Extents.{extents_of}
use Rattle.seg_store.specs.Sums.{sum_below, asked, gained}
use Rattle.stm_segment.specs.declared.cause.Cause.{Cause}
use Rattle.stm_segment.specs.declared.cause.Cause.TheVariants.{Full}
use Rattle.stm_segment.specs.CoreState.{CoreState, committed}

-- at each address a heap has the extents of another one, and maybe more
pub record More (h g : Heap) : Type 0 where
  pub more : (a c : ℕ) → extents_of (h a) c ≤ extents_of (g a) c

-- at most so many steps of one thread, from a state of the machine on
pub record Came {S : Type 0} (p : Prog S) (most : ℕ) (m : Machine S) (s : Sight S) : Type 0 where
  pub thread : ℕ
  pub before : S
  pub is : slice_get m.threads thread ≡ Some before
  pub n : ℕ
  pub short : n ≤ most
  pub after : S
  pub steps : Steps p n before (opened S m.heap m.world) after s

-- a heap is the machine's, or has no more extents than such steps leave
abbrev pub IsAsked : {S : Type 0} → Prog S → ℕ → Machine S → Heap → Type 0
IsAsked {S} p most m h = (h ≡ m.heap) ⊎ ((s : Sight S) × Came p most m s × More h s.heap)

-- At least u extents of class c were in use at once: those of the machine's records, and on each segment those that one
-- transaction had beyond them. They are counted at the addresses below a number.
pub record InUse {S : Type 0} (p : Prog S) (most segments : ℕ) (m : Machine S) (c u : ℕ) : Type 0 where
  pub below : ℕ
  pub views : ℕ → Heap
  pub each : (j : ℕ) → j < segments → IsAsked p most m (views j)
  pub count : u ≤ asked below m.heap c + sum_below segments (λ j. gained below m.heap (views j) c)

-- so many words are those of an extent that such steps ask for
pub record IsWanted {S : Type 0} (p : Prog S) (most : ℕ) (m : Machine S) (n : ℕ) : Type 0 where
  pub sight : Sight S
  pub came : Came p most m sight
  pub class : ℕ
  pub least : 1 ≤ class
  pub most_class : class ≤ 21
  pub words : n ≡ 2 ^ class
  pub address : ℕ
  pub more : extents_of (m.heap address) class < extents_of (sight.heap address) class

-- it was so after a front of the history, whose rest led to the machine of now
pub record Once {S : Type 0} (p : Prog S) (start : Machine S) (history : List Turn) (now : Machine S)
    (it : Machine S → Type 0) : Type 0 where
  pub front : List Turn
  pub rest : List Turn
  pub is : history ≡ front ++ rest
  pub machine : Machine S
  pub run : Runs p start front machine
  pub later : Runs p machine rest now
  pub was : it machine

-- where a full heap is kept, the words that it tells as needed were wanted once
abbrev pub WantedBy : {S : Type 0} → Prog S → Machine S → ℕ → List Turn → Machine S → Option Cause → Type 0
WantedBy p start most history now (Some (Full r n l)) = Once p start history now (λ m. IsWanted p most m n)
WantedBy p start most history now _ = Unit {0}

-- Beside a good core: as many extents of each class, from 1 on, as its peak were in use at once, and a kept full heap
-- wanted words that a step asked for.
pub record IsExplained {S : Type 0} (p : Prog S) (start : Machine S) (most segments : ℕ) (peaks : ℕ → ℕ)
    (k : CoreState S) : Type 0 where
  pub peak : (c : ℕ) → 1 ≤ c →
      Once p start k.history (committed k) (λ m. InUse p most segments m c (peaks c))
  pub kept : WantedBy p start most k.history (committed k) k.cause

-- a store tells its peaks, and these and a kept full heap are explained
abbrev pub AreExplained : {S : Type 0} → Prog S → Machine S → (most segments : ℕ) → Option (ℕ → ℕ) → CoreState S →
    Type 0
AreExplained p start most segments None k = ⊥
AreExplained p start most segments (Some f) k = IsExplained p start most segments f k
