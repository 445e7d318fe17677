-- How far peaks may rise where the bound is to hold, and which kept causes a step explains.
-- States `docs/HEAP.md`, "The bound on a full heap".
use Rattle.std.specs.Prelude.{◌⊎◌, ℕ, ◌≤◌, Some}
use Rattle.lock_run.specs.Prog.{Prog}
use Rattle.lock_run.specs.Machine.{Machine}
use Rattle.stm_segment.specs.declared.cause.Cause.TheVariants.{Full}
use Rattle.stm_segment.specs.CoreState.{CoreState, committed}
use Rattle.stm_core.specs.Moves.{Move, Keeps}
use Rattle.stm_core.specs.Outside.{OuterMove, Inner, Solos, Breaks}
use Rattle.heap_bound.specs.Moments.{InUse, IsWanted, WantedBy}

-- peaks, from class 1 on, rose only to what was in use at once, from a state of the machine on
abbrev pub Lifts : {S : Type 0} → Prog S → (most segments : ℕ) → Machine S → (ℕ → ℕ) → (ℕ → ℕ) → Type 0
Lifts p most segments m f g = (c : ℕ) → 1 ≤ c → (g c ≤ f c) ⊎ InUse p most segments m c (g c)

-- a full heap that is kept wanted words that a step asked for
abbrev pub KeepsWanted : {S : Type 0} → Prog S → ℕ → Machine S → Move S → Type 0
KeepsWanted p most m (Keeps (Full r n l)) = IsWanted p most m n
KeepsWanted p most m _ = Unit {0}

-- the same of a move with what lies outside of the core: a step that was cut for good may have been so after a commit
abbrev pub OuterWanted : {S : Type 0} → Prog S → Machine S → ℕ → CoreState S → OuterMove S → Type 0
OuterWanted p start most c (Inner m) = KeepsWanted p most (committed c) m
OuterWanted p start most c (Solos i x) = Unit {0}
OuterWanted p start most c (Breaks e b told) = WantedBy p start most c.history (committed c) (Some e)
