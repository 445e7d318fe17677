-- What a call of `solo` answers, and what comes of a solo transaction whose next step is cut.
-- States `docs/HEAP.md`, "Solo transactions".
use Rattle.std.specs.Prelude.{◌≡◌, ◌≢◌, ℕ, zero, suc, true, length, Some, None, Result, Ok, Err}
use Rattle.std.specs.List.{range_with_len}
use Rattle.py_data.specs.World.{World}
use Rattle.lock_run.specs.declared.client.Life.TheVariants.{Lives}
use Rattle.lock_run.specs.Prog.{Prog}
use Rattle.lock_run.specs.Cut.{RowCut}
use Rattle.stm_segment.specs.declared.cause.Cause.{Cause}
use Rattle.stm_core.specs.declared.solo.SoloError.{SoloError}
use Rattle.stm_core.specs.declared.solo.SoloError.TheVariants.{Over, Lost, Taken}
use Rattle.stm_segment.specs.CoreState.{Transaction, Segment, Idle, Doomed, Running, CoreState, soloed, sight_of, with_segment, first_cause}
use Rattle.stm_core.specs.Passes.{after_commit}
use Rattle.stm_core.specs.Outside.{Outer, FaultOf, NoOtherSolo}

-- ---- solo

-- the transaction of segment j is solo, and it isn't that of segment k
abbrev pub IsOtherSolo : {S : Type 0} → ℕ → ℕ → CoreState S → Type 0
IsOtherSolo {S} k j c = (j ≢ k) × (y : Transaction S) × (c.segments j ≡ Running y) × (y.solo ≡ true)

-- by what the segment has in hand
abbrev pub SoloedFrom : {S : Type 0} → Segment S → ℕ → Result (Unit {0}) SoloError → Outer S → Outer S → Type 0
SoloedFrom (Doomed f) k (Err (Over e)) o o1 = (o.core.cause ≡ Some e) × (o1 ≡ o)
SoloedFrom (Running x) k (Err (Over e)) o o1 = (o.core.cause ≡ Some e) × (o1 ≡ o)
SoloedFrom (Doomed f) k (Err (Lost g)) o o1 =
    (o.core.cause ≡ None) × (g ≡ f) × (o1 ≡ record o { core = with_segment k Idle o.core })
SoloedFrom (Running x) k (Err (Taken j)) o o1 = (o.core.cause ≡ None) × IsOtherSolo k j o.core × (o1 ≡ o)
SoloedFrom (Running x) k (Ok u) o o1 = (o.core.cause ≡ None) × NoOtherSolo k o.core ×
    (o1 ≡ record o { core = with_segment k (Running (soloed o.core.world x)) o.core })
SoloedFrom _ k r o o1 = ⊥

-- what `solo` answers on segment k, by the first that holds, and what it makes of the core
abbrev pub Soloed : {S : Type 0} → ℕ → Result (Unit {0}) SoloError → Outer S → Outer S → Type 0
Soloed k r o o1 = SoloedFrom (o.core.segments k) k r o o1

-- ---- a step of a solo transaction that was cut

-- The transaction x of segment k is committed up to its last whole step, in both passes over n segments; where it has
-- done none, it is dropped.
abbrev pub up_to_whole : {S : Type 0} → ℕ → ℕ → Transaction S → ℕ → CoreState S → CoreState S
up_to_whole k n x zero c = with_segment k Idle c
up_to_whole k n x (suc i) c = after_commit k x (range_with_len 0 n) c

-- The next step of the solo transaction x of segment k was cut for this cause. The transaction is committed up to its
-- last whole step; then the step is the next one of its thread, and what was told of it stays told.
pub record SoloFailed {S : Type 0} (p : Prog S) (k n : ℕ) (e : Cause) (o : Outer S) (x : Transaction S)
    (o1 : Outer S) : Type 0 where
  pub lives : p.life x.state ≡ Lives
  pub told : World
  pub cut : RowCut (p.row x.state) (sight_of o.core.image o.core.world x) told
  pub fault : FaultOf e cut.left
  pub gives : o1 ≡ record {
    core = record (up_to_whole k n x x.steps o.core) { cause = first_cause o.core.cause e };
    told = told;
    broken = Some (record { thread = x.thread; turns = length (up_to_whole k n x x.steps o.core).history });
  }
