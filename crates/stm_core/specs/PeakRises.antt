-- How far peaks may rise within steps of a transaction. States `docs/HEAP.md`, "The bound on a full heap".
use Rattle.std.specs.Prelude.{◌≡◌, ◌⊎◌, ℕ, suc, ◌+◌, ◌≤◌}
use Rattle.py_data.specs.Row.{Row}
use Rattle.py_data.specs.Sense.{Upto}
use Rattle.py_data.specs.Sight.{Sight, pure}
use Rattle.lock_run.specs.declared.client.Life.TheVariants.{Lives}
use Rattle.lock_run.specs.declared.client.Outcome.{Outcome}
use Rattle.lock_run.specs.Prog.{Prog}
use Rattle.stm_segment.specs.CoreState.{Transaction, Running, CoreState, sight_of}
use Rattle.stm_segment.specs.InUse.{core_use, next_more}
use Rattle.stm_core.specs.Advanced.{Led}

-- A moment within the steps of segment k's transaction, from a state of the core on: moves of the segment led to `now`,
-- where the transaction runs and may do a step more; and that step's row has come to a place.
pub record Moment {S : Type 0} (p : Prog S) (most k : ℕ) (c : CoreState S) : Type 0 where
  pub now : CoreState S
  pub led : Led p most k c now
  pub last : Transaction S
  pub runs : now.segments k ≡ Running last
  pub small : suc last.steps ≤ most
  pub lives : p.life last.state ≡ Lives
  pub left : Row S (Outcome × S)
  pub place : Sight S
  pub upto : Upto pure (p.row last.state) (sight_of now.image now.world last) left place

-- what is in use then, counted at the addresses below n, with what the row's next call would add
abbrev pub used_then : {S : Type 0} {p : Prog S} {most k : ℕ} {c : CoreState S} → (n segments : ℕ) → Moment p most k c
    → ℕ → ℕ
used_then {k = k} n segments m cl = core_use n segments k m.place.heap m.now cl + next_more m.left m.place.heap cl

-- each peak, from class 1 on, is at most what it was, or at most what was in use at such a moment
abbrev pub RisesWithin : {S : Type 0} → Prog S → (most n segments k : ℕ) → CoreState S → (ℕ → ℕ) → (ℕ → ℕ) → Type 0
RisesWithin p most n segments k c f g = (cl : ℕ) → 1 ≤ cl →
    (g cl ≤ f cl) ⊎ ((m : Moment p most k c) × (g cl ≤ used_then n segments m cl))
