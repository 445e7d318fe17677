-- What code and proofs say to each other: nothing public rests on it.
-- How far the store's peaks rise while a transaction is out of its hand. States `docs/HEAP.md`, "The bound on a full
-- heap".
use Rattle.std.specs.Prelude.{◌⊎◌, ℕ, ◌+◌, ◌/◌, ◌≤◌}
use Rattle.py_data.specs.Row.{Row}
use Rattle.py_data.specs.Sense.{Upto}
use Rattle.py_data.specs.Sight.{Sight, pure}
use Rattle.lock_run.specs.declared.client.Outcome.{Outcome}
use Rattle.lock_run.specs.Prog.{Prog}
use Rattle.seg_store.specs.Meaning.{Meaning}
use Rattle.stm_segment.specs.declared.books.Books.{Books}
use Rattle.stm_segment.specs.declared.books.Work.{Work}
use Rattle.stm_segment.specs.CoreState.{CoreState, sight_of}
use Rattle.stm_segment.specs.Books.{Worlds, transaction}
use Rattle.stm_segment.specs.InUse.{core_use, next_more}
use Rattle.stm_core.specs.PeakRises.{RisesWithin}
use Rattle.stm_core.specs.inner.Trying.{core_with}

-- One step of the transaction x of segment k, done or cut: each peak, from class 1 on, is at most what it was, or at
-- most what is in use at a place to which the step's row comes, with what its next call would add, and with the other
-- segments as they were before the step.
abbrev pub RisesInStep : {S : Type 0} → Prog S → Worlds → ℕ → Meaning → Books S → Work S → (ℕ → ℕ) → (ℕ → ℕ) → Type 0
RisesInStep {S} p w k m b x f g = (c : ℕ) → 1 ≤ c → (g c ≤ f c) ⊎ ((left : Row S (Outcome × S)) × (place : Sight S) ×
    Upto pure (p.row x.state) (sight_of m.image w.committed (transaction w.own (m.part k) x)) left place ×
    (g c ≤ core_use (m.limit / 2) m.segments k place.heap (core_with w k m b x) c + next_more left place.heap c))

-- steps of segment k's transaction, from a state of the core on, with a store of this shape
abbrev pub RisesOut : {S : Type 0} → Prog S → (most k : ℕ) → Meaning → CoreState S → (ℕ → ℕ) → (ℕ → ℕ) → Type 0
RisesOut p most k m c = RisesWithin p most (m.limit / 2) m.segments k c
