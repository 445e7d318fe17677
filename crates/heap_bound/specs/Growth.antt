-- The words that a run asks for, by how much steps of one thread enlarge its heap, and that a heap is nearly full.
-- States `docs/HEAP.md`, "The bound on a full heap".
use Rattle.std.specs.Prelude.{◌≡◌, ℕ, ◌+◌, ◌*◌, ◌<◌, ◌≤◌, List, [], ◌∷◌, ◌++◌, Some, slice_get}
use Rattle.std.specs.List.{sum_by}
use Rattle.py_data.specs.Heap.{Heap}
use Rattle.py_data.specs.Collection.{places}
use Rattle.py_data.specs.Sight.{Sight, opened}
use Rattle.lock_run.specs.declared.turn.Turn.{Turn}
use Rattle.lock_run.specs.Prog.{Prog}
use Rattle.lock_run.specs.Machine.{Machine, Steps, Runs}
use Rattle.seg_store.specs.Extents.{words_at}

-- the words of the records of these names
abbrev pub words_of : Heap → List ℕ → ℕ
words_of h names = sum_by (λ a. words_at (h a)) names

-- the names that a run gives, in order
abbrev pub names_in : List Turn → List ℕ
names_in [] = []
names_in (t ∷ ts) = places t.names ++ names_in ts

-- After a front of the history, n steps of one thread, n at most the length, leave the sight s: its names are those
-- that they gave.
pub record IsGrowth {S : Type 0} (p : Prog S) (first : Machine S) (length : ℕ) (history front : List Turn)
    (m : Machine S) (s : Sight S) : Type 0 where
  pub rest : List Turn
  pub is : history ≡ front ++ rest
  pub run : Runs p first front m
  pub thread : ℕ
  pub before : S
  pub there : slice_get m.threads thread ≡ Some before
  pub n : ℕ
  pub short : n ≤ length
  pub after : S
  pub steps : Steps p n before (opened S m.heap m.world) after s

-- A bound on every growth of the history: the words of all records named so far are at most so many more after the
-- steps than before them.
pub record BoundsGrowth {S : Type 0} (p : Prog S) (first : Machine S) (length : ℕ) (history : List Turn)
    (bound : ℕ) : Type 0 where
  pub each : (front : List Turn) (m : Machine S) (s : Sight S) → IsGrowth p first length history front m s →
      words_of s.heap (names_in front ++ s.made) ≤ words_of m.heap (names_in front) + bound

-- With each such bound, the limit is below the first two words, those that the history asks for, and, in each of 21
-- classes, one growth for each segment, and one growth more.
abbrev pub IsNearlyFull : {S : Type 0} → Prog S → Machine S → (length segments limit : ℕ) → List Turn → Heap → Type 0
IsNearlyFull p first length segments limit history heap = (bound : ℕ) → BoundsGrowth p first length history bound →
    limit < 2 + words_of heap (names_in history) + (21 * segments + 1) * bound
