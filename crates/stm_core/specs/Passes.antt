-- A commit in its two passes: who has looked at what it changes, and whom it dooms. States `docs/HEAP.md`, "Commit".
use Rattle.std.specs.Prelude.{◌≡◌, ◌≢◌, ℕ, true, false, cond, eqb, List, [], ◌∷◌, Option, Some, None}
use Rattle.py_data.specs.Heap.{Marks}
use Rattle.stm_segment.specs.CoreState.{Transaction, Segment, Idle, Doomed, Running, CoreState, with_segment, with_conflict}
use Rattle.stm_segment.specs.Conflict.{side, conflict, wins}
use Rattle.stm_core.specs.Moves.{published}

-- the first of these records that was looked at
abbrev pub met : List ℕ → Marks → Option ℕ
met [] m = None
met (a ∷ rest) m = cond (m a) (Some a) (met rest m)

-- the reader y on segment j loses to the writer x on segment i, over the first record that it has looked at
abbrev pub doom_met : {S : Type 0} → ℕ → Transaction S → ℕ → Transaction S → CoreState S → Option ℕ → CoreState S
doom_met i x j y k None = k
doom_met i x j y k (Some a) = with_conflict (conflict i x j y a false 1)
    (with_segment j (Doomed (conflict i x j y a false 1)) k)

abbrev pub doom_one : {S : Type 0} → ℕ → Transaction S → ℕ → CoreState S → Segment S → CoreState S
doom_one i x j k Idle = k
doom_one i x j k (Doomed f) = k
doom_one i x j k (Running y) = doom_met i x j y k (met x.changed y.looked)

-- the second pass, over these segments
abbrev pub doom_readers : {S : Type 0} → ℕ → Transaction S → List ℕ → CoreState S → CoreState S
doom_readers i x [] k = k
doom_readers i x (j ∷ js) k = doom_readers i x js (cond (eqb j i) k (doom_one i x j k (k.segments j)))

-- the core after both passes
abbrev pub after_commit : {S : Type 0} → ℕ → Transaction S → List ℕ → CoreState S → CoreState S
after_commit i x js k = published i x (doom_readers i x js k)

-- the first pass meets no reader that wins
abbrev pub NoneWins : {S : Type 0} → ℕ → Transaction S → CoreState S → Type 0
NoneWins {S} i x k = (j : ℕ) (y : Transaction S) (a : ℕ) → j ≢ i → k.segments j ≡ Running y →
    met x.changed y.looked ≡ Some a → wins (side i x) (side j y) ≡ true
