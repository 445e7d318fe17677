-- What code and proofs say to each other: nothing public rests on it.
-- Who has looked at what a segment changed, as store and books tell it. States `docs/HEAP.md`, "Commit".
use Rattle.std.specs.Prelude.{◌≡◌, ℕ, ◌<◌, true, false, cond, not, ◌&&◌, eqb, List, Option, None, Some, slice_get}
use Rattle.py_data.specs.declared.stop.Side.{Side}
use Rattle.py_data.specs.declared.stop.Conflict.{Conflict}
use Rattle.py_data.specs.declared.value.Addr.{Addr}
use Rattle.seg_store.specs.Meaning.{Meaning}
use Rattle.stm_segment.specs.declared.books.Work.{Work}
use Rattle.stm_segment.specs.declared.books.Hand.{Hand}
use Rattle.stm_segment.specs.declared.books.Hand.TheVariants.{Runs}
use Rattle.stm_segment.specs.Conflict.{wins}
use Rattle.stm_segment.specs.Books.{runs_at}
use Rattle.stm_core.specs.Passes.{met}

-- an address as a number, where there is one
abbrev pub place_of : Option Addr → Option ℕ
place_of None = None
place_of (Some a) = Some a.0

-- the first record that segment k has locked and that the transaction of segment j, another one, has looked at
abbrev pub read_at : {S : Type 0} → List (Hand S) → Meaning → ℕ → ℕ → Option ℕ
read_at hs m k j = cond (not (eqb j k) && runs_at hs j) (met (m.part k).changed (m.part j).looked) None

-- the transaction x of segment j, as a side of a conflict
abbrev pub work_side : {S : Type 0} → ℕ → Work S → Side
work_side j x = record { segment = j; thread = x.thread; begun = x.begun; solo = x.solo }

-- Segment j is no reader that wins over the writer `me` of segment k; or it is one, and this is the conflict.
abbrev pub Beats : {S : Type 0} → List (Hand S) → Meaning → ℕ → Side → ℕ → Option Conflict → Type 0
Beats {S} hs m k me j None = (y : Work S) (a : ℕ) → slice_get hs j ≡ Some (Runs y) → read_at hs m k j ≡ Some a →
    wins (work_side j y) me ≡ false
Beats {S} hs m k me j (Some f) =
    (y : Work S) × (slice_get hs j ≡ Some (Runs y)) × (read_at hs m k j ≡ Some f.at.0) ×
    (f ≡ record { at = f.at; writer = me; other = work_side j y; asks = false; lost = 0 }) ×
    (wins (work_side j y) me ≡ true)

-- the first of n segments that is a reader that wins
abbrev pub FirstBeats : {S : Type 0} → List (Hand S) → Meaning → ℕ → Side → ℕ → Option Conflict → Type 0
FirstBeats hs m k me n None = (j : ℕ) → j < n → Beats hs m k me j None
FirstBeats hs m k me n (Some f) = (j : ℕ) × Beats hs m k me j (Some f) × ((i : ℕ) → i < j → Beats hs m k me i None)
