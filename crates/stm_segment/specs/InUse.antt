-- What a core has in use, by how much a call enlarges a heap, and up to what peaks may rise.
-- States `docs/HEAP.md`, "The bound on a full heap".
use Rattle.std.specs.Prelude.{◌⊎◌, ℕ, ◌+◌, ◌-◌, ◌≤◌, cond, eqb, Option, Some, None}
use Rattle.py_data.specs.Heap.{Heap, at}
use Rattle.py_data.specs.Changes.{after}
use Rattle.py_data.specs.Row.{Call, Row, Ret, Do, Edit, Make}
use Rattle.seg_store.specs.Meaning.{overlay}
use Rattle.seg_store.specs.Extents.{extents, extents_of}
use Rattle.seg_store.specs.Sums.{sum_below, asked, gained}
use Rattle.stm_segment.specs.CoreState.{Segment, Idle, Doomed, Running, CoreState}

-- what a segment's transaction sees
abbrev pub seg_view : {S : Type 0} → Heap → Segment S → Heap
seg_view image Idle = image
seg_view image (Doomed f) = image
seg_view image (Running x) = overlay image x.changes

-- the extents of a class that are in use at the addresses below n, where segment i sees `own`
abbrev pub core_use : {S : Type 0} → (n segments i : ℕ) → Heap → CoreState S → ℕ → ℕ
core_use n segments i own k c = asked n k.image c +
    sum_below segments (λ j. gained n k.image (cond (eqb j i) own (seg_view k.image (k.segments j))) c)

-- the extents of a class by which a call enlarges a heap
abbrev pub wants_more : {S : Type 0} → Call S → Heap → ℕ → ℕ
wants_more (Edit a x) h c = extents (after x (at h a)) c - extents_of (h a) c
wants_more (Make r) h c = extents r c
wants_more _ h c = 0

-- and the next call of a row
abbrev pub next_more : {S A : Type 0} → Row S A → Heap → ℕ → ℕ
next_more (Ret y) h c = 0
next_more (Do call f) h c = wants_more call h c

-- ---- how far peaks may rise

-- each peak, from class 1 on, is at most what it was, or at most so many
abbrev pub RisesUpTo : (ℕ → ℕ) → (ℕ → ℕ) → (ℕ → ℕ) → Type 0
RisesUpTo f g most = (c : ℕ) → 1 ≤ c → (g c ≤ f c) ⊎ (g c ≤ most c)

-- this holds of the peaks before and after, where a store tells them; it neither begins nor ceases to tell them
abbrev pub IfTold : Option (ℕ → ℕ) → Option (ℕ → ℕ) → ((ℕ → ℕ) → (ℕ → ℕ) → Type 0) → Type 0
IfTold None None holds = Unit {0}
IfTold (Some f) (Some g) holds = holds f g
IfTold _ _ holds = ⊥
