-- What code and proofs say to each other: nothing public rests on it.
-- Changes that a segment makes in a store, one after another. States `docs/HEAP.md`, "Pieces".
use Rattle.std.specs.Prelude.{◌≡◌, ◌≢◌, ℕ, true, List, [], ◌∷◌, drop}
use Rattle.py_data.specs.declared.value.Addr.{Addr}
use Rattle.py_data.specs.declared.change.Change.{Change}
use Rattle.py_data.specs.Changes.{after}
use Rattle.seg_store.specs.Meaning.{Meaning, sees, holds}
use Rattle.seg_store.specs.Calls.{after_change}
use Rattle.seg_store.specs.Store.{CanChange, IsFull}

-- a store once segment k has made these changes
abbrev pub replayed : ℕ → List (Addr × Change) → Meaning → Meaning
replayed k [] m = m
replayed k (e ∷ es) m = replayed k es (after_change k e.0.0 (after e.1) m)

-- segment k can make them, each in its turn, and no record of them outgrows its room
abbrev pub CanReplay : ℕ → List (Addr × Change) → Meaning → Type 0
CanReplay k [] m = Unit {0}
CanReplay k (e ∷ es) m =
    (holds (m.part k) e.0.0 ≡ true) × CanChange (sees m k) e.0.0 e.1 × (IsFull (sees m k) e.0.0 e.1 → ⊥) ×
    CanReplay k es (after_change k e.0.0 (after e.1) m)

-- m1 is m but for the changes of segment k
pub record OnlyChanges (k : ℕ) (m m1 : Meaning) : Type 0 where
  pub image : m1.image ≡ m.image
  pub segments : m1.segments ≡ m.segments
  pub limit : m1.limit ≡ m.limit
  pub own : m1.part k ≡ record (m.part k) { changes = (m1.part k).changes }
  pub others : (j : ℕ) → j ≢ k → m1.part j ≡ m.part j

-- How far a loop over the changes has come: i of them led from m to m1, and the rest can be made and leads where all
-- lead.
pub record Replaying (k : ℕ) (es : List (Addr × Change)) (m : Meaning) (i : ℕ) (m1 : Meaning) : Type 0 where
  pub only : OnlyChanges k m m1
  pub can : CanReplay k (drop i es) m1
  pub leads : replayed k (drop i es) m1 ≡ replayed k es m
