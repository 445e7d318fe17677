-- Sums over addresses. States `docs/HEAP.md`, "Extents".
use Rattle.std.specs.Prelude.{ℕ, zero, suc, ◌+◌, ◌-◌}
use Rattle.py_data.specs.Heap.{Heap}
use Rattle.seg_store.specs.Extents.{extents_of}

-- the sum of f at the numbers below n
unfoldable pub sum_below : ℕ → (ℕ → ℕ) → ℕ
sum_below zero f = 0
sum_below (suc n) f = sum_below n f + f n

-- the extents of a class that the records of a heap have, at the addresses below n
abbrev pub asked : ℕ → Heap → ℕ → ℕ
asked n h c = sum_below n (λ a. extents_of (h a) c)

-- those that the records of g have, and those of h at the same addresses don't
abbrev pub gained : ℕ → Heap → Heap → ℕ → ℕ
gained n h g c = sum_below n (λ a. extents_of (g a) c - extents_of (h a) c)
