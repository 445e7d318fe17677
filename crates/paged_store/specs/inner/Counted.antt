-- How many extents records have, beside how many a store counts.
-- What code and proofs say to each other: nothing public rests on it.
use Rattle.std.specs.Prelude.{◌≡◌, ℕ, ◌+◌, ◌/◌, ◌≤◌}
use Rattle.py_data.specs.Heap.{Heap}
use Rattle.seg_store.specs.Meaning.{Meaning, sees, saw}
use Rattle.seg_store.specs.Extents.{extents_of}
use Rattle.seg_store.specs.Sums.{sum_below, asked, gained}

-- of each class, how many extents were given back, how many were ever new, and how many each segment took since its
-- transaction began, and of these before its open step began
pub record Counts : Type 0 where
  pub spare : ℕ → ℕ
  pub total : ℕ → ℕ
  pub now : ℕ → ℕ → ℕ
  pub before : ℕ → ℕ → ℕ

-- At each address the record of g has at least the extents of that of h, of each class from 1 on; at those below n it
-- has so many more, all together.
pub record Gains (n : ℕ) (h g : Heap) (f : ℕ → ℕ) : Type 0 where
  pub more : (a c : ℕ) → 1 ≤ c → extents_of (h a) c ≤ extents_of (g a) c
  pub sum : (c : ℕ) → 1 ≤ c → gained n h g c ≡ f c

-- What was ever new is what records of the image have, what segments took, and what was given back. What a segment took
-- is what its records have beyond those of the image, now and as its open step began.
pub record IsCounted (m : Meaning) (n : Counts) : Type 0 where
  pub all : (c : ℕ) → 1 ≤ c
      → asked (m.limit / 2) m.image c + sum_below m.segments (λ k. n.now k c) + n.spare c ≡ n.total c
  pub now : (k : ℕ) → Gains (m.limit / 2) m.image (sees m k) (n.now k)
  pub before : (k : ℕ) → Gains (m.limit / 2) m.image (saw m k) (n.before k)
