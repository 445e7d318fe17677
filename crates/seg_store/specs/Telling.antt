-- What a store tells of its extents. States `docs/HEAP.md`, "Extents".
use Rattle.std.specs.Prelude.{◌≡◌, ℕ, ◌+◌, ◌-◌, ◌/◌, ◌^◌, ◌<◌, ◌≤◌, max, Option, Some, None}
use Rattle.py_data.specs.Heap.{Rec}
use Rattle.seg_store.specs.declared.store.StoreFault.{StoreFault}
use Rattle.seg_store.specs.declared.store.StoreFault.TheVariants.{Full}
use Rattle.seg_store.specs.Meaning.{Meaning, sees}
use Rattle.seg_store.specs.Extents.{extents, extents_of, words_in}
use Rattle.seg_store.specs.Sums.{sum_below, asked, gained}

-- The extents of a class that are in use: those of the image, and for each segment those that its records have beyond
-- them. An address is half of a place among the words, so it is below half of their limit.
unfoldable pub in_use : Meaning → ℕ → ℕ
in_use m c = asked (m.limit / 2) m.image c + sum_below m.segments (λ k. gained (m.limit / 2) m.image (sees m k) c)

-- what would be in use with a record in the place of another one, or of none
abbrev pub use_with : Meaning → Option Rec → Rec → ℕ → ℕ
use_with m o r c = in_use m c + (extents r c - extents_of o c)

-- A call was done: the peak of each class, from 1 on, is the greater of the old one and of what is in use now. A store
-- that tells its extents doesn't cease to, and one that doesn't tell them doesn't begin to.
abbrev pub Rises : Option (ℕ → ℕ) → Option (ℕ → ℕ) → (ℕ → ℕ) → Type 0
Rises None None now = Unit {0}
Rises (Some f) (Some g) now = (c : ℕ) → 1 ≤ c → g c ≡ max (f c) (now c)
Rises _ _ now = ⊥

-- A call was refused: what it took for a while counts, and with that no more was in use than it would have left.
abbrev pub RisesTo : Option (ℕ → ℕ) → Option (ℕ → ℕ) → (ℕ → ℕ) → Type 0
RisesTo None None most = Unit {0}
RisesTo (Some f) (Some g) most = (c : ℕ) → 1 ≤ c → (f c ≤ g c) × (g c ≤ max (f c) (most c))
RisesTo _ _ most = ⊥

-- the words that are taken once so many extents are in use, where the peaks were f: two, and those of the peaks then
abbrev pub words_with : (ℕ → ℕ) → (ℕ → ℕ) → ℕ
words_with f now = 2 + words_in (λ c. max (f c) (now c))

-- With so many extents in use the words are above the limit. Those that are needed are of an extent of a class of which
-- more are in use then than ever were at once: so those that were given back don't serve.
pub record Exceeds (f now : ℕ → ℕ) (need limit : ℕ) : Type 0 where
  pub class : ℕ
  pub low : 1 ≤ class
  pub high : class ≤ 21
  pub words : need ≡ 2 ^ class
  pub more : f class < now class
  pub over : limit < words_with f now

-- A call was done, with which so many extents would be in use: where a store tells its extents, the call fitted.
abbrev pub Fits : Option (ℕ → ℕ) → (ℕ → ℕ) → ℕ → Type 0
Fits (Some f) now limit = words_with f now ≤ limit
Fits None now limit = Unit {0}

-- A call was refused, with which so many extents would be in use: where the heap is full and a store tells its extents,
-- the call doesn't fit.
abbrev pub IsOver : Option (ℕ → ℕ) → (ℕ → ℕ) → StoreFault → Type 0
IsOver (Some f) now (Full reserved need limit) = Exceeds f now need limit
IsOver _ now fault = Unit {0}

-- What always holds of a store that tells its extents: no more of a class are in use than its peak, and the words taken
-- are the first two and those of the peaks.
pub record IsTelling (reserved : ℕ) (m : Meaning) (f : ℕ → ℕ) : Type 0 where
  pub within : (c : ℕ) → 1 ≤ c → in_use m c ≤ f c
  pub words : reserved ≡ 2 + words_in f
