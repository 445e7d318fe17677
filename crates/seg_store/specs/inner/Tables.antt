-- What code and proofs say to each other: nothing public rests on it.
-- A store of maps, by address and by segment, and what always holds of it. States `docs/HEAP.md`, "The store of maps".
use Rattle.std.specs.Prelude.{◌≡◌, ◌≢◌, ℕ, ◌<◌, ◌≤◌, true, false, Option, Some, None, is_some}
use Rattle.py_data.specs.Heap.{Rec}
use Rattle.py_data.specs.Sight.{mem}
use Rattle.seg_store.specs.declared.hand.Hand.{Hand}
use Rattle.seg_store.specs.Meaning.{Part, Meaning, no_part, holds}
use Rattle.seg_store.specs.inner.Hands.{part_of}
use Rattle.seg_store.specs.inner.Holding.{IsGood}
use Rattle.seg_store.specs.inner.Images.{image_in}

-- what a segment has in hand, if there is such a segment
abbrev pub part_in : Option Hand → Part
part_in None = no_part
part_in (Some h) = part_of h

-- what a store of these records, these hands and so many segments means
abbrev pub meaning_in : (ℕ → Option (Option Rec)) → (ℕ → Option Hand) → ℕ → Meaning
meaning_in t s n = record {
  image = image_in t;
  part = λ k. part_in (s k);
  segments = n;
  limit =
      18_446_744_073_709_551_615;
}

-- Of a store with so many addresses: what a segment holds is at an address; what it has locked stands in the image,
-- and what it has made doesn't; no record is held by two segments.
pub record IsSound (m : Meaning) (addresses : ℕ) : Type 0 where
  pub some : 1 ≤ m.segments
  pub few : m.segments ≤ 8
  pub within : (k a : ℕ) → holds (m.part k) a ≡ true → a < addresses
  pub locked : (k a : ℕ) → mem a (m.part k).changed ≡ true → is_some (m.image a) ≡ true
  pub unused : (k a : ℕ) → mem a (m.part k).made ≡ true → is_some (m.image a) ≡ false
  pub apart : (i k a : ℕ) → i ≢ k → holds (m.part i) a ≡ true → holds (m.part k) a ≡ false
  pub good : (a : ℕ) (r : Rec) → m.image a ≡ Some r → IsGood r
