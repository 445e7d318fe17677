-- The keys of a store's dictionaries: in the image, in what each segment sees, and in what it saw as its open step
-- began, they are possible keys and differ, so that an index tells the place of each. What code and proofs say to each
-- other: nothing public rests on it.
use Rattle.std.specs.Prelude.{◌≡◌, ◌≢◌, ℕ, Some}
use Rattle.py_base.specs.declared.kind.Kind.TheVariants.{Dict}
use Rattle.py_data.specs.Heap.{Rec, Heap}
use Rattle.py_data.specs.Shape.{ArePairs, KeysDiffer}
use Rattle.dict_index.specs.Laws.{KeepsFixed}
use Rattle.seg_store.specs.Meaning.{Meaning, sees, saw}

pub record HasKeys (h : Heap) : Type 0 where
  pub dicts : (a : ℕ) (r : Rec) → h a ≡ Some r → r.kind ≡ Dict → ArePairs h r.values × KeysDiffer h r.values

pub record IsKeyed (m : Meaning) : Type 0 where
  pub image : HasKeys m.image
  pub now : (k : ℕ) → HasKeys (sees m k)
  pub before : (k : ℕ) → HasKeys (saw m k)
  pub fixed : (k : ℕ) → KeepsFixed m.image (sees m k)
  pub fixed_before : (k : ℕ) → KeepsFixed m.image (saw m k)
  pub since : (k : ℕ) → KeepsFixed (saw m k) (sees m k)

-- the fixed records of the image, and of what each segment sees and saw, are there after a call too
pub record StaysFixed (m u : Meaning) : Type 0 where
  pub image : KeepsFixed m.image u.image
  pub now : (j : ℕ) → KeepsFixed (sees m j) (sees u j)
  pub before : (j : ℕ) → KeepsFixed (saw m j) (saw u j)

-- the same but for segment k, which sees and saw another heap after the call
pub record FallsBack (k : ℕ) (h : Heap) (m u : Meaning) : Type 0 where
  pub image : KeepsFixed m.image u.image
  pub now : (j : ℕ) → j ≢ k → KeepsFixed (sees m j) (sees u j)
  pub before : (j : ℕ) → j ≢ k → KeepsFixed (saw m j) (saw u j)
  pub own : KeepsFixed h (sees u k)
  pub own_before : KeepsFixed h (saw u k)
