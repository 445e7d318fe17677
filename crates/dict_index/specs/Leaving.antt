-- An index from which a pair's number is being taken. The slot that it leaves is filled by a later word which may stand
-- there, and so on, until the gap is at an empty slot. States `docs/HEAP.md`, "The index of a dictionary".
use Rattle.std.specs.Prelude.{◌≡◌, ◌≢◌, ℕ, ◌+◌, ◌-◌, ◌<◌, ◌≤◌, cond, ltb}
use Rattle.dict_index.specs.Slots.{slot, steps, used}
use Rattle.dict_index.specs.Index.{Stands}

-- the pair j stands somewhere else than in the hole
pub record Elsewhere (n : ℕ) (w : ℕ → ℕ) (home j hole : ℕ) : Type 0 where
  pub steps : ℕ
  pub stands : Stands n w home j steps
  pub other : slot n home steps ≢ hole

-- all pairs but p stand behind no empty word, in other slots than the hole; the hole's word isn't empty, and counts for
-- nothing
pub record Holed (home : ℕ → ℕ) (n : ℕ) (w : ℕ → ℕ) (m p hole : ℕ) : Type 0 where
  pub within : hole < n
  pub each : (j : ℕ) → j < m → j ≢ p → Elsewhere n w (home j) j hole
  pub only : (s : ℕ) → s < n → w s ≤ m
  pub once : (s t : ℕ) → s < n → t < n → s ≢ hole → t ≢ hole → w s ≡ w t → w s ≢ 0 → s ≡ t
  pub gone : (s : ℕ) → s < n → s ≢ hole → w s ≢ p + 1
  pub full : w hole ≢ 0
  pub used : used n w ≡ m

-- the slots from the start on were gone through, d of them; each word behind the hole has its home behind the hole too
pub record Closing (home : ℕ → ℕ) (n : ℕ) (w : ℕ → ℕ) (m p start hole d : ℕ) : Type 0 where
  pub back : ℕ
  pub before : back < d
  pub at : hole ≡ slot n start back
  pub holed : Holed home n w m p hole
  pub scanned : (e : ℕ) → back < e → e < d → steps n (home (w (slot n start e) - 1)) (slot n start e) < e - back
  pub filled : (e : ℕ) → e < d → w (slot n start e) ≢ 0

-- the index without the pair p, whose later pairs have their old numbers
pub record Gapped (home : ℕ → ℕ) (n : ℕ) (w : ℕ → ℕ) (m p : ℕ) : Type 0 where
  pub each : (j : ℕ) → j < m → j ≢ p → (d : ℕ) × Stands n w (home j) j d
  pub only : (s : ℕ) → s < n → w s ≤ m
  pub once : (s t : ℕ) → s < n → t < n → w s ≡ w t → w s ≢ 0 → s ≡ t
  pub gone : (s : ℕ) → s < n → w s ≢ p + 1
  pub used : used n w + 1 ≡ m

-- numbers above a number fall by one
abbrev pub lowered : ℕ → ℕ → ℕ
lowered a x = cond (ltb a x) (x - 1) x

-- the old number of a pair, once pair p is gone
abbrev pub skip : ℕ → ℕ → ℕ
skip p j = cond (ltb j p) j (j + 1)
