-- When words are the index of a dictionary's pairs, where each pair's key has a home among the slots.
-- States `docs/HEAP.md`, "The index of a dictionary".
use Rattle.std.specs.Prelude.{◌≡◌, ◌≢◌, ℕ, zero, suc, ◌+◌, ◌<◌, ◌≤◌, cond, eqb}
use Rattle.dict_index.specs.Slots.{slot, steps, used}

-- the number of pair j stands d steps from a slot, behind words that aren't empty
pub record Stands (n : ℕ) (w : ℕ → ℕ) (home j d : ℕ) : Type 0 where
  pub near : d < n
  pub here : w (slot n home d) ≡ j + 1
  pub behind : (e : ℕ) → e < d → w (slot n home e) ≢ 0

-- The words w in n slots are the index of the first m pairs: each pair's number plus 1 stands once, behind no
-- empty word from the home of its key, and all other words are 0.
pub record IsIndex (home : ℕ → ℕ) (n : ℕ) (w : ℕ → ℕ) (m : ℕ) : Type 0 where
  pub each : (j : ℕ) → j < m → (d : ℕ) × Stands n w (home j) j d
  pub only : (s : ℕ) → s < n → w s ≤ m
  pub once : (s t : ℕ) → s < n → t < n → w s ≡ w t → w s ≢ 0 → s ≡ t
  pub used : used n w ≡ m

-- the first empty slot from a slot on
pub record FirstEmpty (n : ℕ) (w : ℕ → ℕ) (start s : ℕ) : Type 0 where
  pub steps : ℕ
  pub near : steps < n
  pub at : s ≡ slot n start steps
  pub empty : w s ≡ 0
  pub behind : (e : ℕ) → e < steps → w (slot n start e) ≢ 0

-- no word is there
abbrev pub IsBlank : ℕ → (ℕ → ℕ) → Type 0
IsBlank n w = (s : ℕ) → s < n → w s ≡ 0

-- the last slot below n that has a word, and 0 where none has it
abbrev pub slot_with : ℕ → (ℕ → ℕ) → ℕ → ℕ
slot_with zero w x = 0
slot_with (suc n) w x = cond (eqb (w n) x) n (slot_with n w x)

-- The same as IsIndex, where the steps are worked out: a fact that has one proof, so that an invariant can keep it
-- under a truncation and a call can ask for it.
pub record IsRight (home : ℕ → ℕ) (n : ℕ) (w : ℕ → ℕ) (m : ℕ) : Type 0 where
  pub each : (j : ℕ) → j < m → Stands n w (home j) j (steps n (home j) (slot_with n w (j + 1)))
  pub only : (s : ℕ) → s < n → w s ≤ m
  pub once : (s t : ℕ) → s < n → t < n → w s ≡ w t → w s ≢ 0 → s ≡ t
  pub used : used n w ≡ m
