-- Slots in a circle, and words in them. States `docs/HEAP.md`, "The index of a dictionary".
use Rattle.std.specs.Prelude.{ℕ, zero, suc, ◌+◌, ◌-◌, cond, eqb, ltb}

-- the slot, of n slots, d steps from a slot
unfoldable pub slot : ℕ → ℕ → ℕ → ℕ
slot n s d = cond (ltb (s + d) n) (s + d) (s + d - n)

-- the steps from a slot to another one
unfoldable pub steps : ℕ → ℕ → ℕ → ℕ
steps n s t = cond (ltb t s) (t + n - s) (t - s)

abbrev pub put : ℕ → ℕ → (ℕ → ℕ) → ℕ → ℕ
put s x w t = cond (eqb t s) x (w t)

abbrev pub filled : ℕ → ℕ
filled x = cond (eqb x 0) 0 1

-- how many of the first n words aren't 0
abbrev pub used : ℕ → (ℕ → ℕ) → ℕ
used zero w = 0
used (suc n) w = used n w + filled (w n)
