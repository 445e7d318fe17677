-- Ranges of whole numbers: how many items one has, and which; and which records are ranges. States `docs/LANGUAGE.md`,
-- "Iteration", and `docs/HEAP.md`, "Shapes".
use Rattle.std.specs.Prelude.{◌≡◌, ◌≢◌, ◌↔◌, ℕ, ℤ, pos, negsuc, ◌+ℤ◌, ◌-ℤ◌, ◌*ℤ◌, ◌≤ℤ◌, ◌/◌, ◌≤◌, List, [], ◌∷◌, zero, suc, refl}
use Rattle.py_data.specs.declared.value.Value.{Value}
use Rattle.py_data.specs.declared.value.Value.TheVariants.{Int}

-- how many numbers at this distance from one another, from the first on, stand before the end of a way: one, and one
-- for each whole step in the rest of the way
abbrev pub steps : ℤ → ℕ → ℕ
steps (pos zero) step = 0
steps (pos (suc way)) step = suc (way / step)
steps (negsuc way) step = 0

-- how many items a range has: up to the stop, or down to it
abbrev pub range_length : ℤ → ℤ → ℤ → ℕ
range_length start stop (pos step) = steps (stop -ℤ start) step
range_length start stop (negsuc step) = steps (start -ℤ stop) (suc step)

-- the item of a range at a place
abbrev pub range_item : ℤ → ℤ → ℕ → ℤ
range_item start step k = start +ℤ (pos k *ℤ step)

-- a range: three whole numbers, of which the step isn't 0, and at most so many items as a number of 63 bits counts
abbrev pub IsRange : List Value → Type 0
IsRange (Int start ∷ Int stop ∷ Int step ∷ []) =
    (step ≢ pos 0) × (range_length start stop step ≤ 9_223_372_036_854_775_807)
IsRange _ = ⊥

-- so many steps from the start come to the stop or past it
abbrev pub EndsWithin : ℕ → ℤ → ℤ → ℤ → Type 0
EndsWithin n start stop (pos step) = stop ≤ℤ range_item start (pos step) n
EndsWithin n start stop (negsuc step) = range_item start (negsuc step) n ≤ℤ stop

-- a range has as many items as steps are needed, at least, to come to the stop or past it
abbrev pub RangeLaw : Type 0
RangeLaw = (n : ℕ) (start stop step : ℤ) → step ≢ pos 0 → (range_length start stop step ≤ n) ↔ EndsWithin n start stop
    step

-- range(5), range(1, 10, 3), range(1, 11, 3), range(5, 0, -2), range(3, 3), range(3, 0)
five : range_length (pos 0) (pos 5) (pos 1) ≡ 5
five = refl

by_three : range_length (pos 1) (pos 10) (pos 3) ≡ 3
by_three = refl

by_three_and_one_more : range_length (pos 1) (pos 11) (pos 3) ≡ 4
by_three_and_one_more = refl

down_by_two : range_length (pos 5) (pos 0) (negsuc 1) ≡ 3
down_by_two = refl

nothing : range_length (pos 3) (pos 3) (pos 1) ≡ 0
nothing = refl

nothing_down : range_length (pos 3) (pos 0) (pos 1) ≡ 0
nothing_down = refl

-- the last items of the third and the fourth
ten : range_item (pos 1) (pos 3) 3 ≡ pos 10
ten = refl

one : range_item (pos 5) (negsuc 1) 2 ≡ pos 1
one = refl

-- three numbers with a step of 0 are no range
standing : IsRange (Int (pos 1) ∷ Int (pos 5) ∷ Int (pos 0) ∷ []) → ⊥
standing r = r.0 refl
