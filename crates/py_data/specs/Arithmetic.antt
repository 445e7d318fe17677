-- The quotient and the remainder of whole numbers, for a divisor that isn't 0. States `docs/LANGUAGE.md`, "Arithmetic".
use Rattle.std.specs.Prelude.{◌≡◌, ◌-◌, ◌/◌, ◌%◌, ℤ, pos, negsuc, ◌+ℤ◌, ◌*ℤ◌, ◌≤ℤ◌, ◌<ℤ◌, ◌⊎◌, refl}
use Rattle.std.proofs.Math.IntN.{neg_ℤ}
use Rattle.std.proofs.Common.{zero, suc}

-- the quotient, rounded down
abbrev pub floor_quotient : ℤ → ℤ → ℤ
floor_quotient (pos a) (pos b) = pos (a / b)
floor_quotient (pos zero) (negsuc b) = pos 0
floor_quotient (pos (suc a)) (negsuc b) = negsuc (a / suc b)
floor_quotient (negsuc a) (pos b) = negsuc (a / b)
floor_quotient (negsuc a) (negsuc b) = pos (suc a / suc b)

-- what is left, with the divisor's sign
abbrev pub floor_remainder : ℤ → ℤ → ℤ
floor_remainder (pos a) (pos b) = pos (a % b)
floor_remainder (pos zero) (negsuc b) = pos 0
floor_remainder (pos (suc a)) (negsuc b) = neg_ℤ (pos (b - a % suc b))
floor_remainder (negsuc a) (pos b) = pos (b - suc (a % b))
floor_remainder (negsuc a) (negsuc b) = neg_ℤ (pos (suc a % suc b))

-- q and r divide a by b: they make a up again, and r is 0 or between 0 and b, on b's side of 0
pub record IsFloorDivision (a b q r : ℤ) : Type 0 where
  pub sum : a ≡ b *ℤ q +ℤ r
  pub side : (pos 0 ≤ℤ r × r <ℤ b) ⊎ (b <ℤ r × r ≤ℤ pos 0)

-- 0 lies between two numbers
abbrev pub IsAcross : ℤ → ℤ → Type 0
IsAcross a b = (a <ℤ pos 0 × pos 0 <ℤ b) ⊎ (pos 0 <ℤ a × b <ℤ pos 0)

-- 7 / 2, -7 / 2, 7 / -2, -7 / -2
seven_halves : floor_quotient (pos 7) (pos 2) ≡ pos 3
seven_halves = refl

seven_halves_below : floor_quotient (negsuc 6) (pos 2) ≡ negsuc 3
seven_halves_below = refl

seven_by_minus_two : floor_quotient (pos 7) (negsuc 1) ≡ negsuc 3
seven_by_minus_two = refl

minus_seven_by_minus_two : floor_quotient (negsuc 6) (negsuc 1) ≡ pos 3
minus_seven_by_minus_two = refl

-- 7 % 3, -7 % 3, 7 % -3, -7 % -3
seven_over_three : floor_remainder (pos 7) (pos 3) ≡ pos 1
seven_over_three = refl

minus_seven_over_three : floor_remainder (negsuc 6) (pos 3) ≡ pos 2
minus_seven_over_three = refl

seven_over_minus_three : floor_remainder (pos 7) (negsuc 2) ≡ negsuc 1
seven_over_minus_three = refl

minus_seven_over_minus_three : floor_remainder (negsuc 6) (negsuc 2) ≡ negsuc 0
minus_seven_over_minus_three = refl

-- -6 / 3 and -6 % 3, 6 / -3 and 6 % -3: nothing is left
minus_six_by_three : floor_quotient (negsuc 5) (pos 3) ≡ negsuc 1
minus_six_by_three = refl

minus_six_over_three : floor_remainder (negsuc 5) (pos 3) ≡ pos 0
minus_six_over_three = refl

six_by_minus_three : floor_quotient (pos 6) (negsuc 2) ≡ negsuc 1
six_by_minus_three = refl

six_over_minus_three : floor_remainder (pos 6) (negsuc 2) ≡ pos 0
six_over_minus_three = refl
