-- The numbers that digits write.
use Rattle.std.proofs.Common.{arith, ◌≡◌, ℕ, zero, suc, pos, neg_ℤ, ◌+◌, ◌-◌, ◌*◌, ◌<◌, ◌≤◌, Bool, true, false, List, [], ◌∷◌}
use Rattle.py_data.specs.declared.record.Got.TheVariants.{Raise}
use Rattle.obj_ops.specs.Numbers.{narrowed, overflow_fault}
use Rattle.obj_ops.proofs.Powers.{too_wide}
use Rattle.obj_builtins.specs.Literals.{value_after, with_sign}
use lib.Signed.{mag}

-- ---- what 64 bits don't hold behind either sign
wide_below : (n : ℕ) → 9_223_372_036_854_775_808 < n → mag (neg_ℤ (pos n)) < 9_223_372_036_854_775_808 → ⊥
wide_below zero l f = omega (arith, l)
wide_below (suc m) l f = omega (arith, l, f)

wide_above : (n : ℕ) → 9_223_372_036_854_775_808 < n → mag (pos n) < 9_223_372_036_854_775_808 → ⊥
wide_above n l f = omega (arith, l, f)

pub wide_value : (negative : Bool) (n : ℕ) → 9_223_372_036_854_775_808 < n →
    narrowed (with_sign negative n) ≡ Raise overflow_fault
wide_value true n l = too_wide (neg_ℤ (pos n)) (wide_below n l)
wide_value false n l = too_wide (pos n) (wide_above n l)

-- further digits make no number less
pub le_value : (n : ℕ) (bs : List ℕ) → n ≤ value_after n bs
le_value n [] = omega arith
le_value n (b ∷ bs) = let e = le_value (n * 10 + (b - 48)) bs in omega (arith, e)
