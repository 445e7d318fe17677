-- Powers and shifts of numbers that 64 bits hold, or don't.
use Rattle.std.proofs.Common.{arith, ◌≡◌, ◌≢◌, ℕ, zero, suc, ◌*◌, ◌/◌, ◌%◌, ◌^◌, ◌<◌, ◌≤◌, ◌==◌, nat_lt, Bool, true, false, cond, ℤ, pos, negsuc, neg_ℤ, ◌*ℤ◌, refl, ap, ◌∙◌, inl, inr}
use Rattle.std.specs.Prelude.{unsigned_abs, int_lt}
use Rattle.std.specs.Int.{w64, int_pow}
use Rattle.std.specs.Int.RustNames.{FitsSigned}
use Rattle.std.specs.Int.Signed.{mag}
use Rattle.std.proofs.lemmas.Bool.{cases_Bool}
use Rattle.std.proofs.lemmas.Int.{ints}
use Rattle.std.proofs.lemmas.Nat.{pow_below}
use Rattle.std.proofs.Math.Nat.{pow-zero, pow-suc, pow-le-pow_left, div-eq_of_lt}
use Rattle.std.proofs.Math.Pow.{pow_mono}
use Rattle.std.proofs.Math.IntN.{pos-*ℤ-pos, negsuc-*ℤ-pos}
use Rattle.py_data.specs.declared.value.Value.TheVariants.{Int}
use Rattle.py_data.specs.declared.record.Got.TheVariants.{Is, Raise}
use Rattle.py_data.specs.Arithmetic.{floor_quotient}
use Rattle.obj_ops.specs.Numbers.{is_narrow, narrowed, overflow_fault}

-- ---- what 64 bits don't hold
not_narrow : (z : ℤ) → (mag z < 9_223_372_036_854_775_808 → ⊥) → is_narrow z ≡ false
not_narrow (pos a) f = elim (cases_Bool (nat_lt 9_223_372_036_854_775_807 a)) [
  | inl y ↦ grind (arith, ints)
  | inr n ↦ absurd (f (grind (arith, ints)))
]
not_narrow (negsuc a) f = elim (cases_Bool (nat_lt 9_223_372_036_854_775_807 a)) [
  | inl y ↦ grind (arith, ints)
  | inr n ↦ absurd (f (grind (arith, ints)))
]

pub too_wide : (z : ℤ) → (mag z < 9_223_372_036_854_775_808 → ⊥) → narrowed z ≡ Raise overflow_fault
unfolding narrowed
too_wide z f = ap (λ b. cond b (Is (Int z)) (Raise overflow_fault)) (not_narrow z f)

pub unfit_wide : (z : ℤ) → (FitsSigned w64 z → ⊥) → narrowed z ≡ Raise overflow_fault
unfit_wide z f = too_wide z (λ l. f (record { sfits = l }))

-- a number of 2^64 or more in size
large : (m : ℕ) → 18_446_744_073_709_551_616 ≤ m → mag (pos m) < 9_223_372_036_854_775_808 → ⊥
large m l f = omega (arith, l, f)

large_below : (m : ℕ) → 18_446_744_073_709_551_616 ≤ m → mag (neg_ℤ (pos m)) < 9_223_372_036_854_775_808 → ⊥
large_below zero l f = omega (arith, l)
large_below (suc m) l f = omega (arith, l, f)

-- ---- powers
long : (n : ℕ) → 64 ≤ n → 18_446_744_073_709_551_616 ≤ 2 ^ n
long n l = pow_mono {i = 64} {j = n} l

large_power : (a n : ℕ) → 2 ≤ a → 64 ≤ n → 18_446_744_073_709_551_616 ≤ a ^ n
large_power a n l m = let p = pow-le-pow_left l n in let q = long n m in omega (arith, p, q)

-- a power above the 63rd of a number that is neither 0 nor 1 nor -1
pub power_wide : (i : ℤ) (n : ℕ) → 2 ≤ unsigned_abs i → 64 ≤ n → narrowed (int_pow i n) ≡ Raise overflow_fault
power_wide (pos a) n l m = too_wide (pos (a ^ n)) (large (a ^ n) (large_power a n l m))
power_wide (negsuc a) n l m = too_wide (int_pow (negsuc a) n) (by (n % 2 == 0))
  where
    by : (b : Bool) → mag (cond b (pos (suc a ^ n)) (neg_ℤ (pos (suc a ^ n)))) < 9_223_372_036_854_775_808 → ⊥
    by true = large (suc a ^ n) (large_power (suc a) n l m)
    by false = large_below (suc a ^ n) (large_power (suc a) n l m)

one_power : (n : ℕ) → 1 ^ n ≡ 1
one_power zero = pow-zero 1
one_power (suc n) = pow-suc 1 n ∙ ap (λ z. z * 1) (one_power n)

zero_power : (n : ℕ) → n ≢ 0 → 0 ^ n ≡ 0
zero_power zero f = absurd (f refl)
zero_power (suc n) f = pow-suc 0 n ∙ (omega arith)

-- of 0, 1 and -1 each power but the one of 0 is the size, or the number
pub power_none : (i : ℤ) (n : ℕ) → n ≡ 0 → int_pow i n ≡ pos 1
power_none (pos a) n e = ap (λ k. pos (a ^ k)) e ∙ ap pos (pow-zero a)
power_none (negsuc a) n e = ap (λ k. int_pow (negsuc a) k) e ∙ ap pos (pow-zero (suc a))

pub power_even : (i : ℤ) (n : ℕ) → unsigned_abs i ≤ 1 → n ≢ 0 → n % 2 ≡ 0 → int_pow i n ≡ pos (unsigned_abs i)
power_even (pos zero) n l f e = ap pos (zero_power n f)
power_even (pos (suc zero)) n l f e = ap pos (one_power n)
power_even (pos (suc (suc a))) n l f e = absurd (omega (arith, l))
power_even (negsuc zero) n l f e = ap (λ k. cond (k == 0) (pos (1 ^ n)) (neg_ℤ (pos (1 ^ n)))) e ∙ ap pos (one_power n)
power_even (negsuc (suc a)) n l f e = absurd (omega (arith, l))

odd : (n : ℕ) → n % 2 ≢ 0 → (n % 2 == 0) ≡ false
odd n f = grind arith

pub power_odd : (i : ℤ) (n : ℕ) → unsigned_abs i ≤ 1 → n % 2 ≢ 0 → int_pow i n ≡ i
power_odd (pos zero) n l f = ap pos (zero_power n (λ e. f (ap (λ k. k % 2) e)))
power_odd (pos (suc zero)) n l f = ap pos (one_power n)
power_odd (pos (suc (suc a))) n l f = absurd (omega (arith, l))
power_odd (negsuc zero) n l f = ap (λ b. cond b (pos (1 ^ n)) (neg_ℤ (pos (1 ^ n)))) (odd n f) ∙
    ap (λ k. neg_ℤ (pos k)) (one_power n)
power_odd (negsuc (suc a)) n l f = absurd (omega (arith, l))

-- ---- shifts
at_least : (a m : ℕ) → 18_446_744_073_709_551_616 ≤ m → 18_446_744_073_709_551_616 ≤ suc a * m
at_least a m l = omega (arith, l)

nothing : (m : ℕ) → 0 * m ≡ 0
nothing m = omega arith

pub shift_none : (i : ℤ) (n : ℕ) → i ≡ pos 0 → narrowed (i *ℤ pos (2 ^ n)) ≡ Is (Int (pos 0))
unfolding narrowed
shift_none i n e = ap (λ z. narrowed (z *ℤ pos (2 ^ n))) e ∙
    ap narrowed (pos-*ℤ-pos 0 (2 ^ n) ∙ ap pos (nothing (2 ^ n)))

pub shift_wide : (i : ℤ) (n : ℕ) → i ≢ pos 0 → 64 ≤ n → narrowed (i *ℤ pos (2 ^ n)) ≡ Raise overflow_fault
shift_wide (pos zero) n f l = absurd (f refl)
shift_wide (pos (suc a)) n f l = ap narrowed (pos-*ℤ-pos (suc a) (2 ^ n)) ∙
    too_wide (pos (suc a * 2 ^ n)) (large (suc a * 2 ^ n) (at_least a (2 ^ n) (long n l)))
shift_wide (negsuc a) n f l = ap narrowed (negsuc-*ℤ-pos a (2 ^ n)) ∙
    too_wide (neg_ℤ (pos (suc a * 2 ^ n))) (large_below (suc a * 2 ^ n) (at_least a (2 ^ n) (long n l)))

nothing_left : (a n : ℕ) → a < 9_223_372_036_854_775_808 → 64 ≤ n → a / 2 ^ n ≡ 0
nothing_left a n l m = div-eq_of_lt (let p = long n m in omega (arith, p, l))

pub shift_out : (i : ℤ) (n : ℕ) → mag i < 9_223_372_036_854_775_808 → 64 ≤ n → int_lt i (pos 0) ≡ false →
    floor_quotient i (pos (2 ^ n)) ≡ pos 0
shift_out (pos a) n l m f = ap pos (nothing_left a n l m)
shift_out (negsuc a) n l m f = absurd (let q : true ≡ false = f in cc)

pub shift_out_below : (i : ℤ) (n : ℕ) → mag i < 9_223_372_036_854_775_808 → 64 ≤ n → int_lt i (pos 0) ≡ true →
    floor_quotient i (pos (2 ^ n)) ≡ negsuc 0
shift_out_below (pos a) n l m f = absurd (let q : nat_lt a 0 ≡ true = f in grind (arith, q))
shift_out_below (negsuc a) n l m f = ap negsuc (nothing_left a n l m)

-- what a shift of 1 gives
pub two_power : (n : ℕ) → n < 64 → 1 * 2 ^ n % 18_446_744_073_709_551_616 ≡ 2 ^ n
two_power n l = let p = pow_below n 64 l in grind (arith, p)
