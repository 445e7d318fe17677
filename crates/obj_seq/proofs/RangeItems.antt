-- The items of a range lie between its start and its stop, so they have 64 bits; and the numbers by which code counts
-- one.
use Rattle.std.proofs.Common.{◌≡◌, ℕ, zero, suc, ◌*◌, ◌<◌, ◌≤◌, ◌/◌, ◌^◌, ℤ, pos, negsuc, neg_ℤ, ◌+ℤ◌, ◌-ℤ◌, ◌*ℤ◌, ◌≤ℤ◌, FitsSigned, w64, to_z, of_z, refl, sym, subst, arith}
use mir.Syntax.{w128}
use Rattle.std.proofs.Math.Facts.{sfits_widen}
use Rattle.std.proofs.Math.Nat.{div-mul-le_self, mul-le-mul_left}
use Rattle.std.proofs.Math.IntN.{pos-*ℤ-pos, pos-*ℤ-negsuc}
use Rattle.std.proofs.lemmas.Int.{to_z-of_z, to_z_pos, fits_signed_mul, ints}
use Rattle.py_data.specs.Range.{steps, range_length, range_item}

-- k steps are no longer than the way
pub record IsOnWay (d : ℤ) (m : ℕ) : Type 0 where
  pub way : ℕ
  pub is : d ≡ pos (suc way)
  pub short : m ≤ way

on_way : (d : ℤ) (s k : ℕ) → k < steps d s → IsOnWay d (k * s)
on_way (pos zero) s k h = absurd (omega arith)
on_way (pos (suc w)) s k h =
    let a : k ≤ w / s = omega arith in
    let b = mul-le-mul_left s a in
    let c = div-mul-le_self w s in
    record { way = w; is = refl; short = omega (arith, b, c) }
on_way (negsuc n) s k h = absurd (omega arith)

-- what lies between two numbers of 64 bits has 64 bits
below_top : (n : ℕ) (high : ℤ) → FitsSigned w64 high → pos n ≤ℤ high → FitsSigned w64 (pos n)
below_top n (pos h) f l = let g = f.sfits in record { sfits = omega (arith, ints) }
below_top n (negsuc h) f l = absurd (omega (arith, ints))

above_bottom : (n : ℕ) (low : ℤ) → FitsSigned w64 low → low ≤ℤ negsuc n → FitsSigned w64 (negsuc n)
above_bottom n (pos h) f l = absurd (omega (arith, ints))
above_bottom n (negsuc h) f l = let g = f.sfits in record { sfits = omega (arith, ints) }

between : (low z high : ℤ) → FitsSigned w64 low → FitsSigned w64 high → low ≤ℤ z → z ≤ℤ high → FitsSigned w64 z
between low (pos n) high f g l h = below_top n high g h
between low (negsuc n) high f g l h = above_bottom n low f l

up_fits : (a b : ℤ) (m : ℕ) → FitsSigned w64 a → FitsSigned w64 b → IsOnWay (b -ℤ a) m → FitsSigned w64 (a +ℤ pos m)
up_fits a b m f g h = let e = h.is in let l = h.short in
    between a (a +ℤ pos m) b f g (omega (arith, ints)) (omega (arith, ints))

down_fits : (a b : ℤ) (m : ℕ) → FitsSigned w64 a → FitsSigned w64 b → IsOnWay (a -ℤ b) m →
    FitsSigned w64 (a +ℤ neg_ℤ (pos m))
down_fits a b m f g h = let e = h.is in let l = h.short in between b (a +ℤ neg_ℤ (pos m)) a g f (omega (arith, ints))
    (omega (arith, ints))

pub item_fits : (start stop step : ℤ) (k : ℕ) → FitsSigned w64 start → FitsSigned w64 stop →
    k < range_length start stop step → FitsSigned w64 (range_item start step k)
item_fits start stop (pos s) k f g h = subst (λ z. FitsSigned w64 (start +ℤ z)) (sym (pos-*ℤ-pos k s))
    (up_fits start stop (k * s) f g (on_way (stop -ℤ start) s k h))
item_fits start stop (negsuc s) k f g h = subst (λ z. FitsSigned w64 (start +ℤ z)) (sym (pos-*ℤ-negsuc k s))
    (down_fits start stop (k * suc s) f g (on_way (start -ℤ stop) (suc s) k h))

-- what the code's numbers are, of 64 bits and of 128, as it counts an item of a range
pub record ItemSteps (start step : ℤ) (k : ℕ) : Type 0 where
  pub short_start : to_z w64 (of_z w64 start) ≡ start
  pub short_step : to_z w64 (of_z w64 step) ≡ step
  pub wide_start : to_z w128 (of_z w128 start) ≡ start
  pub wide_step : to_z w128 (of_z w128 step) ≡ step
  pub count : to_z w128 k ≡ pos k
  pub product : to_z w128 (of_z w128 (pos k *ℤ step)) ≡ pos k *ℤ step
  pub whole : to_z w128 (of_z w128 (range_item start step k)) ≡ range_item start step k
  pub item : to_z w64 (of_z w64 (range_item start step k)) ≡ range_item start step k

pub item_steps : (start step : ℤ) (k : ℕ) → FitsSigned w64 start → FitsSigned w64 step → k < 2 ^ 64 →
    FitsSigned w64 (range_item start step k) → ItemSteps start step k
item_steps start step k f g h item =
    let product : FitsSigned w128 (pos k *ℤ step) = fits_signed_mul w128 (pos k) step 18446744073709551615
    9223372036854775808 (omega arith) (omega (arith, ints)) (omega arith) in
    record {
      short_start = to_z-of_z w64 start f;
      short_step = to_z-of_z w64 step g;
      wide_start = to_z-of_z w128 start (sfits_widen tt f);
      wide_step = to_z-of_z w128 step (sfits_widen tt g);
      count = to_z_pos w128 k (omega arith);
      product = to_z-of_z w128 (pos k *ℤ step) product;
      whole = to_z-of_z w128 (range_item start step k) (sfits_widen tt item);
      item = to_z-of_z w64 (range_item start step k) item;
    }
