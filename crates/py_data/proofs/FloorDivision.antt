-- What `floor_quotient` and `floor_remainder` give divides, and nothing else does.
use Rattle.std.proofs.Common.{◌≡◌, ◌≢◌, ℕ, zero, suc, ◌+◌, ◌-◌, ◌*◌, ◌/◌, ◌%◌, ◌^◌, ◌<◌, ◌≤◌, ◌⊎◌, ℤ, pos, negsuc, ◌+ℤ◌, ◌-ℤ◌, ◌*ℤ◌, neg_ℤ, ◌≤ℤ◌, ◌<ℤ◌, inl, inr, ⊎_elim, refl, sym, ap, ◌∙◌, arith}
use Rattle.std.proofs.lemmas.Int.{ints, quot-rem, rem_below}
use Rattle.std.specs.Prelude.{FitsSigned, int_div, int_rem, unsigned_abs}
use Rattle.std.specs.Int.{w64}
use Rattle.std.proofs.Math.Nat.{div-le_self}
use Rattle.std.proofs.Math.IntN.{*ℤ_comm, -ℤ_one, pred_ℤ-*ℤ}
use Rattle.std.proofs.lemmas.Nat.{div-add-mod', mod_below, div_below, same_from_place}
use Rattle.py_data.specs.Arithmetic.{floor_quotient, floor_remainder, IsAcross, IsFloorDivision}
use lib.Signed.{mag_rem}
use borrow.Author.Differences.{up, down}

-- the quotient and the remainder of naturals, by either order of the factors
parts : (a b : ℕ) → b * (a / b) + a % b ≡ a
parts a b = omega (arith, div-add-mod' a b)

pub divides : (a b : ℤ) → b ≢ pos 0 → IsFloorDivision a b (floor_quotient a b) (floor_remainder a b)
divides a (pos zero) h = absurd (h refl)
divides (pos a) (pos (suc b)) h = record {
  sum = ap pos (sym (parts a (suc b)));
  side = let e : a % suc b < suc b = mod_below a (suc b) (omega arith) in
      inl (omega (arith, ints), omega (arith, ints));
}
divides (negsuc a) (pos (suc b)) h =
    let e : a % suc b < suc b = mod_below a (suc b) (omega arith) in
    let p = parts a (suc b) in
    record { sum = omega (arith, ints); side = inl (omega (arith, ints), omega (arith, ints)) }
divides (pos zero) (negsuc b) h = record
    { sum = omega (arith, ints); side = inr (omega (arith, ints), omega (arith, ints)) }
divides (pos (suc a)) (negsuc b) h =
    let e : a % suc b < suc b = mod_below a (suc b) (omega arith) in
    let p = parts a (suc b) in
    record { sum = omega (arith, ints); side = inr (omega (arith, ints), omega (arith, ints)) }
divides (negsuc a) (negsuc b) h =
    let e : suc a % suc b < suc b = mod_below (suc a) (suc b) (omega arith) in
    let p = parts (suc a) (suc b) in
    record { sum = omega (arith, ints); side = inr (omega (arith, ints), omega (arith, ints)) }

-- a product with a positive factor, in naturals
spread : (w : ℕ) (q : ℤ) → pos w *ℤ q +ℤ pos (w * down q) ≡ pos (w * up q)
spread w (pos n) = omega (arith, ints)
spread w (negsuc n) = omega (arith, ints)

turned : (b : ℕ) (q : ℤ) → neg_ℤ (negsuc b *ℤ q) ≡ pos (suc b) *ℤ q
turned b (pos n) = omega (arith, ints)
turned b (negsuc n) = omega (arith, ints)

one_place : (w : ℕ) (a q r q' r' : ℤ) → a ≡ pos w *ℤ q +ℤ r → a ≡ pos w *ℤ q' +ℤ r' → pos 0 ≤ℤ r → r <ℤ pos w →
    pos 0 ≤ℤ r' → r' <ℤ pos w → (q ≡ q') × (r ≡ r')
one_place w a q (pos r) q' (pos r') e e' l h l' h' =
    let s = spread w q in
    let s' = spread w q' in
    let same : (up q + down q') * w + r ≡ (up q' + down q) * w + r' = omega (arith, ints) in
    let both = same_from_place (up q + down q') r (up q' + down q) r' w (omega (arith, ints)) (omega (arith, ints))
    same in
    (omega (arith, ints, both.0), omega (arith, ints, both.1))
one_place w a q (negsuc r) q' r' e e' l h l' h' = absurd (omega (arith, ints))
one_place w a q (pos r) q' (negsuc r') e e' l h l' h' = absurd (omega (arith, ints))

above : (w : ℕ) (r : ℤ) → (pos 0 ≤ℤ r × r <ℤ pos (suc w)) ⊎ (pos (suc w) <ℤ r × r ≤ℤ pos 0) →
    pos 0 ≤ℤ r × r <ℤ pos (suc w)
above w r s = ⊎_elim (λ x. x) (λ x. absurd (omega (arith, ints, x.0, x.1))) s

below : (w : ℕ) (r : ℤ) → (pos 0 ≤ℤ r × r <ℤ negsuc w) ⊎ (negsuc w <ℤ r × r ≤ℤ pos 0) →
    pos 0 ≤ℤ neg_ℤ r × neg_ℤ r <ℤ pos (suc w)
below w r s = ⊎_elim (λ x. absurd (omega (arith, ints, x.0, x.1)))
    (λ x. (omega (arith, ints, x.0, x.1), omega (arith, ints, x.0, x.1))) s

pub divides_once : (a b q r q' r' : ℤ) → b ≢ pos 0 → IsFloorDivision a b q r → IsFloorDivision a b q' r' →
    (q ≡ q') × (r ≡ r')
divides_once a (pos zero) q r q' r' h d d' = absurd (h refl)
divides_once a (pos (suc b)) q r q' r' h d d' =
    let s = above b r d.side in
    let s' = above b r' d'.side in
    one_place (suc b) a q r q' r' d.sum d'.sum s.0 s.1 s'.0 s'.1
divides_once a (negsuc b) q r q' r' h d d' =
    let s = below b r d.side in
    let s' = below b r' d'.side in
    let t = turned b q in
    let t' = turned b q' in
    let both = one_place (suc b) (neg_ℤ a) q (neg_ℤ r) q' (neg_ℤ r') (omega (arith, ints, d.sum))
    (omega (arith, ints, d'.sum)) s.0 s.1 s'.0 s'.1 in
    (both.0, omega (arith, ints, both.1))

pub divides_alone : (a b q r : ℤ) → b ≢ pos 0 → IsFloorDivision a b q r →
    (q ≡ floor_quotient a b) × (r ≡ floor_remainder a b)
divides_alone a b q r h d = divides_once a b q r (floor_quotient a b) (floor_remainder a b) h d (divides a b h)

-- ---- the code's quotient and remainder, which round toward 0

rest_near : (a b : ℤ) → b ≢ pos 0 → unsigned_abs (int_rem a b) < unsigned_abs b
rest_near a (pos zero) h = absurd (h refl)
rest_near a (pos (suc b)) h = rem_below a (pos (suc b)) (omega arith)
rest_near a (negsuc b) h = rem_below a (negsuc b) (omega arith)

-- a number on the other side of 0 from a divisor that is farther from it
near_above : (b r : ℤ) → unsigned_abs r < unsigned_abs b → r <ℤ pos 0 → pos 0 <ℤ b →
    (pos 0 ≤ℤ (r +ℤ b)) × ((r +ℤ b) <ℤ b)
near_above (pos b) (negsuc r) n l h = (omega (arith, ints), omega (arith, ints))
near_above (pos b) (pos r) n l h = absurd (omega (arith, ints))
near_above (negsuc b) r n l h = absurd (omega (arith, ints))

near_below : (b r : ℤ) → unsigned_abs r < unsigned_abs b → pos 0 <ℤ r → b <ℤ pos 0 →
    (b <ℤ (r +ℤ b)) × ((r +ℤ b) ≤ℤ pos 0)
near_below (negsuc b) (pos r) n l h = (omega (arith, ints), omega (arith, ints))
near_below (pos b) r n l h = absurd (omega (arith, ints))
near_below (negsuc b) (negsuc r) n l h = absurd (omega (arith, ints))

near : (b r : ℤ) → unsigned_abs r < unsigned_abs b → ¬ IsAcross r b → (pos 0 ≤ℤ r × r <ℤ b) ⊎ (b <ℤ r × r ≤ℤ pos 0)
near (pos b) (pos r) n h = inl (omega (arith, ints), omega (arith, ints))
near (pos b) (negsuc r) n h = absurd (h (inl (omega (arith, ints), omega (arith, ints))))
near (negsuc b) (pos zero) n h = inr (omega (arith, ints), omega (arith, ints))
near (negsuc b) (pos (suc r)) n h = absurd (h (inr (omega (arith, ints), omega (arith, ints))))
near (negsuc b) (negsuc r) n h = inr (omega (arith, ints), omega (arith, ints))

one_less : (a b q r : ℤ) → q *ℤ b +ℤ r ≡ a → a ≡ b *ℤ (q -ℤ pos 1) +ℤ (r +ℤ b)
one_less a b q r e =
    let m : b *ℤ (q -ℤ pos 1) ≡ q *ℤ b -ℤ b = *ℤ_comm b (q -ℤ pos 1) ∙ ap (λ x. x *ℤ b) (-ℤ_one q) ∙ pred_ℤ-*ℤ q b in
    omega (arith, ints)

across : (a b q r : ℤ) → q *ℤ b +ℤ r ≡ a → unsigned_abs r < unsigned_abs b → IsAcross r b →
    IsFloorDivision a b (q -ℤ pos 1) (r +ℤ b)
across a b q r e n (inl s) = record { sum = one_less a b q r e; side = inl (near_above b r n s.0 s.1) }
across a b q r e n (inr s) = record { sum = one_less a b q r e; side = inr (near_below b r n s.0 s.1) }

same_side : (a b q r : ℤ) → q *ℤ b +ℤ r ≡ a → unsigned_abs r < unsigned_abs b → ¬ IsAcross r b → IsFloorDivision a b q r
same_side a b q r e n h =
    let m = *ℤ_comm b q in
    record { sum = omega (arith, ints); side = near b r n h }

pub lowered : (a b : ℤ) → b ≢ pos 0 → IsAcross (int_rem a b) b →
    (int_div a b -ℤ pos 1 ≡ floor_quotient a b) × (int_rem a b +ℤ b ≡ floor_remainder a b)
lowered a b h s = divides_alone a b _ _ h (across a b (int_div a b) (int_rem a b) (quot-rem a b) (rest_near a b h) s)

pub kept : (a b : ℤ) → b ≢ pos 0 → ¬ IsAcross (int_rem a b) b →
    (int_div a b ≡ floor_quotient a b) × (int_rem a b ≡ floor_remainder a b)
kept a b h s = divides_alone a b _ _ h (same_side a b (int_div a b) (int_rem a b) (quot-rem a b) (rest_near a b h) s)

-- ---- both fit 64 bits, but for the least number by -1

minus_below : (r a : ℕ) → r ≤ suc a → a < 2 ^ 63 → FitsSigned w64 (neg_ℤ (pos r))
minus_below zero a h l = record { sfits = omega arith }
minus_below (suc r) a h l = record { sfits = omega arith }

both_below : (a b : ℕ) → a < 2 ^ 63 → (negsuc a ≡ negsuc 9223372036854775807 → negsuc b ≢ negsuc 0) →
    suc a / suc b < 2 ^ 63
both_below a zero l m =
    let ne : a ≢ 9223372036854775807 = λ e. m (ap negsuc e) refl in
    div_below (suc a) 1 (2 ^ 63) (omega arith) (omega arith)
both_below a (suc b) l m = div_below (suc a) (suc (suc b)) (2 ^ 63) (omega arith) (omega arith)

pub quotient_near : (a b : ℤ) → FitsSigned w64 a → (a ≡ negsuc 9223372036854775807 → b ≢ negsuc 0) →
    FitsSigned w64 (int_div a b)
quotient_near (pos a) (pos b) f m = record { sfits = omega (arith, div-le_self a b, f.sfits) }
quotient_near (pos a) (negsuc b) f m = minus_below (a / suc b) a (omega (arith, div-le_self a (suc b))) f.sfits
quotient_near (negsuc a) (pos b) f m = minus_below (suc a / b) a (div-le_self (suc a) b) f.sfits
quotient_near (negsuc a) (negsuc b) f m = record { sfits = both_below a b f.sfits m }

pub floor_quotient_near : (a b : ℤ) → FitsSigned w64 a → (a ≡ negsuc 9223372036854775807 → b ≢ negsuc 0) →
    FitsSigned w64 (floor_quotient a b)
floor_quotient_near (pos a) (pos b) f m = record { sfits = omega (arith, div-le_self a b, f.sfits) }
floor_quotient_near (pos zero) (negsuc b) f m = record { sfits = omega arith }
floor_quotient_near (pos (suc a)) (negsuc b) f m = record { sfits = omega (arith, div-le_self a (suc b), f.sfits) }
floor_quotient_near (negsuc a) (pos b) f m = record { sfits = omega (arith, div-le_self a b, f.sfits) }
floor_quotient_near (negsuc a) (negsuc b) f m = record { sfits = both_below a b f.sfits m }

pub rest_fits : (a b : ℤ) → FitsSigned w64 a → FitsSigned w64 (int_rem a b)
rest_fits a b f = record { sfits = omega (arith, mag_rem a b, f.sfits) }

pub floor_remainder_fits : (a b : ℤ) → FitsSigned w64 b → b ≢ pos 0 → FitsSigned w64 (floor_remainder a b)
floor_remainder_fits a (pos zero) f h = absurd (h refl)
floor_remainder_fits (pos a) (pos (suc b)) f h = record { sfits = omega (arith, mod_below a (suc b), f.sfits) }
floor_remainder_fits (pos zero) (negsuc b) f h = record { sfits = omega arith }
floor_remainder_fits (pos (suc a)) (negsuc b) f h = minus_below (b - a % suc b) b (omega arith) f.sfits
floor_remainder_fits (negsuc a) (pos (suc b)) f h = record { sfits = omega (arith, f.sfits) }
floor_remainder_fits (negsuc a) (negsuc b) f h =
    minus_below (suc a % suc b) b (omega (arith, mod_below (suc a) (suc b))) f.sfits
