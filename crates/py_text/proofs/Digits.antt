-- Facts on digits.
use Rattle.std.proofs.Common.{◌≡◌, ℕ, ℤ, pos, negsuc, suc, ◌+◌, ◌*◌, ◌%◌, ◌^◌, ◌<◌, ◌≤◌, true, false, List, [], ◌∷◌, length, take, get_or, Result, Ok, Err, IfOk, refl, sym, ap, ◌∙◌, subst, arith}
use Rattle.std.proofs.lemmas.Fmt.{decimal_is_IsNumeral}
use Rattle.std.proofs.lemmas.List.Sums.{prefix_len_is}
use Rattle.std.specs.Fmt.{signed_decimal}
use Rattle.std.specs.Str.Parse.{AllDigits}
use Rattle.py_text.specs.Int.{IsWrittenAs}
use Rattle.py_text.specs.Escape.{is_octal, octal_digits}
use Rattle.std.specs.List.{take_while}
use lib.Signed.{mag}

-- only a base above 0 has a digit
pub base_of_digits : (base : ℕ) (ds : List ℕ) → 0 < length ds → AllDigits base ds → 1 ≤ base
base_of_digits base [] h d = absurd (omega arith)
base_of_digits base (b ∷ ds) h d = let first = d.0 in omega arith

pub low_byte_more : (v w d : ℕ) → v ≡ w % 256 → (v * 8 + d) % 256 ≡ (w * 8 + d) % 256
low_byte_more v w d e = omega arith

-- ---- what is printed is read back

pub IsWrittenAs_signed_decimal : (n : ℤ) → mag n < 2 ^ 63 → IsWrittenAs n (signed_decimal n)
IsWrittenAs_signed_decimal (pos n) h = decimal_is_IsNumeral n (omega arith)
IsWrittenAs_signed_decimal (negsuc n) h = (refl, decimal_is_IsNumeral (suc n) (omega arith))

pub printed : {E : Type 0} (r : Result (List ℕ) E) (n : ℤ) (bs : List ℕ) → mag n < 2 ^ 63 → bs ≡ signed_decimal n →
    IfOk r (λ a. a ≡ bs) → IfOk r (IsWrittenAs n)
printed (Ok a) n bs h e p = subst (IsWrittenAs n) (sym (p ∙ e)) (IsWrittenAs_signed_decimal n h)
printed (Err x) n bs h e p = tt

-- ---- the octal digits at the front

pub octal_digits_stop : (bs most : List ℕ) (i : ℕ) → most ≡ take 3 bs → i ≤ length most →
    ((k : ℕ) → k < i → is_octal (get_or most k 0) ≡ true) → (i < length most → is_octal (get_or most i 0) ≡ false) →
    take i most ≡ octal_digits bs
octal_digits_stop bs most i e h p q = ap (λ n. take n most) (sym (prefix_len_is is_octal most i 0 h p q)) ∙
    ap (λ xs. take_while is_octal xs) e
