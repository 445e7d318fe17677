-- The equations of reading targets, by the code's rungs and budgets.
use Rattle.std.proofs.Common.{◌≡◌, ℕ, zero, suc, ◌+◌, ◌-◌, ◌<◌, nat_lt, nat_le, Bool, true, false, ◌&&◌, ◌||◌, List, Ok, Err, refl, sym, ap, ◌∙◌, arith, if◌then◌else◌}
use Rattle.py_tokens.specs.declared.token.Token.{Token}
use Rattle.py_tokens.specs.declared.token.TokenKind.{TokenKind}
use Rattle.py_tree.specs.declared.expr.Expr.{Expr}
use Rattle.py_grammar.specs.declared.fault.Fault.TheVariants.{Deep}
use Rattle.py_grammar.specs.declared.rung.Rung.{Rung}
use Rattle.py_grammar.specs.declared.rung.Rung.TheVariants.{Trailed, Powered, Signed, Chained, Negated, Chosen, Listed}
use Rattle.py_grammar.specs.declared.tall.Tall.{Tall}
use Rattle.py_grammar.specs.inner.Aiming.{after_rung, grown_at, grows, risen_at, aim_at, aimed_at}
use Rattle.py_grammar.specs.inner.Follow.{takes}
use Rattle.py_grammar.specs.inner.Reading.{◌>>=◌, Below, first, too_deep, rung_of, power_at, chain_at, choice_at, reads}
use Rattle.py_grammar.proofs.Facts.{no}
use Rattle.py_grammar.proofs.AimedInside.{after_none}

pub grown_up : (under : Below) (g d n : ℕ) (a : Tall Expr × List Token) → 0 < n →
    grown_at under g d n a ≡ (grown_at under g d (n - 1) a >>= after_rung (rung_of n) under g d)
unfolding grown_at
grown_up under g d zero a h = absurd (omega (arith, h))
grown_up under g d (suc n) a h = let e : suc n - 1 ≡ n = omega arith in rw e refl

pub grows_up : (n : ℕ) (κ : TokenKind) → 0 < n → grows n κ ≡ (grows (n - 1) κ || takes (rung_of n) κ)
grows_up zero κ h = absurd (omega (arith, h))
grows_up (suc n) κ h = let e : suc n - 1 ≡ n = omega arith in rw e refl

-- ---- with no height left

-- the rungs between the level of targets and that of tests
between : Rung → Bool
between Trailed = false
between Listed = false
between r = true

is_between : (n : ℕ) → n < 13 → between (rung_of (suc n)) ≡ true
unfolding between
is_between zero h = refl
is_between (suc zero) h = refl
is_between (suc (suc zero)) h = refl
is_between (suc (suc (suc zero))) h = refl
is_between (suc (suc (suc (suc zero)))) h = refl
is_between (suc (suc (suc (suc (suc zero))))) h = refl
is_between (suc (suc (suc (suc (suc (suc zero)))))) h = refl
is_between (suc (suc (suc (suc (suc (suc (suc zero))))))) h = refl
is_between (suc (suc (suc (suc (suc (suc (suc (suc zero)))))))) h = refl
is_between (suc (suc (suc (suc (suc (suc (suc (suc (suc zero))))))))) h = refl
is_between (suc (suc (suc (suc (suc (suc (suc (suc (suc (suc zero)))))))))) h = refl
is_between (suc (suc (suc (suc (suc (suc (suc (suc (suc (suc (suc zero))))))))))) h = refl
is_between (suc (suc (suc (suc (suc (suc (suc (suc (suc (suc (suc (suc zero)))))))))))) h = refl
is_between (suc (suc (suc (suc (suc (suc (suc (suc (suc (suc (suc (suc (suc n))))))))))))) h = absurd (omega (arith, h))

after_zero : (r : Rung) → between r ≡ true → (under : Below) (g : ℕ) (v : Tall Expr) (us : List Token) →
    takes r (first us) ≡ true → after_rung r under g 0 (v, us) ≡ Err (Deep, us)
unfolding between power_at chain_at choice_at
after_zero r b under g v us h = by r b h
  where
    over : nat_lt 0 (v.tall + 1) ≡ true
    over = let i : 0 < v.tall + 1 = omega arith in grind (arith, i)

    by : (r : Rung) → between r ≡ true → takes r (first us) ≡ true → after_rung r under g 0 (v, us) ≡ Err (Deep, us)
    by Powered b h = rw h (rw over refl)
    by (Chained l) b h = rw h (rw over refl)
    by Chosen b h = rw h (rw over refl)
    by Signed b h = no (sym h)
    by Negated b h = no (sym h)
    by Trailed b h = no (sym b)
    by Listed b h = no (sym b)

grown_zero : (n : ℕ) → n < 14 → (under : Below) (g : ℕ) (v : Tall Expr) (us : List Token) →
    grown_at under g 0 n (v, us) ≡ (if grows n (first us) then Err (Deep, us) else Ok (v, us))
unfolding grown_at
grown_zero zero l under g v us = refl
grown_zero (suc n) l under g v us = go (grows n (first us)) refl (grown_zero n (omega (arith, l)) under g v us)
  where
    go : (b : Bool) → grows n (first us) ≡ b →
        grown_at under g 0 n (v, us) ≡ (if grows n (first us) then Err (Deep, us) else Ok (v, us)) →
        grown_at under g 0 (suc n) (v, us) ≡ (if grows (suc n) (first us) then Err (Deep, us) else Ok (v, us))
    go true e q =
        let p : grown_at under g 0 n (v, us) ≡ Err (Deep, us) = q ∙ rw e refl in
        let r : (if grows (suc n) (first us) then Err (Deep, us) else Ok (v, us)) ≡ Err (Deep, us) = rw e refl in
        ap (λ r. r >>= after_rung (rung_of (suc n)) under g 0) p ∙ sym r
    go false e q = let p : grown_at under g 0 n (v, us) ≡ Ok (v, us) = q ∙ rw e refl in
        ap (λ r. r >>= after_rung (rung_of (suc n)) under g 0) p ∙ last (takes (rung_of (suc n)) (first us)) refl
      where
        last : (b : Bool) → takes (rung_of (suc n)) (first us) ≡ b →
            after_rung (rung_of (suc n)) under g 0 (v, us) ≡
            (if grows (suc n) (first us) then Err (Deep, us) else Ok (v, us))
        last true i = after_zero (rung_of (suc n)) (is_between n (omega (arith, l))) under g v us i ∙ rw e (rw i refl)
        last false i = after_none (rung_of (suc n)) under g 0 v us i ∙ rw e (rw i refl)

pub risen_zero : (g : ℕ) (v : Tall Expr) (us : List Token) →
    risen_at g 0 (v, us) ≡ (if grows 13 (first us) then Err (Deep, us) else Ok (v, us))
unfolding risen_at
risen_zero g v us = go (nat_le v.tall 0) refl
  where
    go : (b : Bool) → nat_le v.tall 0 ≡ b →
        risen_at g 0 (v, us) ≡ (if grows 13 (first us) then Err (Deep, us) else Ok (v, us))
    go true e = rw e (grown_zero 13 (omega arith) (reads g (0 - 1)) g v us)
    go false e = rw e refl

-- what grows, where a height is left and what was read fits
pub risen_cases : (g q : ℕ) (v : Tall Expr) (us : List Token) →
    risen_at g q (v, us) ≡ (if nat_lt 0 q && nat_le v.tall q then grown_at (reads g (q - 1)) g (q - 1 + 1) 13 (v, us)
    else (if grows 13 (first us) then Err (Deep, us) else Ok (v, us)))
unfolding risen_at
risen_cases g zero v us = risen_zero g v us
risen_cases g (suc q) v us = let e : suc q - 1 + 1 ≡ suc q = omega arith in rw e (go (nat_le v.tall (suc q)) refl)
  where
    some : nat_lt 0 (suc q) ≡ true
    some = let i : 0 < suc q = omega arith in grind (arith, i)

    go : (b : Bool) → nat_le v.tall (suc q) ≡ b →
        (if nat_le v.tall (suc q) then grown_at (reads g (suc q - 1)) g (suc q) 13 (v, us) else
        (if grows 13 (first us) then Err (Deep, us) else Ok (v, us))) ≡
        (if nat_lt 0 (suc q) && nat_le v.tall (suc q) then grown_at (reads g (suc q - 1)) g (suc q) 13 (v, us) else
        (if grows 13 (first us) then Err (Deep, us) else Ok (v, us)))
    go b e = rw some refl

-- ---- budgets

pub aim_none_at : (g : ℕ) (ts : List Token) → aim_at g 0 ts ≡ Err (too_deep 1 (first ts), ts)
unfolding aim_at
aim_none_at g ts = refl

at_aim : (g d : ℕ) (ts : List Token) → aim_at g (suc d) ts ≡ aimed_at g d ts
unfolding aim_at
at_aim g d ts = refl

pub aim_up : (g d : ℕ) (ts : List Token) → aim_at g (d + 1) ts ≡ aimed_at g d ts
aim_up g d ts = let e : d + 1 ≡ suc d = omega arith in rw e (at_aim g d ts)
