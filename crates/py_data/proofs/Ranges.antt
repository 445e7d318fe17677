-- A range's length is the least number of steps that come to the stop or past it.
use Rattle.std.proofs.Common.{◌↔◌, ℕ, zero, suc, ◌*◌, ◌/◌, ◌<◌, ◌≤◌, ℤ, pos, negsuc, neg_ℤ, ◌+ℤ◌, ◌-ℤ◌, ◌≤ℤ◌, inl, inr, refl, sym, subst, arith}
use Rattle.std.proofs.Math.Nat.{le-div_iff_mul-le}
use Rattle.std.proofs.Math.IntN.{pos-*ℤ-pos, pos-*ℤ-negsuc}
use Rattle.std.proofs.lemmas.Bool.{cases_lt}
use Rattle.std.proofs.lemmas.Int.{ints}
use Rattle.py_data.specs.Range.{steps, RangeLaw}

past : (m way : ℕ) → (m ≤ way → ⊥) → pos (suc way) ≤ℤ pos m
past m way f = elim (cases_lt way m) [ inl l ↦ omega (arith, ints, l) | inr l ↦ absurd (f l) ]

steps_past : (k n : ℕ) → (n ≤ k → ⊥) → suc k ≤ n
steps_past k n f = elim (cases_lt k n) [ inl l ↦ omega (arith, l) | inr l ↦ absurd (f l) ]

-- so many steps go to the end of a way, or past it, exactly where they are no fewer than its steps
within : (way : ℤ) (step n : ℕ) → 0 < step → (steps way step ≤ n) ↔ (way ≤ℤ pos (n * step))
within (pos zero) step n p = (λ l. omega (arith, ints), λ l. omega arith)
within (negsuc way) step n p = (λ l. omega (arith, ints), λ l. omega arith)
within (pos (suc way)) step n p =
    let e = le-div_iff_mul-le {k = step} {x = n} {y = way} p in (
      λ l. past (n * step) way (λ i. let j = e.1 i in omega (arith, j, l)),
      λ l.
          steps_past (way / step) n (λ i. let j = e.0 i in omega (arith, ints)),
    )

up : (start stop : ℤ) (m : ℕ) → ((stop -ℤ start) ≤ℤ pos m) ↔ (stop ≤ℤ (start +ℤ pos m))
up start stop m = (λ l. omega (arith, ints), λ l. omega (arith, ints))

down : (start stop : ℤ) (m : ℕ) → ((start -ℤ stop) ≤ℤ pos m) ↔ ((start +ℤ neg_ℤ (pos m)) ≤ℤ stop)
down start stop m = (λ l. omega (arith, ints), λ l. omega (arith, ints))

pub range_law : RangeLaw
range_law n start stop (pos zero) h = absurd (h refl)
range_law n start stop (pos (suc s)) h =
    let e = within (stop -ℤ start) (suc s) n (omega arith) in
    let f = subst (λ z. ((stop -ℤ start) ≤ℤ pos (n * suc s)) ↔ (stop ≤ℤ (start +ℤ z))) (sym (pos-*ℤ-pos n (suc s)))
    (up start stop (n * suc s)) in
    (λ l. f.0 (e.0 l), λ l. e.1 (f.1 l))
range_law n start stop (negsuc s) h =
    let e = within (start -ℤ stop) (suc s) n (omega arith) in
    let f = subst (λ z. ((start -ℤ stop) ≤ℤ pos (n * suc s)) ↔ ((start +ℤ z) ≤ℤ stop)) (sym (pos-*ℤ-negsuc n s))
    (down start stop (n * suc s)) in
    (λ l. f.0 (e.0 l), λ l. e.1 (f.1 l))
