-- How many words aren't empty.
use Rattle.std.proofs.Common.{◌≡◌, ◌≢◌, inl, inr, ℕ, zero, suc, ◌+◌, ◌<◌, ◌≤◌, cond, eqb, refl, sym, ap, arith}
use Rattle.std.proofs.lemmas.Bool.Decides.{nat_tests, eqb_tells}
use Rattle.dict_index.specs.Slots.{put, used, filled}
use Rattle.dict_index.specs.Index.{IsBlank}
use Rattle.dict_index.proofs.Put.{put_same, put_other}

pub used_same : (n : ℕ) (w v : ℕ → ℕ) → ((s : ℕ) → s < n → filled (v s) ≡ filled (w s)) → used n v ≡ used n w
used_same zero w v f = refl
used_same (suc n) w v f =
    let a : used n v ≡ used n w = used_same n w v (λ s l. f s (omega arith)) in
    let b : cond (eqb (v n) 0) 0 1 ≡ filled (w n) = f n (omega arith) in
    cc

pub filled_one : (x : ℕ) → x ≢ 0 → filled x ≡ 1
filled_one x h = grind (arith, nat_tests)

pub used_full : (n : ℕ) (w : ℕ → ℕ) → ((s : ℕ) → s < n → w s ≢ 0) → used n w ≡ n
used_full zero w f = refl
used_full (suc n) w f =
    let a : used n w ≡ n = used_full n w (λ s l. f s (omega arith)) in
    let b : filled (w n) ≡ 1 = filled_one (w n) (f n (omega arith)) in
    omega arith

pub used_none : (n : ℕ) (w : ℕ → ℕ) → IsBlank n w → used n w ≡ 0
used_none zero w f = refl
used_none (suc n) w f =
    let a : used n w ≡ 0 = used_none n w (λ s l. f s (omega arith)) in
    let b : filled (w n) ≡ 0 = ap filled (f n (omega arith)) in
    omega arith

used_outside : (n s x : ℕ) (w : ℕ → ℕ) → n ≤ s → used n (put s x w) ≡ used n w
used_outside n s x w l = used_same n w (put s x w) (λ t m. ap filled (put_other s t x w (λ e. absurd (omega arith))))

-- another word in one slot
pub used_put : (n s x : ℕ) (w : ℕ → ℕ) → s < n → used n (put s x w) + filled (w s) ≡ used n w + filled x
used_put zero s x w l = absurd (omega arith)
used_put (suc n) s x w l = elim (eqb_tells s n) [
  | inl e ↦
      let a : used n (put s x w) ≡ used n w = used_outside n s x w (omega (arith, e.1)) in
      let b : filled (put s x w n) ≡ filled x = ap filled (put_same s n x w (sym e.1)) in
      let c : filled (w n) ≡ filled (w s) = ap (λ i. filled (w i)) (sym e.1) in
      omega arith
  | inr ne ↦
      let a : used n (put s x w) + filled (w s) ≡ used n w + filled x =
      used_put n s x w (let f = ne.1 in omega arith) in
      let b : filled (put s x w n) ≡ filled (w n) = ap filled (put_other s n x w (λ e. ne.1 (sym e))) in
      omega arith
]
