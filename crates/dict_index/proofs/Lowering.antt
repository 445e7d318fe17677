-- Numbers of later pairs fall by one.
use Rattle.std.proofs.Common.{◌≡◌, ◌≢◌, ◌⊎◌, inl, inr, ℕ, suc, ◌+◌, ◌-◌, ◌<◌, ◌≤◌, sym, ap, ◌∙◌, arith}
use Rattle.std.proofs.lemmas.Bool.Decides.{nat_tests}
use Rattle.dict_index.specs.Slots.{slot, used, filled}
use Rattle.dict_index.specs.Index.{Stands}
use Rattle.dict_index.specs.Laws.{LeaveLaw}
use Rattle.dict_index.specs.Leaving.{lowered, skip}
use Rattle.dict_index.proofs.Count.{used_same, filled_one}

pub lowered_is : (a x : ℕ) → ((a < x) × (lowered a x ≡ x - 1)) ⊎ ((x ≤ a) × (lowered a x ≡ x))
lowered_is a x = grind (arith, nat_tests)

pub skip_is : (p j : ℕ) → ((j < p) × (skip p j ≡ j)) ⊎ ((p ≤ j) × (skip p j ≡ j + 1))
skip_is p j = grind (arith, nat_tests)

pub skip_suc : (p j : ℕ) → skip (suc p) (suc j) ≡ suc (skip p j)
skip_suc p j = elim (skip_is (suc p) (suc j)) [
  | inl x ↦ elim (skip_is p j) [ inl y ↦ omega arith | inr y ↦ absurd (omega arith) ]
  | inr x ↦ elim (skip_is p j) [ inl y ↦ absurd (omega arith) | inr y ↦ omega arith ]
]

pub skip_within : (p j m : ℕ) → p < m → j < m - 1 → skip p j < m
skip_within p j m l k = elim (skip_is p j) [ inl x ↦ omega arith | inr x ↦ omega arith ]

pub skip_other : (p j : ℕ) → skip p j ≢ p
skip_other p j e = elim (skip_is p j) [ inl x ↦ absurd (omega arith) | inr x ↦ absurd (omega arith) ]

lowered_full : (p x : ℕ) → x ≢ 0 → lowered (p + 1) x ≢ 0
lowered_full p x f e = elim (lowered_is (p + 1) x) [ inl u ↦ absurd (omega arith) | inr u ↦ absurd (f (sym u.1 ∙ e)) ]

lowered_zero : (p : ℕ) → lowered (p + 1) 0 ≡ 0
lowered_zero p = elim (lowered_is (p + 1) 0) [ inl u ↦ absurd (omega arith) | inr u ↦ u.1 ]

filled_lowered : (p x : ℕ) → filled (lowered (p + 1) x) ≡ filled x
filled_lowered p x = elim (lowered_is (p + 1) x) [
  | inl y ↦
      let f : x ≢ 0 = λ z. absurd (omega arith) in
      filled_one (lowered (p + 1) x) (lowered_full p x f) ∙ sym (filled_one x f)
  | inr y ↦ ap filled y.1
]

-- two different numbers, neither of which is the number that is gone, fall to different numbers
lowered_once : (a x y : ℕ) → x ≢ a → y ≢ a → x ≢ 0 → lowered a x ≡ lowered a y → x ≡ y
lowered_once a x y nx ny nz e = elim (lowered_is a x) [
  | inl u ↦ elim (lowered_is a y) [ inl v ↦ omega arith | inr v ↦ absurd (let ne = ny in omega arith) ]
  | inr u ↦ elim (lowered_is a y) [ inl v ↦ absurd (let ne = nx in omega arith) | inr v ↦ omega arith ]
]

lowered_skip : (p j : ℕ) → lowered (p + 1) (skip p j + 1) ≡ j + 1
lowered_skip p j = elim (skip_is p j) [
  | inl u ↦ elim (lowered_is (p + 1) (skip p j + 1)) [ inl v ↦ absurd (omega arith) | inr v ↦ omega arith ]
  | inr u ↦ elim (lowered_is (p + 1) (skip p j + 1)) [ inl v ↦ omega arith | inr v ↦ absurd (omega arith) ]
]

pub leave_law : LeaveLaw
leave_law home n w m p lp lh g = record {
  each = λ j jl.
      let i : ℕ = skip p j in
      let il : i < m = skip_within p j m lp jl in
      let q = g.each i il (skip_other p j) in
      let stands : Stands n (λ s. lowered (p + 1) (w s)) (home i) j q.0 = record {
        near = q.1.near;
        here = ap (lowered (p + 1)) q.1.here ∙ lowered_skip p j;
        behind = λ e el z. lowered_full p (w (slot n (home i) e)) (q.1.behind e el) z;
      } in
      (q.0, stands);
  only = λ s l.
      let o : w s ≤ m = g.only s l in
      let ne : w s ≢ p + 1 = g.gone s l in
      elim (lowered_is (p + 1) (w s)) [ inl x ↦ omega arith | inr x ↦ omega arith ];
  once = λ s t sl tl e z.
      let f : w s ≢ 0 = λ y. z (ap (lowered (p + 1)) y ∙ lowered_zero p) in
      g.once s t sl tl (lowered_once (p + 1) (w s) (w t) (g.gone s sl) (g.gone t tl) f e) f;
  used =
      let a : used n (λ s. lowered (p + 1) (w s)) ≡ used n w =
      used_same n w (λ s. lowered (p + 1) (w s)) (λ s l. filled_lowered p (w s)) in
      let b = g.used in
      omega arith;
}
