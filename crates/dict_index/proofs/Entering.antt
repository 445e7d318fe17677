-- What a new pair makes of an index.
use Rattle.std.proofs.Common.{◌≡◌, ◌≢◌, ◌⊎◌, inl, inr, ℕ, ◌+◌, ◌<◌, ◌≤◌, sym, ap, ◌∙◌, subst, arith}
use Rattle.std.proofs.lemmas.Bool.Decides.{eqb_tells}
use Rattle.dict_index.specs.Slots.{slot, put, used, filled}
use Rattle.dict_index.specs.Index.{Stands, FirstEmpty}
use Rattle.dict_index.specs.Laws.{BlankLaw, EnterLaw}
use Rattle.dict_index.proofs.Circle.{slot_within}
use Rattle.dict_index.proofs.Count.{used_put, used_none, filled_one}
use Rattle.dict_index.proofs.Put.{put_same, put_other, put_full, put_at_most}

pub blank_law : BlankLaw
blank_law home n w f = record {
  each = λ j l. absurd (omega arith);
  only = λ s l. let e : w s ≡ 0 = f s l in omega arith;
  once = λ s t l m e z. absurd (z (f s l));
  used = used_none n w f;
}

still : (n : ℕ) (w : ℕ → ℕ) (home j d s x : ℕ) → Stands n w home j d → w s ≡ 0 → x ≢ 0 →
    Stands n (put s x w) home j d
still n w home j d s x p z f = record {
  near = p.near;
  here =
      put_other s (slot n home d) x w
      (λ e. let q : w (slot n home d) ≡ w s = ap w e in absurd (omega (arith, q, p.here, z)))
      ∙ p.here;
  behind = λ e l. put_full s (slot n home e) x w f (p.behind e l);
}

newest : (n : ℕ) (w : ℕ → ℕ) (home m s : ℕ) (f : FirstEmpty n w home s) → Stands n (put s (m + 1) w) home m f.steps
newest n w home m s f = record {
  near = f.near;
  here = put_same s (slot n home f.steps) (m + 1) w (sym f.at);
  behind = λ e l. put_full s (slot n home e) (m + 1) w (λ z. absurd (omega (arith, z))) (f.behind e l);
}

last_or : (m j : ℕ) → j < m + 1 → (j < m) ⊎ (j ≡ m)
last_or m j l = elim (eqb_tells j m) [ inl h ↦ inr h.1 | inr h ↦ inl (let ne = h.1 in omega arith) ]

pub enter_law : EnterLaw
enter_law home n w m s lh x f =
    let more : m + 1 ≢ 0 = λ z. absurd (omega (arith, z)) in
    let sn : s < n = subst (λ i. i < n) (sym f.at)
    (slot_within n (home m) f.steps (lh m (omega arith)) (let a = f.near in omega arith)) in
    record {
      each = λ j jl. elim (last_or m j jl) [
        | inl a ↦ let p = x.each j a in (p.0, still n w (home j) j p.0 s (m + 1) p.1 f.empty more)
        | inr a ↦ (
          f.steps,
          subst (λ i. Stands n (put s (m + 1) w) (home i) i f.steps) (sym a) (newest n w (home m) m s f),
        )
      ];
      only = λ t tl. put_at_most s t (m + 1) (m + 1) w (omega arith) (let o : w t ≤ m = x.only t tl in omega arith);
      once = λ a b al bl q z. elim (eqb_tells a s) [
        | inl u ↦ elim (eqb_tells b s) [
          | inl v ↦ u.1 ∙ sym v.1
          | inr v ↦
              let o : w b ≤ m = x.only b bl in
              let c : m + 1 ≡ w b = sym (put_same s a (m + 1) w u.1) ∙ q ∙ put_other s b (m + 1) w v.1 in
              absurd (omega arith)
        ]
        | inr u ↦ elim (eqb_tells b s) [
          | inl v ↦
              let o : w a ≤ m = x.only a al in
              let c : w a ≡ m + 1 = sym (put_other s a (m + 1) w u.1) ∙ q ∙ put_same s b (m + 1) w v.1 in
              absurd (omega arith)
          | inr v ↦ x.once a b al bl
              (sym (put_other s a (m + 1) w u.1) ∙ q ∙ put_other s b (m + 1) w v.1)
              (λ y. z (put_other s a (m + 1) w u.1 ∙ y))
        ]
      ];
      used =
          let a : used n (put s (m + 1) w) + filled (w s) ≡ used n w + filled (m + 1) = used_put n s (m + 1) w sn in
          let b : filled (w s) ≡ 0 = ap filled f.empty in
          let c : filled (m + 1) ≡ 1 = filled_one (m + 1) more in
          let u : used n w ≡ m = x.used in
          omega arith;
    }
