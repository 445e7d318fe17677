-- How a gap is closed.
use Rattle.std.proofs.Common.{◌≡◌, ◌≢◌, inl, inr, ℕ, ◌+◌, ◌-◌, ◌<◌, ◌≤◌, refl, sym, ap, ◌∙◌, subst, arith, below_more}
use Rattle.std.proofs.lemmas.Bool.Decides.{eqb_tells, leb_tells}
use Rattle.dict_index.specs.Slots.{slot, steps, put, used, filled}
use Rattle.dict_index.specs.Index.{Stands, IsIndex}
use Rattle.dict_index.specs.Leaving.{Elsewhere, Holed, Closing, Gapped}
use Rattle.dict_index.proofs.Circle.{slot_within, slot_slot, steps_of_slot, passed_slot, slot_zero}
use Rattle.dict_index.proofs.Count.{used_put, filled_one}
use Rattle.dict_index.proofs.Put.{put_same, put_other, put_full}
use Rattle.dict_index.proofs.Walking.{not_all_full}

-- ---- the hole is where the pair's number is

pub hole_begins : (home : ℕ → ℕ) (n : ℕ) (w : ℕ → ℕ) (m p s : ℕ) → IsIndex home n w m → s < n → w s ≡ p + 1 →
    Closing home n w m p s s 1
hole_begins home n w m p s x l e = record {
  back = 0;
  before = omega arith;
  at = sym (slot_zero n s l);
  holed = record {
    within = l;
    each = λ j a ne.
        let q = x.each j a in
        let other : slot n (home j) q.0 ≢ s =
        λ o. ne (let f : w (slot n (home j) q.0) ≡ w s = ap w o in omega (arith, f, q.1.here, e)) in
        record { steps = q.0; stands = q.1; other = other };
    only = x.only;
    once = λ a b la lb _ _ q z. x.once a b la lb q z;
    gone = λ t lt ne q. ne (x.once t s lt l (q ∙ sym e) (λ z. absurd (omega (arith, q, z))));
    full = λ z. absurd (omega (arith, e, z));
    used = x.used;
  };
  scanned = λ a b c. absurd (omega arith);
  filled = λ a b q.
      let z : a ≡ 0 = omega arith in
      absurd (omega (arith, q, ap (λ i. w (slot n s i)) z, ap w (slot_zero n s l), e));
}

-- ---- a word stays

-- from the hole to where the walk is
hole_steps : (n start back d hole : ℕ) → start < n → d < n → back < d → hole ≡ slot n start back →
    steps n hole (slot n start d) ≡ d - back
hole_steps n start back d hole l ld lb e =
    let nb : back ≤ n = omega arith in
    let m : back + (d - back) < n = omega arith in
    let sum : back + (d - back) ≡ d = omega arith in
    let q : slot n hole (d - back) ≡ slot n start d =
    ap (λ s. slot n s (d - back)) e ∙ slot_slot n start back (d - back) l m ∙ ap (slot n start) sum in
    let wh : hole < n = subst (λ s. s < n) (sym e) (slot_within n start back l nb) in
    ap (steps n hole) (sym q) ∙ steps_of_slot n hole (d - back) wh (omega arith)

pub stays : (home : ℕ → ℕ) (n : ℕ) (w : ℕ → ℕ) (m p start hole d from : ℕ) → Closing home n w m p start hole d →
    start < n → d < n → w (slot n start d) ≢ 0 → from ≡ home (w (slot n start d) - 1) →
    steps n from (slot n start d) < steps n hole (slot n start d) → Closing home n w m p start hole (d + 1)
stays home n w m p start hole d from c l ld f e near = record {
  back = c.back;
  before = let b = c.before in omega arith;
  at = c.at;
  holed = c.holed;
  scanned = λ a b al. elim (eqb_tells a d) [
    | inl q ↦
        let s = hole_steps n start c.back d hole l ld c.before c.at in
        let t : steps n (home (w (slot n start d) - 1)) (slot n start d) ≡ steps n from (slot n start d) =
        ap (λ i. steps n i (slot n start d)) (sym e) in
        let here : steps n (home (w (slot n start d) - 1)) (slot n start d) < d - c.back = omega arith in
        subst (λ i. steps n (home (w (slot n start i) - 1)) (slot n start i) < i - c.back) (sym q.1) here
    | inr q ↦ c.scanned a b (let ne = q.1 in omega arith)
  ];
  filled = below_more _ d c.filled f;
}

-- ---- a word moves into the hole

moved_one : (n : ℕ) (w : ℕ → ℕ) (home r hole at : ℕ) → home < n → hole < n → at < n → at ≢ hole → w at ≡ r + 1 →
    Elsewhere n w home r hole → ((s : ℕ) → s < n → s ≢ hole → w s ≡ w at → s ≡ at) →
    steps n hole at ≤ steps n home at → Elsewhere n (put hole (w at) w) home r at
moved_one n w home r hole at lh lo la ne e q one far =
    let full : w at ≢ 0 = λ z. absurd (omega (arith, e, z)) in
    let dn : q.steps ≤ n = let a = q.stands.near in omega arith in
    let place : slot n home q.steps ≡ at =
    one (slot n home q.steps) (slot_within n home q.steps lh dn) q.other (q.stands.here ∙ sym e) in
    let d : steps n home at ≡ q.steps =
    ap (steps n home) (sym place) ∙ steps_of_slot n home q.steps lh q.stands.near in
    let k = steps n home at - steps n hole at in
    let there : slot n home k ≡ hole = passed_slot n home hole at lh lo la far in
    record {
      steps = k;
      stands = record {
        near = let a = q.stands.near in omega (arith, d, a);
        here = put_same hole (slot n home k) (w at) w there ∙ e;
        behind = λ i il. put_full hole (slot n home i) (w at) w full (q.stands.behind i (omega (arith, d, il)));
      };
      other = λ o. ne (sym o ∙ there);
    }

other_one : (n : ℕ) (w : ℕ → ℕ) (home j hole at : ℕ) → w at ≢ 0 → w at ≢ j + 1 → Elsewhere n w home j hole →
    Elsewhere n (put hole (w at) w) home j at
other_one n w home j hole at full ne q = record {
  steps = q.steps;
  stands = record {
    near = q.stands.near;
    here = put_other hole (slot n home q.steps) (w at) w q.other ∙ q.stands.here;
    behind = λ i il. put_full hole (slot n home i) (w at) w full (q.stands.behind i il);
  };
  other = λ o. ne (ap w (sym o) ∙ q.stands.here);
}

moved : (home : ℕ → ℕ) (n : ℕ) (w : ℕ → ℕ) (m p hole at from : ℕ) → ((j : ℕ) → j < m → home j < n) →
    Holed home n w m p hole → at < n → at ≢ hole → w at ≢ 0 → from ≡ home (w at - 1) →
    steps n hole at ≤ steps n from at → Holed home n (put hole (w at) w) m p at
moved home n w m p hole at from lh x la ne full e far =
    let most : w at ≤ m = x.only at la in
    let v = put hole (w at) w in
    let still : v at ≡ w at = put_other hole at (w at) w ne in
    record {
      within = la;
      each = λ j jl np. elim (eqb_tells (w at) (j + 1)) [
        | inl q ↦
            let num : w at - 1 ≡ j = let a = q.1 in omega arith in
            let fj : steps n hole at ≤ steps n (home j) at =
            subst (λ i. steps n hole at ≤ steps n i at) (e ∙ ap home num) far in
            moved_one n w (home j) j hole at (lh j jl) x.within la ne q.1 (x.each j jl np)
            (λ s sl sn z. x.once s at sl la sn ne z (λ y. full (sym z ∙ y))) fj
        | inr q ↦ other_one n w (home j) j hole at full q.1 (x.each j jl np)
      ];
      only = λ t tl. elim (eqb_tells t hole) [
        | inl q ↦ let a = put_same hole t (w at) w q.1 in omega arith
        | inr q ↦ let a = put_other hole t (w at) w q.1 in let b : w t ≤ m = x.only t tl in omega arith
      ];
      once = λ a b al bl na nb q z. elim (eqb_tells a hole) [
        | inl u ↦
            let wa : v a ≡ w at = put_same hole a (w at) w u.1 in
            elim (eqb_tells b hole) [
              | inl v ↦ u.1 ∙ sym v.1
              | inr v ↦
                  let wb = put_other hole b (w at) w v.1 in
                  absurd (nb (x.once b at bl la v.1 ne (sym wb ∙ sym q ∙ wa) (λ y. full (sym wa ∙ q ∙ wb ∙ y))))
            ]
        | inr u ↦
            let wa : v a ≡ w a = put_other hole a (w at) w u.1 in
            elim (eqb_tells b hole) [
              | inl v ↦
                  let wb = put_same hole b (w at) w v.1 in
                  absurd (na (x.once a at al la u.1 ne (sym wa ∙ q ∙ wb) (λ y. z (wa ∙ y))))
              | inr v ↦
                  let wb = put_other hole b (w at) w v.1 in
                  x.once a b al bl u.1 v.1 (sym wa ∙ q ∙ wb) (λ y. z (wa ∙ y))
            ]
      ];
      gone = λ t tl nt q. elim (eqb_tells t hole) [
        | inl u ↦ x.gone at la ne (sym (put_same hole t (w at) w u.1) ∙ q)
        | inr u ↦ x.gone t tl u.1 (sym (put_other hole t (w at) w u.1) ∙ q)
      ];
      full = λ y. full (sym still ∙ y);
      used =
          let a : used n (put hole (w at) w) + filled (w hole) ≡ used n w + filled (w at) =
          used_put n hole (w at) w x.within in
          let b : filled (w hole) ≡ 1 = filled_one (w hole) x.full in
          let c : filled (w at) ≡ 1 = filled_one (w at) full in
          let u : used n w ≡ m = x.used in
          omega arith;
    }

pub moves : (home : ℕ → ℕ) (n : ℕ) (w : ℕ → ℕ) (m p start hole d from : ℕ) → ((j : ℕ) → j < m → home j < n) →
    Closing home n w m p start hole d → start < n → d < n → w (slot n start d) ≢ 0 →
    from ≡ home (w (slot n start d) - 1) → steps n hole (slot n start d) ≤ steps n from (slot n start d) →
    Closing home n (put hole (w (slot n start d)) w) m p start (slot n start d) (d + 1)
moves home n w m p start hole d from lh c l ld full e far =
    let dn : d ≤ n = omega arith in
    let bn : c.back < n = let b = c.before in omega arith in
    let ne : slot n start d ≢ hole = λ q.
    let q1 : slot n start d ≡ slot n start c.back = q ∙ c.at in
    let s : d ≡ c.back = sym (steps_of_slot n start d l ld) ∙ ap (steps n start) q1
    ∙ steps_of_slot n start c.back l bn in
    absurd (let b = c.before in omega arith) in
    record {
      back = d;
      before = omega arith;
      at = refl;
      holed = moved home n w m p hole (slot n start d) from lh c.holed (slot_within n start d l dn) ne full e far;
      scanned = λ a b al. absurd (omega arith);
      filled = λ a al. put_full hole (slot n start a) (w (slot n start d)) w full
          (below_more (λ i. w (slot n start i) ≢ 0) d c.filled full a al);
    }

-- ---- the hole is emptied where the walk meets an empty slot

-- no pair is behind the hole: one that stands near has its home behind it, and one that stands far has the empty slot
-- before it
not_behind : (home : ℕ → ℕ) (n : ℕ) (w : ℕ → ℕ) (m p start hole d j k e : ℕ) → Closing home n w m p start hole d →
    start < n → d < n → w (slot n start d) ≡ 0 → home j < n → Stands n w (home j) j k → e < k → slot n (home j) e ≢ hole
not_behind home n w m p start hole d j k e c l ld zero_at lh s ek q =
    let near = s.near in
    let b = c.before in
    let en : e ≤ n = omega arith in
    let step : (x : ℕ) → c.back + x < n → e + x < n → slot n (home j) (e + x) ≡ slot n start (c.back + x) = λ x bx ex.
    sym (slot_slot n (home j) e x lh ex) ∙ ap (λ i. slot n i x) (q ∙ c.at) ∙ slot_slot n start c.back x l bx in
    elim (leb_tells (d - c.back) (k - e)) [
      | inr g ↦
          let f : k - e < d - c.back = let a = g.1 in omega arith in
          let x : ℕ = k - e in
          let there : slot n (home j) k ≡ slot n start (c.back + x) =
          ap (slot n (home j)) (omega arith) ∙ step x (omega arith) (omega arith) in
          let word : w (slot n start (c.back + x)) ≡ j + 1 = ap w (sym there) ∙ s.here in
          let far : steps n (home j) (slot n (home j) k) ≡ k = steps_of_slot n (home j) k lh near in
          let num : w (slot n start (c.back + x)) - 1 ≡ j = omega (arith, word) in
          let scan : steps n (home (w (slot n start (c.back + x)) - 1)) (slot n start (c.back + x))
          < c.back + x - c.back = c.scanned (c.back + x) (omega arith) (omega arith) in
          let scan1 : steps n (home j) (slot n start (c.back + x)) < c.back + x - c.back =
          subst (λ i. steps n (home i) (slot n start (c.back + x)) < c.back + x - c.back) num scan in
          let scan2 : steps n (home j) (slot n (home j) k) < c.back + x - c.back =
          subst (λ i. steps n (home j) i < c.back + x - c.back) (sym there) scan1 in
          absurd (omega arith)
      | inl g ↦
          let f : d - c.back ≤ k - e = g.1 in
          let x : ℕ = d - c.back in
          let there : slot n (home j) (e + x) ≡ slot n start d =
          step x (omega arith) (omega arith) ∙ ap (slot n start) (omega arith) in
          let none : w (slot n (home j) (e + x)) ≡ 0 = ap w there ∙ zero_at in
          elim (eqb_tells (e + x) k) [
            | inl g ↦
                let z : w (slot n (home j) k) ≡ 0 = ap (λ i. w (slot n (home j) i)) (sym g.1) ∙ none in
                absurd (omega (arith, z, s.here))
            | inr g ↦ s.behind (e + x) (let ne = g.1 in omega arith) none
          ]
    ]

pub emptied : (home : ℕ → ℕ) (n : ℕ) (w : ℕ → ℕ) (m p start hole d : ℕ) → ((j : ℕ) → j < m → home j < n) →
    Closing home n w m p start hole d → start < n → d < n → w (slot n start d) ≡ 0 → Gapped home n (put hole 0 w) m p
emptied home n w m p start hole d lh c l ld z =
    let x = c.holed in
    record {
      each = λ j jl np.
          let q = x.each j jl np in
          let ahead : (e : ℕ) → e < q.steps → slot n (home j) e ≢ hole = λ e el.
          not_behind home n w m p start hole d j q.steps e c l ld z (lh j jl) q.stands el in
          let stands : Stands n (put hole 0 w) (home j) j q.steps = record {
            near = q.stands.near;
            here = put_other hole (slot n (home j) q.steps) 0 w q.other ∙ q.stands.here;
            behind = λ e el y.
                q.stands.behind e el (sym (put_other hole (slot n (home j) e) 0 w (ahead e el)) ∙ y);
          } in
          (q.steps, stands);
      only = λ t tl. elim (eqb_tells t hole) [
        | inl q ↦ let a = put_same hole t 0 w q.1 in omega arith
        | inr q ↦ let a = put_other hole t 0 w q.1 in let b : w t ≤ m = x.only t tl in omega arith
      ];
      once = λ a b al bl q y. elim (eqb_tells a hole) [
        | inl u ↦ absurd (y (put_same hole a 0 w u.1))
        | inr u ↦ elim (eqb_tells b hole) [
          | inl v ↦ absurd (y (q ∙ put_same hole b 0 w v.1))
          | inr v ↦
              let wa = put_other hole a 0 w u.1 in
              x.once a b al bl u.1 v.1 (sym wa ∙ q ∙ put_other hole b 0 w v.1) (λ i. y (wa ∙ i))
        ]
      ];
      gone = λ t tl q. elim (eqb_tells t hole) [
        | inl u ↦ let a = put_same hole t 0 w u.1 in absurd (omega (arith, a, q))
        | inr u ↦ x.gone t tl u.1 (sym (put_other hole t 0 w u.1) ∙ q)
      ];
      used =
          let a : used n (put hole 0 w) + filled (w hole) ≡ used n w + filled 0 = used_put n hole 0 w x.within in
          let b : filled (w hole) ≡ 1 = filled_one (w hole) x.full in
          let u : used n w ≡ m = x.used in
          omega arith;
    }

-- the walk ends before it is once round
pub closing_ends : (home : ℕ → ℕ) (n : ℕ) (w : ℕ → ℕ) (m p start hole d : ℕ) → Closing home n w m p start hole d →
    start < n → n ≤ d → m < n → ⊥
closing_ends home n w m p start hole d c l nd mn =
    not_all_full n w start l (λ e el. c.filled e (omega arith)) (let u = c.holed.used in omega arith)
