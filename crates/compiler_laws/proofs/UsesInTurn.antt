-- What holds of each use of parts in turn holds of each use of every part, at the place where the part begins.
use Rattle.std.proofs.Common.{◌≡◌, ℕ, ◌+◌, List, ◌++◌, sym, subst, arith}
use Rattle.py_templates.specs.Uses.{Use, Inside, Uses, in_turn}
use Rattle.py_templates.proofs.ExprInduct.{Every, every_front, every_back, every_join}

module _ (Q : Use → Type 0) where
  -- the second of two, where the first has so many bodies
  pub use_back : (v : Uses) (b : Inside) (f m n : ℕ) (a : List Use) → m ≡ n → Every Q (a ++ v.uses b (f + n)) →
      Every Q (v.uses b (f + m))
  use_back v b f m n a e w = subst (λ i. Every Q (v.uses b (f + i))) (sym e) (every_back Q a (v.uses b (f + n)) w)

  -- and where it has none
  pub zero_back : (v : Uses) (b : Inside) (f : ℕ) (a : List Use) → Every Q (a ++ v.uses b (f + 0)) →
      Every Q (v.uses b f)
  zero_back v b f a w = let e : f + 0 ≡ f = omega arith in
      subst (λ i. Every Q (v.uses b i)) e (every_back Q a (v.uses b (f + 0)) w)

  -- three parts in turn
  pub three_uses : (vt vh ve : Uses) (b : Inside) (f m n : ℕ) → m ≡ vt.bodies → n ≡ vh.bodies →
      Every Q ((in_turn vt (in_turn vh ve)).uses b f) → Every Q (vt.uses b f) × Every Q (vh.uses b (f + m)) × Every Q
      (ve.uses b (f + m + n))
  three_uses vt vh ve b f m n em en w =
      let r = every_back Q (vt.uses b f) ((in_turn vh ve).uses b (f + vt.bodies)) w in
      let x = every_front Q (vh.uses b (f + vt.bodies)) (ve.uses b (f + vt.bodies + vh.bodies)) r in
      let y = every_back Q (vh.uses b (f + vt.bodies)) (ve.uses b (f + vt.bodies + vh.bodies)) r in (
        every_front Q (vt.uses b f) ((in_turn vh ve).uses b (f + vt.bodies)) w,
        subst (λ i. Every Q (vh.uses b (f + i))) (sym em) x,
        rw (em, en) y,
      )

  -- the first three of four, and the last
  pub four_uses : (vt vh ve vd : Uses) (b : Inside) (f m : ℕ) → m ≡ vt.bodies + (vh.bodies + ve.bodies) →
      Every Q ((in_turn vt (in_turn vh (in_turn ve vd))).uses b f) →
      Every Q ((in_turn vt (in_turn vh ve)).uses b f) × Every Q (vd.uses b (f + m))
  four_uses vt vh ve vd b f m e w =
      let a = vt.uses b f in
      let h = vh.uses b (f + vt.bodies) in
      let x = ve.uses b (f + vt.bodies + vh.bodies) in
      let d = vd.uses b (f + vt.bodies + vh.bodies + ve.bodies) in
      let r1 = every_back Q a (h ++ (x ++ d)) w in
      let r2 = every_back Q h (x ++ d) r1 in
      let far : f + vt.bodies + vh.bodies + ve.bodies ≡ f + m = omega (arith, e) in (
        every_join Q a (h ++ x) (every_front Q a (h ++ (x ++ d)) w)
            (every_join Q h x (every_front Q h (x ++ d) r1) (every_front Q x d r2)),
        subst (λ i. Every Q (vd.uses b i)) far (every_back Q x d r2),
      )
