-- Elements in order: they are the same elements, none is less than one before it, and ties stand as they stood; there
-- is one such order, and what std's stable sort ensures is that one.
use Rattle.std.proofs.Common.{arith, ◌≡◌, ℕ, zero, suc, ◌+◌, ◌<◌, Bool, true, false, cond, not, ◌&&◌, List, [], ◌∷◌, length, map, refl, sym, ap, subst, ◌∙◌, inl, inr, get_or}
use Rattle.std.specs.List.{filter}
use Rattle.std.specs.List.Sorted.{IsPermutation, IsSortedBy, IsStableBy, ties}
use Rattle.std.specs.Cmp.{IsStrictWeakOrder}
use Rattle.std.proofs.lemmas.Bool.{cases_Bool}
use Rattle.std.proofs.lemmas.List.Sorted.{sorted_far, IsPermutation-refl, IsPermutation-trans, IsPermutation-cons, IsPermutation-middle}
use Rattle.py_data.specs.Every.{Every}
use Rattle.obj_methods.specs.Sorting.{placed, in_order}

-- what each element has by its place, all have
every_of : {A : Type 0} (P : A → Type 0) (xs : List A) → ((k : ℕ) (d : A) → k < length xs → P (get_or xs k d)) →
    Every P xs
every_of P [] f = tt
every_of P (x ∷ xs) f = (f 0 x (omega arith), every_of P xs (λ k d l. f (suc k) d (omega (arith, l))))

-- and back
pub every_at : {A : Type 0} (P : A → Type 0) (xs : List A) (k : ℕ) (d : A) → k < length xs → Every P xs →
    P (get_or xs k d)
every_at P [] k d l e = absurd (omega (arith, l))
every_at P (x ∷ xs) zero d l e = e.0
every_at P (x ∷ xs) (suc k) d l e = every_at P xs k d (omega (arith, l)) e.1

module _ {X : Type 0} (lt : X → X → Bool) (o : IsStrictWeakOrder lt) where
  -- no element is less than one before it
  abbrev pub Rising : List X → Type 0
  Rising [] = Unit {0}
  Rising (x ∷ xs) = Every (λ y. lt y x ≡ false) xs × Rising xs

  itself : (x : X) → lt x x ≡ false
  itself x = elim (cases_Bool (lt x x)) [ inl t ↦ o.one_way x x t | inr f ↦ f ]

  tied : (x y : X) → lt x y ≡ false → lt y x ≡ false → ties lt x y ≡ true
  tied x y a b = ap (λ c. not c && not (lt y x)) a ∙ ap (λ c. not c) b

  both_false : (a b : Bool) → (not a && not b) ≡ true → (a ≡ false) × (b ≡ false)
  both_false false false e = (refl, refl)
  both_false true b e = absurd (let q : false ≡ true = e in cc)
  both_false false true e = absurd (let q : false ≡ true = e in cc)

  apart : (z x y : X) → lt y x ≡ true → ties lt z y ≡ true → ties lt z x ≡ true → ⊥
  apart z x y l p q =
      let a = both_false (lt z y) (lt y z) p in
      let b = both_false (lt z x) (lt x z) q in
      let c : lt y x ≡ false = o.chain y z x a.1 b.0 in
      let d : false ≡ true = sym c ∙ l in
      let e : ⊥ = cc in e

  -- ---- what an order by insertion is
  pub placed_all : (P : X → Type 0) (x : X) (ys : List X) → P x → Every P ys → Every P (placed lt x ys)
  placed_all P x [] p e = (p, tt)
  placed_all P x (y ∷ ys) p e = by (lt y x)
      (placed_all P x ys p e.1)
    where
      by : (b : Bool) → Every P (placed lt x ys) → Every P (cond b (y ∷ placed lt x ys) (x ∷ y ∷ ys))
      by true m = (e.0, m)
      by false m = (p, e)

  above_all : (x y : X) (ys : List X) → lt y x ≡ false → Every (λ z. lt z y ≡ false) ys → Every (λ z. lt z x ≡ false) ys
  above_all x y [] l e = tt
  above_all x y (z ∷ ys) l e = (o.chain z y x e.0 l, above_all x y ys l e.1)

  placed_rising : (x : X) (ys : List X) → Rising ys → Rising (placed lt x ys)
  placed_rising x [] r = (tt, tt)
  placed_rising x (y ∷ ys) r = by (lt y x) refl (placed_rising x ys r.1)
    where
      by : (b : Bool) → lt y x ≡ b → Rising (placed lt x ys) → Rising (cond b (y ∷ placed lt x ys) (x ∷ y ∷ ys))
      by true l m = (placed_all (λ z. lt z y ≡ false) x ys (o.one_way y x l) r.0, m)
      by false l m = ((l, above_all x y ys l r.0), r)

  placed_ties : (z x : X) (ys : List X) → filter (ties lt z) (placed lt x ys) ≡ filter (ties lt z) (x ∷ ys)
  placed_ties z x [] = refl
  placed_ties z x (y ∷ ys) = by (lt y x) refl (placed_ties z x ys)
    where
      swap : (p q : Bool) → (p ≡ true → q ≡ true → ⊥) → (ws : List X) →
          cond p (y ∷ cond q (x ∷ ws) ws) (cond q (x ∷ ws) ws) ≡ cond q (x ∷ cond p (y ∷ ws) ws) (cond p (y ∷ ws) ws)
      swap true true n ws = absurd (n refl refl)
      swap true false n ws = refl
      swap false q n ws = refl

      by : (b : Bool) → lt y x ≡ b → filter (ties lt z) (placed lt x ys) ≡ filter (ties lt z) (x ∷ ys) →
          filter (ties lt z) (cond b (y ∷ placed lt x ys) (x ∷ y ∷ ys)) ≡ filter (ties lt z) (x ∷ y ∷ ys)
      by true l m = ap (λ l. cond (ties lt z y) (y ∷ l) l) m ∙
          swap (ties lt z y) (ties lt z x) (λ p q. apart z x y l p q) (filter (ties lt z) ys)
      by false l m = refl

  pub in_order_rising : (xs : List X) → Rising (in_order lt xs)
  in_order_rising [] = tt
  in_order_rising (x ∷ xs) = placed_rising x (in_order lt xs) (in_order_rising xs)

  pub in_order_stable : (xs : List X) → IsStableBy lt xs (in_order lt xs)
  in_order_stable [] z = refl
  in_order_stable (x ∷ xs) z = placed_ties z x (in_order lt xs) ∙
      ap (λ l. cond (ties lt z x) (x ∷ l) l) (in_order_stable xs z)

  -- no element is less than one that stands before it
  pub rising_at : (ys : List X) (i j : ℕ) (d : X) → Rising ys → i < j → j < length ys →
      lt (get_or ys j d) (get_or ys i d) ≡ false
  rising_at [] i j d r l m = absurd (omega (arith, m))
  rising_at (y ∷ ys) i zero d r l m = absurd (omega (arith, l))
  rising_at (y ∷ ys) zero (suc j) d r l m = every_at (λ z. lt z y ≡ false) ys j d (omega (arith, m)) r.0
  rising_at (y ∷ ys) (suc i) (suc j) d r l m = rising_at ys i j d r.1 (omega (arith, l)) (omega (arith, m))

  -- the same elements, and as many
  placed_same : (x : X) (ys : List X) → IsPermutation (x ∷ ys) (placed lt x ys)
  placed_same x [] = IsPermutation-refl (x ∷ [])
  placed_same x (y ∷ ys) = by (lt y x) (placed_same x ys)
    where
      by : (b : Bool) → IsPermutation (x ∷ ys) (placed lt x ys) →
          IsPermutation (x ∷ y ∷ ys) (cond b (y ∷ placed lt x ys) (x ∷ y ∷ ys))
      by true m = IsPermutation-trans _ _ _ (IsPermutation-middle (x ∷ []) y ys) (IsPermutation-cons y _ _ m)
      by false m = IsPermutation-refl (x ∷ y ∷ ys)

  pub in_order_same : (xs : List X) → IsPermutation xs (in_order lt xs)
  in_order_same [] = IsPermutation-refl []
  in_order_same (x ∷ xs) = IsPermutation-trans _ _ _ (IsPermutation-cons x _ _ (in_order_same xs))
      (placed_same x (in_order lt xs))

  pub in_order_all : (P : X → Type 0) (xs : List X) → Every P xs → Every P (in_order lt xs)
  in_order_all P [] e = tt
  in_order_all P (x ∷ xs) e = placed_all P x (in_order lt xs) e.0 (in_order_all P xs e.1)

  placed_length : (x : X) (ys : List X) → length (placed lt x ys) ≡ length (x ∷ ys)
  placed_length x [] = refl
  placed_length x (y ∷ ys) = by (lt y x) (placed_length x ys)
    where
      by : (b : Bool) → length (placed lt x ys) ≡ length (x ∷ ys) →
          length (cond b (y ∷ placed lt x ys) (x ∷ y ∷ ys)) ≡ length (x ∷ y ∷ ys)
      by true m = omega (arith, m)
      by false m = refl

  pub in_order_length : (xs : List X) → length (in_order lt xs) ≡ length xs
  in_order_length [] = refl
  in_order_length (x ∷ xs) = omega (arith, placed_length x (in_order lt xs), in_order_length xs)

  -- ---- there is one
  found : (P : X → Type 0) (p : X → Bool) (xs : List X) (y : X) (ys : List X) → filter p xs ≡ y ∷ ys → Every P xs → P y
  found P p [] y ys e a = absurd (let q : ◌≡◌ {A = List X} [] (y ∷ ys) = e in cc)
  found P p (x ∷ xs) y ys e a = by (p x) refl (λ e. found P p xs y ys e a.1)
    where
      by : (b : Bool) → p x ≡ b → (filter p xs ≡ y ∷ ys → P y) → P y
      by true t m = let f : x ∷ filter p xs ≡ y ∷ ys = sym (ap (λ b. cond b (x ∷ filter p xs) (filter p xs)) t) ∙ e in
          let q : x ≡ y = cc in subst P q a.0
      by false t m = m (sym (ap (λ b. cond b (x ∷ filter p xs) (filter p xs)) t) ∙ e)

  kept : (p : X → Bool) (x : X) (xs : List X) → p x ≡ true → filter p (x ∷ xs) ≡ x ∷ filter p xs
  kept p x xs e = ap (λ b. cond b (x ∷ filter p xs) (filter p xs)) e

  abbrev Alike : List X → List X → Type 0
  Alike ys zs = (x : X) → filter (ties lt x) ys ≡ filter (ties lt x) zs

  same_rest : (b : Bool) (y : X) (us vs : List X) → cond b (y ∷ us) us ≡ cond b (y ∷ vs) vs → us ≡ vs
  same_rest true y us vs e = let q : us ≡ vs = cc in q
  same_rest false y us vs e = e

  first_same : (y z : X) (ys zs : List X) → Rising (y ∷ ys) → Rising (z ∷ zs) → Alike (y ∷ ys) (z ∷ zs) → y ≡ z
  first_same y z ys zs r s a =
      let fy : filter (ties lt y) (z ∷ zs) ≡ y ∷ filter (ties lt y) ys = sym (a y) ∙
      kept (ties lt y) y ys (tied y y (itself y) (itself y)) in
      let fz : filter (ties lt z) (y ∷ ys) ≡ z ∷ filter (ties lt z) zs = a z ∙
      kept (ties lt z) z zs (tied z z (itself z) (itself z)) in
      let yz : lt y z ≡ false = found (λ w. lt w z ≡ false) (ties lt y) (z ∷ zs) y (filter (ties lt y) ys) fy
      (itself z, s.0) in
      let zy : lt z y ≡ false = found (λ w. lt w y ≡ false) (ties lt z) (y ∷ ys) z (filter (ties lt z) zs) fz
      (itself y, r.0) in
      let g : z ∷ filter (ties lt y) zs ≡ y ∷ filter (ties lt y) ys = sym (kept (ties lt y) z zs (tied y z yz zy)) ∙
      fy in
      let q : z ≡ y = cc in sym q

  pub one_order : (ys zs : List X) → Rising ys → Rising zs → Alike ys zs → ys ≡ zs
  one_order [] [] r s a = refl
  one_order [] (z ∷ zs) r s a = absurd (let f : ◌≡◌ {A = List X} [] (z ∷ filter (ties lt z) zs) = a z ∙
      kept (ties lt z) z zs (tied z z (itself z) (itself z)) in cc)
  one_order (y ∷ ys) [] r s a = absurd (let f : ◌≡◌ {A = List X} (y ∷ filter (ties lt y) ys) [] =
      sym (kept (ties lt y) y ys (tied y y (itself y) (itself y))) ∙ a y in cc)
  one_order (y ∷ ys) (z ∷ zs) r s a =
      let e = first_same y z ys zs r s a in
      let t : ys ≡ zs = one_order ys zs r.1 s.1
      (λ x. same_rest (ties lt x y) y (filter (ties lt x) ys) (filter (ties lt x) zs)
      (subst (λ w. filter (ties lt x) (y ∷ ys) ≡ filter (ties lt x) (w ∷ zs)) (sym e) (a x))) in
      ap (λ l. y ∷ l) t ∙ ap (λ w. w ∷ zs) e

  -- ---- from std's words
  rising_of : (xs : List X) → IsSortedBy lt xs → Rising xs
  rising_of [] s = tt
  rising_of (x ∷ xs) s = (
    every_of (λ y. lt y x ≡ false) xs (λ k d l.
        sorted_far lt o (x ∷ xs) s 0 (suc k) d (omega arith) (omega (arith, l))),
    rising_of xs (λ k d a l. let n : suc k + 1 ≡ suc (k + 1) = omega arith in
        subst (λ j. lt (get_or (x ∷ xs) j d) (get_or xs k d) ≡ false) n (s (suc k) d (omega arith) (omega (arith, l)))),
  )

  pub sorted_is : (xs ys : List X) → IsSortedBy lt ys → IsStableBy lt xs ys → ys ≡ in_order lt xs
  sorted_is xs ys s t = one_order ys (in_order lt xs) (rising_of ys s) (in_order_rising xs)
      (λ x. t x ∙ sym (in_order_stable xs x))

-- ---- elements that stand for others are put in order as these
module _ {X Y : Type 0} (f : X → Y) (lt : Y → Y → Bool) where
  placed_map : (x : X) (ys : List X) → placed lt (f x) (map f ys) ≡ map f (placed (λ x y. lt (f x) (f y)) x ys)
  placed_map x [] = refl
  placed_map x (y ∷ ys) = by (lt (f y) (f x)) (placed_map x ys)
    where
      by : (b : Bool) → placed lt (f x) (map f ys) ≡ map f (placed (λ x y. lt (f x) (f y)) x ys)
          → cond b (f y ∷ placed lt (f x) (map f ys)) (f x ∷ f y ∷ map f ys) ≡ map f
          (cond b (y ∷ placed (λ x y. lt (f x) (f y)) x ys) (x ∷ y ∷ ys))
      by true m = ap (λ l. f y ∷ l) m
      by false m = refl

  pub in_order_map : (xs : List X) → in_order lt (map f xs) ≡ map f (in_order (λ x y. lt (f x) (f y)) xs)
  in_order_map [] = refl
  in_order_map (x ∷ xs) = ap (placed lt (f x)) (in_order_map xs) ∙ placed_map x (in_order (λ x y. lt (f x) (f y)) xs)
