-- What holds of bodies one after another, each with its number: of the front, of the rest, of two lists joined.
use Rattle.std.proofs.Common.{◌≡◌, ℕ, ◌+◌, List, [], ◌∷◌, ◌++◌, subst, arith, length, refl}
use Rattle.py_templates.specs.Statements.{Body}

module _ (P : ℕ → Body → Type 0) where
  -- of these bodies, where the first has number f
  abbrev pub EachFrom : ℕ → List Body → Type 0
  EachFrom f [] = Unit {0}
  EachFrom f (y ∷ ys) = P f y × EachFrom (f + 1) ys

  pub from_front : (f : ℕ) (a c : List Body) → EachFrom f (a ++ c) → EachFrom f a
  from_front f [] c h = tt
  from_front f (y ∷ a) c h = (h.0, from_front (f + 1) a c h.1)

  pub from_back : (f m : ℕ) (a c : List Body) → length a ≡ m → EachFrom f (a ++ c) → EachFrom (f + m) c
  from_back f m [] c e h = let k : f ≡ f + m = omega (arith, e) in subst (λ g. EachFrom g c) k h
  from_back f m (y ∷ a) c e h = let k : f + 1 + length a ≡ f + m = omega (arith, e) in
      subst (λ g. EachFrom g c) k (from_back (f + 1) (length a) a c refl h.1)

  pub from_join : (f m : ℕ) (a c : List Body) → length a ≡ m → EachFrom f a → EachFrom (f + m) c →
      EachFrom f (a ++ c)
  from_join f m [] c e h g = let k : f + m ≡ f = omega (arith, e) in subst (λ i. EachFrom i c) k g
  from_join f m (y ∷ a) c e h g = let k : f + m ≡ f + 1 + length a = omega (arith, e) in
      (h.0, from_join (f + 1) (length a) a c refl h.1 (subst (λ i. EachFrom i c) k g))
