-- Lists that are repeated, or taken whole.
use Rattle.std.proofs.Common.{◌≡◌, ℕ, zero, suc, ◌+◌, ◌≤◌, List, [], ◌∷◌, ◌++◌, length, take, sym, ap, refl, ◌∙◌, arith, add-one, append_assoc, append-nil}
use Rattle.std.specs.List.{repeat}

module _ {T : Type 0} where
  repeat_none : (n : ℕ) → repeat {A = T} n [] ≡ []
  repeat_none zero = refl
  repeat_none (suc n) = repeat_none n

  repeat_last : (n : ℕ) (xs : List T) → repeat n xs ++ xs ≡ xs ++ repeat n xs
  repeat_last zero xs = sym (append-nil xs)
  repeat_last (suc n) xs = append_assoc xs (repeat n xs) xs ∙ ap (λ z. xs ++ z) (repeat_last n xs)

  -- nothing so often is nothing
  pub repeat_empty : (n : ℕ) (xs : List T) → length xs ≡ 0 → repeat n xs ≡ []
  repeat_empty n [] e = repeat_none n
  repeat_empty n (x ∷ xs) e = absurd (omega (arith, e))

  -- once more
  pub repeat_next : (n : ℕ) (xs : List T) → repeat (n + 1) xs ≡ repeat n xs ++ xs
  repeat_next n xs = ap (λ k. repeat k xs) (add-one n) ∙ sym (repeat_last n xs)

  pub take_all : (vs : List T) (i : ℕ) → length vs ≤ i → take i vs ≡ vs
  take_all [] zero l = refl
  take_all [] (suc i) l = refl
  take_all (v ∷ vs) zero l = absurd (omega (arith, l))
  take_all (v ∷ vs) (suc i) l = ap (λ z. v ∷ z) (take_all vs i (omega (arith, l)))
