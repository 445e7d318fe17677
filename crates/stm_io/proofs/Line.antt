-- The first line of a text, by the place of its newline.
use Rattle.std.proofs.Common.{◌≡◌, ℕ, ◌+◌, Bool, true, false, cond, not, eqb, ltb, suc, List, [], ◌∷◌, length, take, position, Some, None, refl, sym, ap, ◌∙◌, arith, take_all, ltb-false}
use Rattle.std.specs.List.{position_or_len}
use Rattle.std.specs.Io.BufRead.{take_through}

module _ (byte : ℕ) where
  abbrev place : List ℕ → ℕ
  place xs = position_or_len (λ x. eqb x byte) xs

  -- the bytes up to the first one of that kind, with it
  take_place : (xs : List ℕ) → take (place xs + 1) xs ≡ take_through byte xs
  take_place [] = refl
  take_place (x ∷ xs) =
      let more : 1 + place xs + 1 ≡ suc (place xs + 1) = omega arith in
      elim (eqb x byte) as (λ b. take (cond (not b) (1 + place xs) 0 + 1) (x ∷ xs) ≡ cond b (x ∷ [])
      (x ∷ take_through byte xs)) [
        | true ↦ refl
        | false ↦ rw more (ap (λ l. x ∷ l) (take_place xs))
      ]

  pub take_through_found : (xs : List ℕ) (i : ℕ) → position (λ x. eqb x byte) xs ≡ Some i →
      take (i + 1) xs ≡ take_through byte xs
  take_through_found xs i = elim (ltb (place xs) (length xs)) as (λ b. cond b (Some (place xs)) None ≡ Some i →
      take (i + 1) xs ≡ take_through byte xs) [
        | true ↦ λ found. let e : place xs ≡ i = cc in rw (← e) (take_place xs)
        | false ↦ λ found. cc
      ]

  pub take_through_missed : (xs : List ℕ) → position (λ x. eqb x byte) xs ≡ None → xs ≡ take_through byte xs
  take_through_missed xs = at (ltb (place xs) (length xs)) refl
    where
      at : (b : Bool) → ltb (place xs) (length xs) ≡ b → cond b (Some (place xs)) None ≡ None →
          xs ≡ take_through byte xs
      at true is missed = cc
      at false is missed =
          let past = ltb-false (place xs) (length xs) is in
          sym (take_all (place xs + 1) xs (omega arith)) ∙ take_place xs
