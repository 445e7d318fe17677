-- Lists as maps from places.
use Rattle.std.proofs.Common.{◌≡◌, ℕ, ◌<◌, zero, suc, cond, eqb, List, [], ◌∷◌, ◌++◌, length, Some, None, slice_get, slice_set, refl, sym, ◌∙◌, ap, arith}
use Rattle.std.proofs.Math.Dec.{eqb-suc-zero, eqb-suc-suc, eqb-zero-suc}
use Rattle.std.proofs.lemmas.Bool.{cond-false}

set_at : {T : Type 0} (xs : List T) (a : ℕ) (o : T) (b : ℕ) → a < length xs →
    slice_get (slice_set xs a o) b ≡ cond (eqb b a) (Some o) (slice_get xs b)
set_at [] a o b l = absurd (omega arith)
set_at (x ∷ xs) zero o zero l = refl
set_at (x ∷ xs) zero o (suc b) l = sym (cond-false (eqb (suc b) zero) (Some o) (slice_get xs b) (eqb-suc-zero b))
set_at (x ∷ xs) (suc a) o zero l = sym (cond-false (eqb zero (suc a)) (Some o) (Some x) (eqb-zero-suc a))
set_at (x ∷ xs) (suc a) o (suc b) l = set_at xs a o b (omega arith) ∙
    ap (λ t. cond t (Some o) (slice_get xs b)) (sym (eqb-suc-suc b a))

-- a place is set
pub set_table : {T : Type 0} (xs : List T) (a : ℕ) (o : T) → a < length xs →
    slice_get (slice_set xs a o) ≡ (λ b. cond (eqb b a) (Some o) (slice_get xs b))
set_table xs a o l = λ i b. set_at xs a o b l i

push_at : {T : Type 0} (xs : List T) (o : T) (b : ℕ) → slice_get (xs ++ o ∷ []) b ≡ cond (eqb b (length xs)) (Some o)
    (slice_get xs b)
push_at [] o zero = refl
push_at [] o (suc b) = sym (cond-false (eqb (suc b) zero) (Some o) None (eqb-suc-zero b))
push_at (x ∷ xs) o zero = sym (cond-false (eqb zero (suc (length xs))) (Some o) (Some x) (eqb-zero-suc (length xs)))
push_at (x ∷ xs) o (suc b) = push_at xs o b ∙
    ap (λ t. cond t (Some o) (slice_get xs b)) (sym (eqb-suc-suc b (length xs)))

-- a place more
pub push_table : {T : Type 0} (xs : List T) (o : T) →
    slice_get (xs ++ o ∷ []) ≡ (λ b. cond (eqb b (length xs)) (Some o) (slice_get xs b))
push_table xs o = λ i b. push_at xs o b i
