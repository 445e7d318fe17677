-- The home of a key is a slot, and what its hash is made of.
use Rattle.std.proofs.Common.{◌≡◌, ℕ, zero, suc, ◌+◌, ◌*◌, ◌/◌, ◌%◌, ◌^◌, ◌<◌, List, length, refl, ap, ◌∙◌, arith}
use Rattle.dict_index.specs.Packed.{packed}
use Rattle.dict_index.specs.Keys.{KeyClass, Text, hash_of, home_of, mixed, mixed_words, text_seed}

below : (x n : ℕ) → 0 < n → x < 2 ^ 32 → x * n < 2 ^ 32 * n
below x n l h = grind arith

pub part_below : (x n : ℕ) → 0 < n → x % 2 ^ 32 * n / 2 ^ 32 < n
part_below x n l =
    let m : x % 2 ^ 32 < 2 ^ 32 = omega arith in
    let b : x % 2 ^ 32 * n < 2 ^ 32 * n = below (x % 2 ^ 32) n l m in
    omega arith

pub home_within : (n : ℕ) (c : KeyClass) → 0 < n → home_of n c < n
unfolding home_of
home_within n c l = part_below (hash_of c / 2 ^ 32) n l

-- from a hash on
pub home_is : (n : ℕ) (c : KeyClass) (x : ℕ) → x ≡ hash_of c → x / 2 ^ 32 % 2 ^ 32 * n / 2 ^ 32 ≡ home_of n c
unfolding home_of
home_is n c x e = ap (λ y. y / 2 ^ 32 % 2 ^ 32 * n / 2 ^ 32) e

-- the same words, mixed in
pub mixed_same : (seed n : ℕ) (w v : ℕ → ℕ) → ((j : ℕ) → j < n → v j ≡ w j) →
    mixed_words seed n v ≡ mixed_words seed n w
mixed_same seed zero w v f = refl
mixed_same seed (suc n) w v f =
    ap (λ x. mixed x (v n)) (mixed_same seed n w v (λ j l. f j (omega arith)))
    ∙ ap (mixed (mixed_words seed n w)) (f n (omega arith))

-- a text's words are mixed in behind its length
pub text_hash : (bs : List ℕ) (w : ℕ → ℕ) → ((j : ℕ) → j < (length bs + 7) / 8 → w j ≡ packed bs j) →
    mixed_words (mixed text_seed (length bs)) ((length bs + 7) / 8) w ≡ hash_of (Text bs)
unfolding hash_of
text_hash bs w f = mixed_same (mixed text_seed (length bs)) ((length bs + 7) / 8) (packed bs) w f
