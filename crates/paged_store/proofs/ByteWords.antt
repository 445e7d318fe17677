-- Bytes are told by the words that they are packed into.
use Rattle.std.proofs.Common.{◌≡◌, ℕ, zero, suc, ◌+◌, ◌*◌, ◌/◌, ◌%◌, ◌^◌, ◌<◌, ◌≤◌, List, [], ◌∷◌, ◌++◌, length, take, drop, get_or, refl, sym, ap, ◌∙◌, arith, w64}
use Rattle.std.specs.Int.{from_le_bytes}
use Rattle.std.proofs.Math.Nat.{pow-succ', div-div-eq-div-mul, zero-div, pow-le-pow_right}
use Rattle.std.proofs.lemmas.List.{get_or-take, get_or-drop, length-take}
use Rattle.paged_store.specs.Words.{Words, listed, byte_in}
use Rattle.paged_store.proofs.ListedLemmas.{listed_is}
use Rattle.dict_index.specs.Packed.{number_of, packed}

pub number_byte : (bs : List ℕ) (k : ℕ) → ((i : ℕ) → get_or bs i 0 < 256) →
    number_of bs / 256 ^ k % 256 ≡ get_or bs k 0
number_byte [] k h = rw (zero-div (256 ^ k)) refl
number_byte (b ∷ bs) zero h = let l : b < 256 = h 0 in omega arith
number_byte (b ∷ bs) (suc k) h =
    let l : b < 256 = h 0 in
    let e : (b + 256 * number_of bs) / 256 ≡ number_of bs = omega arith in
    ap (λ z. (b + 256 * number_of bs) / z % 256) (pow-succ' 256 k) ∙
    ap (λ z. z % 256) (sym (div-div-eq-div-mul (b + 256 * number_of bs) 256 (256 ^ k))) ∙
    ap (λ z. z / 256 ^ k % 256) e ∙ number_byte bs k (λ i. h (suc i))

one_more : (b n p : ℕ) → b < 256 → n < p → b + 256 * n < 256 * p
one_more b n p h l = omega arith

pub number_below : (bs : List ℕ) → ((i : ℕ) → get_or bs i 0 < 256) → number_of bs < 256 ^ length bs
number_below [] h = omega arith
number_below (b ∷ bs) h = rw (pow-succ' 256 (length bs)) (one_more b (number_of bs) (256 ^ length bs) (h 0)
    (number_below bs (λ i. h (suc i))))

pub take_small : (n : ℕ) (bs : List ℕ) → ((i : ℕ) → get_or bs i 0 < 256) → (i : ℕ) → get_or (take n bs) i 0 < 256
take_small zero bs h i = omega arith
take_small (suc n) [] h i = omega arith
take_small (suc n) (b ∷ bs) h zero = h 0
take_small (suc n) (b ∷ bs) h (suc i) = take_small n bs (λ j. h (suc j)) i

pub drop_small : (n : ℕ) (bs : List ℕ) → ((i : ℕ) → get_or bs i 0 < 256) → (i : ℕ) → get_or (drop n bs) i 0 < 256
drop_small n bs h i = rw (get_or-drop n bs i 0) (h (n + i))

pub short_below : (bs : List ℕ) (n : ℕ) → number_of bs < 256 ^ length bs → length bs ≤ n → number_of bs < 256 ^ n
short_below bs n h l = let m : 256 ^ length bs ≤ 256 ^ n = pow-le-pow_right (omega arith) l in omega arith

pub packed_below : (bs : List ℕ) (j : ℕ) → ((i : ℕ) → get_or bs i 0 < 256) → packed bs j < 2 ^ 64
unfolding packed
packed_below bs j h =
    let xs : List ℕ = take 8 (drop (8 * j) bs) in
    let l : length xs ≤ 8 = omega (arith, length-take 8 (drop (8 * j) bs)) in
    short_below xs 8 (number_below xs (take_small 8 (drop (8 * j) bs) (drop_small (8 * j) bs h))) l

-- a byte of the packed words
pub packed_byte : (bs : List ℕ) (i : ℕ) → ((k : ℕ) → get_or bs k 0 < 256) → byte_in (packed bs) i ≡ get_or bs i 0
unfolding packed byte_in
packed_byte bs i h =
    let xs : List ℕ = drop (8 * (i / 8)) bs in
    number_byte (take 8 xs) (i % 8) (take_small 8 xs (drop_small (8 * (i / 8)) bs h)) ∙
    get_or-take 8 xs (i % 8) 0 (omega arith) ∙ get_or-drop (8 * (i / 8)) bs (i % 8) 0 ∙
    ap (λ z. get_or bs z 0) (omega arith)

-- ---- as the code packs them

-- eight bytes make the number that std reads in them
pub number_of_eight : (a b c d e f g h : ℕ) →
    number_of (a ∷ b ∷ c ∷ d ∷ e ∷ f ∷ g ∷ h ∷ []) ≡ from_le_bytes w64 (a ∷ b ∷ c ∷ d ∷ e ∷ f ∷ g ∷ h ∷ [])
number_of_eight a b c d e f g h = omega arith

-- one byte more
pub number_push : (bs : List ℕ) (b : ℕ) → number_of (bs ++ b ∷ []) ≡ number_of bs + b * 256 ^ length bs
number_push [] b = omega arith
number_push (x ∷ bs) b = rw (number_push bs b, pow-succ' 256 (length bs)) (omega arith)

-- a body with the packed words decodes to the bytes
pub bytes_back : (bs : List ℕ) (body : Words) → ((k : ℕ) → get_or bs k 0 < 256) →
    ((j : ℕ) → j < (length bs + 7) / 8 → body j ≡ packed bs j) → listed (length bs) (byte_in body) ≡ bs
unfolding byte_in
bytes_back bs body h same = listed_is (length bs) (byte_in body) bs 0 refl
    (λ i l. sym (ap (λ z. z / 256 ^ (i % 8) % 256) (same (i / 8) (omega arith)) ∙ packed_byte bs i h))
