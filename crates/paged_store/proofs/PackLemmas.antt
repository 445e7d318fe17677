-- Bytes that are packed into a word, the last one first.
use Rattle.std.proofs.Common.{◌≡◌, ℕ, zero, suc, ◌+◌, ◌-◌, ◌*◌, ◌^◌, ◌<◌, ◌≤◌, min, List, [], ◌∷◌, length, take, drop, get_or, refl, ap, ◌∙◌, arith}
use Rattle.std.proofs.lemmas.List.{length-take, length-drop, take_min}
use Rattle.dict_index.specs.Packed.{number_of, packed}
use Rattle.paged_store.proofs.ByteWords.{number_below, take_small, drop_small, short_below}

number_step : (bs : List ℕ) (i m : ℕ) → i < length bs → number_of (take (suc m) (drop i bs)) ≡ get_or bs i 0 + 256 *
    number_of (take m (drop (suc i) bs))
number_step [] i m h = absurd (omega arith)
number_step (b ∷ bs) zero m h = refl
number_step (b ∷ bs) (suc i) m h = number_step bs i m (omega arith)

-- one byte more
pub pack_more : (bs : List ℕ) (i j end word b : ℕ) → i ≡ suc j → i ≤ end → j < length bs →
    word ≡ number_of (take (end - i) (drop i bs)) → b ≡ get_or bs j 0 →
    256 * word + b ≡ number_of (take (end - j) (drop j bs))
pack_more bs i j end word b e l h w g =
    let m : end - j ≡ suc (end - i) = omega arith in
    let s : number_of (take (suc (end - i)) (drop j bs)) ≡ get_or bs j 0 + 256 * number_of
    (take (end - i) (drop (suc j) bs)) = number_step bs j (end - i) h in
    let d : number_of (take (end - i) (drop i bs)) ≡ number_of (take (end - i) (drop (suc j) bs)) =
    ap (λ z. number_of (take (end - i) (drop z bs))) e in
    let t : number_of (take (end - j) (drop j bs)) ≡ number_of (take (suc (end - i)) (drop j bs)) =
    ap (λ z. number_of (take z (drop j bs))) m in
    omega arith

-- no more than eight bytes fit a word
pub pack_fits : (bs : List ℕ) (j end : ℕ) → ((k : ℕ) → get_or bs k 0 < 256) → end ≤ j + 8 →
    number_of (take (end - j) (drop j bs)) < 2 ^ 64
pack_fits bs j end small h =
    let xs : List ℕ = take (end - j) (drop j bs) in
    let l : length xs ≤ 8 = omega (arith, length-take (end - j) (drop j bs)) in
    short_below xs 8 (number_below xs (take_small (end - j) (drop j bs) (drop_small j bs small))) l

pub pack_all : (bs : List ℕ) (j end word : ℕ) → 8 * j ≤ length bs → end ≡ min (length bs) (8 * j + 8) →
    word ≡ number_of (take (end - 8 * j) (drop (8 * j) bs)) → word ≡ packed bs j
unfolding packed
pack_all bs j end word l e w =
    let m : end - 8 * j ≡ min 8 (length (drop (8 * j) bs)) = omega (arith, length-drop (8 * j) bs) in
    w ∙ ap (λ z. number_of (take z (drop (8 * j) bs))) m ∙ ap number_of (take_min 8 (drop (8 * j) bs))

-- and with one byte more they still do
pub pack_more_fits : (bs : List ℕ) (i j end word : ℕ) → ((k : ℕ) → get_or bs k 0 < 256) → i ≡ suc j → i ≤ end →
    end ≤ j + 8 → j < length bs → word ≡ number_of (take (end - i) (drop i bs)) → 256 * word + get_or bs j 0 < 2 ^ 64
pack_more_fits bs i j end word small e l m h w =
    let more : 256 * word + get_or bs j 0 ≡ number_of (take (end - j) (drop j bs)) =
    pack_more bs i j end word (get_or bs j 0) e l h w refl in
    let low : number_of (take (end - j) (drop j bs)) < 2 ^ 64 = pack_fits bs j end small m in
    omega arith
