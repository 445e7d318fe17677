-- The packed words of a string, as they are read.
use Rattle.std.proofs.Common.{◌≡◌, ℕ, zero, suc, ◌+◌, ◌-◌, ◌*◌, ◌/◌, ◌%◌, ◌^◌, ◌<◌, ◌≤◌, true, min, List, [], ◌∷◌, length, take, drop, get_or, refl, sym, ap, ◌∙◌, arith, length-drop, pow-add}
use Rattle.std.proofs.Math.Nat.{pow-succ', div-div-eq-div-mul, div-add-mod, mod-eq_of_lt, div-one}
use Rattle.std.proofs.lemmas.List.{get_or-take, get_or-drop, length-take}
use Rattle.py_base.specs.declared.kind.Kind.TheVariants.{Str}
use Rattle.py_data.specs.Heap.{has_bytes}
use Rattle.dict_index.specs.Packed.{number_of, packed}
use Rattle.paged_store.specs.Words.{Words, decode, kind_by, body_by}
use Rattle.paged_store.specs.inner.Sight.{Stands}
use Rattle.paged_store.proofs.RecordWords.{kind_is, byte_read, bytes_length, text_fits}

bits : (n : ℕ) → 256 ^ n ≡ 2 ^ (8 * n)
bits zero = refl
bits (suc n) = pow-succ' 256 n ∙ ap (λ z. 256 * z) (bits n) ∙
    (let e : 256 * 2 ^ (8 * n) ≡ 2 ^ (8 * n + 8) = omega (arith, pow-add 2 (8 * n) 8) in e) ∙
    ap (λ z. 2 ^ z) {x = 8 * n + 8} {y = 8 * suc n} (omega arith)

-- a number by its lowest byte, and what is above it
split_byte : (v p : ℕ) → v % 256 + 256 * (v / 256 % p) ≡ v % (256 * p)
split_byte v p =
    let q : v / (256 * p) ≡ v / 256 / p = sym (div-div-eq-div-mul v 256 p) in
    let a : v % (256 * p) + 256 * p * (v / (256 * p)) ≡ v = mod_plus v (256 * p) in
    let b : v / 256 % p + p * (v / 256 / p) ≡ v / 256 = mod_plus (v / 256) p in
    let c : 256 * p * (v / (256 * p)) ≡ 256 * (p * (v / 256 / p)) = ap (λ z. 256 * p * z) q ∙
    mul_assoc p (v / 256 / p) in
    omega arith
  where
    mod_plus : (n m : ℕ) → n % m + m * (n / m) ≡ n
    mod_plus n m = let e : m * (n / m) + n % m ≡ n = div-add-mod n m in omega arith

    mul_assoc : (x y : ℕ) → 256 * x * y ≡ 256 * (x * y)
    mul_assoc x y = grind arith

-- bytes of a number make what is left of it below them
number_mod : (bs : List ℕ) (v : ℕ) → ((k : ℕ) → k < length bs → get_or bs k 0 ≡ v / 256 ^ k % 256) →
    number_of bs ≡ v % 256 ^ length bs
number_mod [] v h = omega arith
number_mod (b ∷ bs) v h =
    let first : b ≡ v % 256 = h 0 (omega arith) ∙ ap (λ z. z % 256) (div-one v) in
    let rest : number_of bs ≡ v / 256 % 256 ^ length bs = number_mod bs (v / 256) (λ k l. h (suc k) (omega arith) ∙
    ap (λ z. v / z % 256) (pow-succ' 256 k) ∙ ap (λ z. z % 256) (sym (div-div-eq-div-mul v 256 (256 ^ k)))) in
    (λ i. first i + 256 * rest i) ∙ split_byte v (256 ^ length bs) ∙ ap (λ z. v % z) (sym (pow-succ' 256 (length bs)))

-- the bytes of a word
abbrev part : List ℕ → ℕ → List ℕ
part bs j = take 8 (drop (8 * j) bs)

part_length : (bs : List ℕ) (j : ℕ) → 8 * j < length bs → (length (part bs j) ≤ 8) ×
    (length (part bs j) ≡ min 8 (length bs - 8 * j))
part_length bs j h =
    let a : length (part bs j) ≡ min 8 (length (drop (8 * j) bs)) = length-take 8 (drop (8 * j) bs) in
    let b : length (drop (8 * j) bs) ≡ length bs - 8 * j = length-drop (8 * j) bs in
    (omega arith, omega arith)

module _ (w : Words) (reserved a x n j : ℕ) (r : Stands w reserved a) (s : (decode w a).kind ≡ Str)
    (e : x ≡ body_by w a) (long : n ≡ length (decode w a).bytes) (h : 8 * j < n) where
  has : has_bytes (kind_by w a) ≡ true
  has = ap has_bytes (sym (kind_is w a) ∙ s)

  pub text_word_within : x + j < reserved
  text_word_within = omega (arith, text_fits w a has r.formed, bytes_length w a has, r.body)

  part_byte : (k : ℕ) → k < length (part (decode w a).bytes j) →
      get_or (part (decode w a).bytes j) k 0 ≡ w (x + j) / 256 ^ k % 256
  part_byte k l =
      let m : (length (part (decode w a).bytes j) ≤ 8) × (length (part (decode w a).bytes j) ≡ min 8
      (length (decode w a).bytes - 8 * j)) = part_length (decode w a).bytes j (omega (arith, long)) in
      let whole : (8 * j + k) / 8 ≡ j = omega (arith, m.0) in
      let low : (8 * j + k) % 8 ≡ k = omega (arith, m.0) in
      get_or-take 8 (drop (8 * j) (decode w a).bytes) k 0 (omega (arith, m.0)) ∙
      get_or-drop (8 * j) (decode w a).bytes k 0 ∙
      byte_read w a (8 * j + k) 0 has r.formed (omega (arith, m.1, bytes_length w a has)) ∙
      (λ i. w (sym e i + whole i) / 256 ^ low i % 256)

  packed_is : packed (decode w a).bytes j ≡ w (x + j) % 256 ^ length (part (decode w a).bytes j)
  unfolding packed
  packed_is = number_mod (part (decode w a).bytes j) (w (x + j)) part_byte

  pub whole_word : (word : ℕ) → word ≡ w (x + j) → word < 2 ^ 64 → 8 ≤ n - 8 * j → word ≡ packed (decode w a).bytes j
  whole_word word g small l =
      let all : length (part (decode w a).bytes j) ≡ 8 =
      omega (arith, part_length (decode w a).bytes j (omega (arith, long)), long) in
      g ∙ sym (packed_is ∙ ap (λ z. w (x + j) % 256 ^ z) all ∙ mod-eq_of_lt (omega arith))

  pub last_word : (word p : ℕ) → word ≡ w (x + j) → p ≡ 2 ^ (8 * (n - 8 * j)) → n - 8 * j < 8 →
      word % p ≡ packed (decode w a).bytes j
  last_word word p g f l =
      let all : length (part (decode w a).bytes j) ≡ n - 8 * j =
      omega (arith, part_length (decode w a).bytes j (omega (arith, long)), long) in
      (λ i. g i % f i) ∙ sym (packed_is ∙ ap (λ z. w (x + j) % 256 ^ z) all ∙
      ap (λ z. w (x + j) % z) (bits (n - 8 * j)))
