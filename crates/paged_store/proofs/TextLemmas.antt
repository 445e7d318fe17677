-- When two strings in words have the same bytes.
use Rattle.std.proofs.Common.{◌≡◌, ◌≢◌, ℕ, ◌+◌, ◌-◌, ◌*◌, ◌/◌, ◌%◌, ◌^◌, ◌<◌, Bool, true, false, cond, List, ◌++◌, length, get_or, take, drop, refl, sym, ap, ◌∙◌, w64, arith, length-drop}
use lib.Pointwise.{bytes_decides}
use Rattle.std.specs.Int.{to_le_bytes, from_le_bytes}
use Rattle.std.specs.List.{slice_range}
use Rattle.std.proofs.lemmas.Bool.{both_ways}
use Rattle.std.proofs.lemmas.Nat.{from_le_bytes-to_le_bytes_8}
use Rattle.std.proofs.lemmas.List.{ext_get_or, get_or-take, length-take-le, take-append-drop, take_all}
use Rattle.py_base.specs.declared.kind.Kind.{Kind}
use Rattle.py_base.specs.declared.kind.Kind.TheVariants.{Str}
use Rattle.py_data.specs.Heap.{has_bytes, length_of}
use Rattle.py_data.specs.Shape.{same_bytes}
use Rattle.page_table.specs.Pages.{Table}
use Rattle.paged_store.specs.declared.sight.Seen.{Seen}
use Rattle.paged_store.specs.Words.{Words, decode, kind_by, count_by, body_by}
use Rattle.paged_store.specs.inner.Sight.{Stands, CanRead, IsText, SameWords, OtherWords, words_seen, record_seen}
use Rattle.paged_store.proofs.RecordWords.{kind_is, bytes_length, text_fits, byte_read}
use Rattle.paged_store.proofs.ReadLemmas.{length_read, byte_of_word, part_there}

-- ---- bytes

pub bytes_same : (xs ys : List ℕ) → xs ≡ ys → true ≡ same_bytes xs ys
bytes_same xs ys e = sym ((bytes_decides xs ys).1 e)

pub bytes_other : (xs ys : List ℕ) → xs ≢ ys → false ≡ same_bytes xs ys
bytes_other xs ys n = by (same_bytes xs ys) refl
  where
    by : (b : Bool) → same_bytes xs ys ≡ b → false ≡ same_bytes xs ys
    by true e = absurd (n ((bytes_decides xs ys).0 e))
    by false e = sym e

-- two comparisons that say the same
bytes_decided : (xs ys us vs : List ℕ) → (xs ≡ ys → us ≡ vs) → (us ≡ vs → xs ≡ ys) →
    same_bytes xs ys ≡ same_bytes us vs
bytes_decided xs ys us vs there back = by (same_bytes xs ys) refl
  where
    by : (b : Bool) → same_bytes xs ys ≡ b → same_bytes xs ys ≡ same_bytes us vs
    by true e = e ∙ bytes_same us vs (there ((bytes_decides xs ys).0 e))
    by false e = e ∙ bytes_other us vs (λ f. both_ways _ e ((bytes_decides xs ys).1 (back f)))

-- a word is told by its 8 bytes
word_by_bytes : (x y : ℕ) → x < 2 ^ 64 → y < 2 ^ 64 →
    ((m : ℕ) → m < 8 → x / 256 ^ m % 256 ≡ y / 256 ^ m % 256) → x ≡ y
word_by_bytes x y p q same = sym (from_le_bytes-to_le_bytes_8 x p) ∙ ap (λ bs. from_le_bytes w64 bs) bytes ∙
    from_le_bytes-to_le_bytes_8 y q
  where
    bytes : to_le_bytes w64 x ≡ to_le_bytes w64 y
    bytes = ext_get_or 0 (to_le_bytes w64 x) (to_le_bytes w64 y) refl
        (λ m l. byte_of_word x m l ∙ same m l ∙ sym (byte_of_word y m l))

-- ---- two strings

-- how a string lies in words
pub is_text : (t : Table) (seen : Seen) (a x n : ℕ) (k : Kind) → CanRead t seen a →
    k ≡ (record_seen t seen a).kind → k ≡ Str → n ≡ length_of (record_seen t seen a) →
    x ≡ body_by (words_seen t seen) a → IsText t seen a x n
is_text t seen a x n k r f s count e =
    let kind : (record_seen t seen a).kind ≡ Str = sym f ∙ s in
    let has : has_bytes (kind_by (words_seen t seen) a) ≡ true =
    ap has_bytes (sym (kind_is (words_seen t seen) a) ∙ kind) in
    record {
      there = r;
      kind = kind;
      body = e;
      count = count ∙ ap (λ b. cond b (length (record_seen t seen a).bytes) (length (record_seen t seen a).values))
          (ap has_bytes kind);
      within = λ some. omega (
        arith,
        e,
        count,
        length_read (words_seen t seen) a,
        text_fits (words_seen t seen) a has r.stands.formed,
        r.stands.body,
      );
    }

module _ (w : Words) (reserved a b x y n : ℕ) (r : Stands w reserved a) (q : Stands w reserved b)
    (s : (decode w a).kind ≡ Str) (t : (decode w b).kind ≡ Str) (e : x ≡ body_by w a) (f : y ≡ body_by w b)
    (long_first : n ≡ length (decode w a).bytes) (long_second : n ≡ length (decode w b).bytes) where
  has_first : has_bytes (kind_by w a) ≡ true
  has_first = ap has_bytes (sym (kind_is w a) ∙ s)

  has_second : has_bytes (kind_by w b) ≡ true
  has_second = ap has_bytes (sym (kind_is w b) ∙ t)

  count_first : n ≡ count_by w a
  count_first = long_first ∙ bytes_length w a has_first

  count_second : n ≡ count_by w b
  count_second = long_second ∙ bytes_length w b has_second

  first_byte : (i : ℕ) → i < n → get_or (decode w a).bytes i 0 ≡ w (x + i / 8) / 256 ^ (i % 8) % 256
  first_byte i h = byte_read w a i 0 has_first r.formed (omega (arith, h, count_first)) ∙
      ap (λ z. w (z + i / 8) / 256 ^ (i % 8) % 256) (sym e)

  second_byte : (i : ℕ) → i < n → get_or (decode w b).bytes i 0 ≡ w (y + i / 8) / 256 ^ (i % 8) % 256
  second_byte i h = byte_read w b i 0 has_second q.formed (omega (arith, h, count_second)) ∙
      ap (λ z. w (z + i / 8) / 256 ^ (i % 8) % 256) (sym f)

  same_byte : SameWords w x y (n / 8) → (i : ℕ) → i < 8 * (n / 8) →
      get_or (decode w a).bytes i 0 ≡ get_or (decode w b).bytes i 0
  same_byte z i h = first_byte i (omega arith) ∙
      ap (λ v. v / 256 ^ (i % 8) % 256) (z.same (i / 8) (omega arith)) ∙ sym (second_byte i (omega arith))

  -- a word is another
  pub other_text : OtherWords w x y (n / 8) → false ≡ same_bytes (decode w a).bytes (decode w b).bytes
  other_text o = bytes_other _ _ (λ g. o.other (word_by_bytes _ _ o.first o.second (λ m l.
      let small : 8 * o.at + m < n = omega (arith, o.within, l) in
      let whole : (8 * o.at + m) / 8 ≡ o.at = omega (arith, l) in
      let part : (8 * o.at + m) % 8 ≡ m = omega (arith, l) in
      sym (λ z. w (x + whole z) / 256 ^ part z % 256) ∙ sym (first_byte (8 * o.at + m) small) ∙
      ap (λ z. get_or z (8 * o.at + m) 0) g ∙ second_byte (8 * o.at + m) small ∙
      (λ z. w (y + whole z) / 256 ^ part z % 256))))

  -- all words are the same, and no byte stands behind them
  pub whole_text : SameWords w x y (n / 8) → n % 8 ≡ 0 → true ≡ same_bytes (decode w a).bytes (decode w b).bytes
  whole_text z h = bytes_same _ _ (ext_get_or 0 _ _ (sym long_first ∙ long_second)
      (λ i l. same_byte z i (omega (arith, l, long_first, h))))

  front_same : SameWords w x y (n / 8) → take (8 * (n / 8)) (decode w a).bytes ≡ take (8 * (n / 8)) (decode w b).bytes
  front_same z =
      let few : length (take (8 * (n / 8)) (decode w a).bytes) ≡ 8 * (n / 8) =
      length-take-le (8 * (n / 8)) (decode w a).bytes (omega (arith, long_first)) in
      let many : length (take (8 * (n / 8)) (decode w b).bytes) ≡ 8 * (n / 8) =
      length-take-le (8 * (n / 8)) (decode w b).bytes (omega (arith, long_second)) in
      ext_get_or 0 _ _ (few ∙ sym many) (λ i l.
      let small : i < 8 * (n / 8) = omega (arith, l, few) in
      get_or-take (8 * (n / 8)) (decode w a).bytes i 0 small ∙ same_byte z i small ∙
      sym (get_or-take (8 * (n / 8)) (decode w b).bytes i 0 small))

  -- all words are the same, and the bytes behind them are compared
  pub end_text : (u v : ℕ) (us vs : List ℕ) → SameWords w x y (n / 8) → u ≡ w (x + n / 8) → v ≡ w (y + n / 8) →
      us ≡ to_le_bytes w64 u → vs ≡ to_le_bytes w64 v →
      same_bytes (take (n % 8) us) (take (n % 8) vs) ≡ same_bytes (decode w a).bytes (decode w b).bytes
  end_text u v us vs z hu hv gu gv = bytes_decided _ _ _ _
      (λ h. sym (take-append-drop (8 * (n / 8)) (decode w a).bytes) ∙
      (λ i. front_same z i ++ (sym first_end ∙ h ∙ second_end) i) ∙
      take-append-drop (8 * (n / 8)) (decode w b).bytes)
      (λ h. first_end ∙ ap (λ bs. drop (8 * (n / 8)) bs) h ∙ sym second_end)
    where
      -- what stands in a word's bytes behind the words before it
      behind : (c p v : ℕ) (bs : List ℕ) → Stands w reserved c → n ≡ length (decode w c).bytes → p ≡ body_by w c →
          v ≡ w (p + n / 8) → bs ≡ to_le_bytes w64 v → take (n % 8) bs ≡ drop (8 * (n / 8)) (decode w c).bytes
      behind c p v bs k long g hv gv =
          let at : 8 * (n / 8) + 0 ≡ 8 * (n / 8) = omega arith in
          let low : (8 * (n / 8) + 0) % 8 ≡ 0 = omega arith in
          let all : n % 8 ≡ 0 + n % 8 - 0 = omega arith in
          let word : (8 * (n / 8) + 0) / 8 ≡ n / 8 = omega arith in
          ap (λ l. take (n % 8) l) gv ∙ ap (λ m. take m (to_le_bytes w64 v)) all ∙
          (λ i. slice_range (to_le_bytes w64 v) (sym low i) (sym low i + n % 8)) ∙
          part_there w reserved c p (8 * (n / 8)) 0 (n % 8) v
          (slice_range (to_le_bytes w64 v) ((8 * (n / 8) + 0) % 8) ((8 * (n / 8) + 0) % 8 + n % 8)) k
          (omega (arith, long)) (omega arith) g (hv ∙ ap (λ m. w (p + m)) (sym word)) refl ∙
          take_all (n % 8) (drop (8 * (n / 8)) (decode w c).bytes)
          (omega (arith, long, length-drop (8 * (n / 8)) (decode w c).bytes))

      first_end : take (n % 8) us ≡ drop (8 * (n / 8)) (decode w a).bytes
      first_end = behind a x u us r long_first e hu gu

      second_end : take (n % 8) vs ≡ drop (8 * (n / 8)) (decode w b).bytes
      second_end = behind b y v vs q long_second f hv gv
