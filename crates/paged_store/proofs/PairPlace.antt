-- A pair more in the words that a dictionary has, or a pair less, with its index.
use Rattle.std.proofs.Common.{◌≡◌, ◌≢◌, ℕ, ◌+◌, ◌-◌, ◌*◌, ◌/◌, ◌<◌, ◌≤◌, true, false, [], ◌∷◌, inl, inr, refl, sym, ◌∙◌, ap, subst, arith}
use Rattle.std.proofs.lemmas.Bool.{both_ways, or_cases, or_parts}
use Rattle.std.proofs.lemmas.Bool.Decides.{eqb_tells}
use Rattle.py_data.specs.declared.value.Value.{Value}
use Rattle.py_data.specs.Heap.{Rec, has_bytes, has_rooms, with_pair, without_pair}
use Rattle.dict_index.specs.Keys.{home_of}
use Rattle.dict_index.specs.Slots.{put}
use Rattle.dict_index.proofs.Circle.{slot_within}
use Rattle.dict_index.proofs.Homes.{home_within}
use Rattle.paged_store.specs.Words.{Words, in_span, size_of, kind_in, index_class_in, decode, kind_by, count_by, body_by, body_size, index_by, index_size, in_head, in_body, in_index}
use Rattle.paged_store.specs.inner.Formed.{Formed, FitsValue}
use Rattle.paged_store.specs.inner.Indexed.{class_by, index_words}
use Rattle.paged_store.specs.inner.Indexing.{FreeSlot, paired_words, pair_places, leave_places}
use Rattle.paged_store.specs.inner.Written.{put_word, drop_words}
use Rattle.paged_store.specs.inner.Writing.{with_count, pushed_words, push_places, drop_places}
use Rattle.paged_store.proofs.SpanLemmas.{in_span_at, in_span_holds, span_bounds, head_at, head_first}
use Rattle.paged_store.proofs.PartLemmas.{false_from}
use Rattle.paged_store.proofs.FrameLemmas.{HeadSame, head_same, decode_same, formed_same}
use Rattle.paged_store.proofs.InPlaceWords.{pair_in_place, drop_in_place}
use Rattle.paged_store.proofs.RecordWords.{count_fits}
use Rattle.paged_store.proofs.WriteLemmas.{put_off}
use Rattle.paged_store.proofs.ChangeCall.{InPlaceOf}
use Rattle.paged_store.proofs.ReindexLemmas.{index_after, index_before}

-- the header, the body and the index of a record have no place in common
pub record Apart (w : Words) (a : ℕ) : Type 0 where
  pub head : (q : ℕ) → in_head a q ≡ true → in_body w a q ≡ false
  pub index : (q : ℕ) → in_index w a q ≡ true → in_body w a q ≡ false
  pub index_head : (q : ℕ) → in_index w a q ≡ true → in_head a q ≡ false

-- a place of a span of one word
only_place : (p q : ℕ) → in_span p 1 q ≡ true → q ≡ p
only_place p q e = let b = span_bounds p 1 q e in let x = b.0 in let y = b.1 in omega (arith, x, y)

-- a place of the header that isn't the count's
not_count : (a q : ℕ) → q ≢ 2 * a + 1 → in_span (2 * a + 1) 1 q ≡ false
not_count a q n = false_from (in_span (2 * a + 1) 1 q) (λ e. n (only_place (2 * a + 1) q e))

count_in_head : (a q : ℕ) → in_span (2 * a + 1) 1 q ≡ true → in_head a q ≡ true
count_in_head a q e = subst (λ p. in_head a p ≡ true) (sym (only_place (2 * a + 1) q e)) (head_at a 1 (omega arith))

-- a place that is no other than those of the count and of a part of the body
part_off : (w : Words) (a place n q : ℕ) → body_by w a ≤ place → place + n ≤ body_by w a + body_size w a
    → in_body w a q ≡ false → in_span (2 * a + 1) 1 q ≡ false → with_count a place n q ≡ false
part_off w a place n q low high x y = false_from (with_count a place n q)
    (λ h. elim (or_cases (in_span (2 * a + 1) 1 q) (in_span place n q) h) [
      | inl z ↦ both_ways (in_span (2 * a + 1) 1 q) y z
      | inr z ↦ both_ways (in_body w a q) x (let b = span_bounds place n q z in
          in_span_holds (body_by w a) (body_size w a) q (let u = b.0 in omega (arith, u, low))
          (let v = b.1 in omega (arith, v, high)))
    ])

put_on_place : (p n q : ℕ) (w : Words) → q ≡ p → put_word p n w q ≡ n
put_on_place p n q w e = elim (eqb_tells q p) [ inl y ↦ rw y.0 refl | inr y ↦ absurd (y.1 e) ]

module _ (w : Words) (a : ℕ) (f : Formed w a) (apart : Apart w a) where
  -- ---- a pair more

  module _ (key v : Value) (rooms : has_rooms (kind_by w a) ≡ true)
      (room : 2 * count_by w a + 4 ≤ body_size w a) (fits_key : FitsValue key) (fits : FitsValue v)
      (slot : ℕ) (free : FreeSlot w a key slot) where
    abbrev pushed : Words
    pushed = pushed_words w a (key ∷ v ∷ [])

    abbrev paired : Words
    paired = paired_words w a slot key v

    in_place : InPlaceOf w pushed (push_places w a 2) a (with_pair key v (decode w a))
    in_place = pair_in_place w a f key v rooms room fits_key fits

    slot_in : in_index w a slot ≡ true
    slot_in = subst (λ q. in_index w a q ≡ true) (sym free.at)
        (in_span_at (index_by w a) (index_size w a) free.slot slot_below)
      where
        slot_below : free.slot < index_size w a
        slot_below =
            let x = free.first in
            let near = x.near in
            subst (λ i. i < index_size w a) (sym x.at)
            (slot_within (index_size w a) (home_of (index_size w a) (class_by w key)) x.steps
            (home_within (index_size w a) (class_by w key) (omega (arith, near))) (omega (arith, near)))

    kept : (q : ℕ) → in_body w a q ≡ false → in_span (2 * a + 1) 1 q ≡ false → pushed q ≡ w q
    kept q x y = in_place.off q (part_off w a (body_by w a + 2 * count_by w a) 4 q (omega arith) (omega (arith, room)) x
        y)

    head_kept : (q : ℕ) → in_head a q ≡ true → q ≢ 2 * a + 1 → paired q ≡ w q
    head_kept q h n = put_off slot q (count_by w a / 2 + 1) pushed (false_from (in_span slot 1 q) (λ e.
        both_ways (in_head a q) (apart.index_head q (subst (λ p. in_index w a p ≡ true) (sym (only_place slot q e))
        slot_in)) h))
        ∙ kept q (apart.head q h) (not_count a q n)

    pub paired_first : paired (2 * a) ≡ w (2 * a)
    paired_first = head_kept (2 * a) (head_first a) (λ e. omega (arith, e))

    pub paired_index : paired (2 * a + 3) ≡ w (2 * a + 3)
    paired_index = head_kept (2 * a + 3) (head_at a 3 (omega arith)) (λ e. omega (arith, e))

    pub paired_slots : (m : ℕ) → count_by w a / 2 ≡ m → (s : ℕ) → s < index_size w a
        → paired (index_by w a + s) ≡ put free.slot (m + 1) (index_words w a) s
    paired_slots m e s l = elim (eqb_tells s free.slot) [
      | inl y ↦ put_on_place slot (count_by w a / 2 + 1) (index_by w a + s) pushed
          (ap (λ z. index_by w a + z) y.1 ∙ sym free.at) ∙ ap (λ z. z + 1) e ∙ rw y.0 refl
      | inr y ↦ put_off slot (index_by w a + s) (count_by w a / 2 + 1) pushed
          (false_from (in_span slot 1 (index_by w a + s)) (λ z. y.1 (let q = only_place slot (index_by w a + s) z in
          let p = free.at in omega (arith, q, p))))
          ∙ kept (index_by w a + s) (apart.index (index_by w a + s) here)
          (false_from (in_span (2 * a + 1) 1 (index_by w a + s)) (λ z. both_ways (in_head a (index_by w a + s))
          (apart.index_head (index_by w a + s) here) (count_in_head a (index_by w a + s) z))) ∙ rw y.0 refl
    ]
      where
        here : in_index w a (index_by w a + s) ≡ true
        here = in_span_at (index_by w a) (index_size w a) s l

    pub paired_in_place : InPlaceOf w paired (pair_places w a slot) a (with_pair key v (decode w a))
    paired_in_place = index_after w pushed paired (push_places w a 2) (pair_places w a slot) a
        (with_pair key v (decode w a)) in_place
        (λ q i. in_span (kept_index i) (size_of (index_class_in (kept_first i))) q)
        (λ q n. put_off slot q (count_by w a / 2 + 1) pushed (false_from (in_span slot 1 q) (λ e.
        both_ways (in_index w a q) n (subst (λ p. in_index w a p ≡ true) (sym (only_place slot q e)) slot_in))))
        (λ q x. elim (or_cases (in_span slot 1 q) (push_places w a 2 q) x) [
          | inl e ↦ inl (subst (λ p. in_index w a p ≡ true) (sym (only_place slot q e)) slot_in)
          | inr e ↦ inr e
        ])
        (λ q x. let h = or_parts (in_span slot 1 q) (push_places w a 2 q) x in
        (put_off slot q (count_by w a / 2 + 1) pushed h.0, h.1))
      where
        kept_first : pushed (2 * a) ≡ w (2 * a)
        kept_first = kept (2 * a) (apart.head (2 * a) (head_first a)) (not_count a (2 * a) (λ e. omega (arith, e)))

        kept_index : pushed (2 * a + 3) ≡ w (2 * a + 3)
        kept_index = kept (2 * a + 3) (apart.head (2 * a + 3) (head_at a 3 (omega arith)))
            (not_count a (2 * a + 3) (λ e. omega (arith, e)))

  -- ---- a pair less

  module _ (pair : ℕ) (bytes : has_bytes (kind_by w a) ≡ false) (within : 2 * pair + 1 < count_by w a) (words : Words)
      (off : (q : ℕ) → in_index w a q ≡ false → words q ≡ w q) where
    abbrev left : Words
    left = drop_words words a pair (count_by w a - 2)

    head_words : (q : ℕ) → in_head a q ≡ true → w q ≡ words q
    head_words q h = sym (off q (false_from (in_index w a q) (λ i. both_ways (in_head a q) (apart.index_head q i) h)))

    body_words_same : (q : ℕ) → in_body w a q ≡ true → w q ≡ words q
    body_words_same q h = sym (off q (false_from (in_index w a q) (λ i. both_ways (in_body w a q) (apart.index q i) h)))

    same : HeadSame w words a
    same = head_same w words a head_words

    record_same : decode w a ≡ decode words a
    record_same = decode_same w words a head_words body_words_same

    dropped : InPlaceOf words left (drop_places w a pair) a (without_pair pair (decode w a))
    dropped =
        let P : ℕ → ℕ → Rec → Type 0 = λ n b r. InPlaceOf words (drop_words words a pair (n - 2))
        (with_count a (b + 4 * pair) (2 * (n - 2) - 4 * pair)) a (without_pair pair r) in
        let here : P (count_by words a) (body_by words a) (decode words a) =
        drop_in_place words a (formed_same w words a same f) pair
        (ap (λ x. has_bytes (kind_in x)) (sym same.first) ∙ bytes) (let n = same.count in omega (arith, n, within)) in
        subst (λ n. P n (body_by w a) (decode w a)) (sym same.count)
        (subst (λ b. P (count_by words a) b (decode w a)) (sym same.body)
        (subst (λ r. P (count_by words a) (body_by words a) r) (sym record_same) here))

    stays : (q : ℕ) → in_body w a q ≡ false → in_span (2 * a + 1) 1 q ≡ false → left q ≡ words q
    stays q x y = dropped.off q (part_off w a (body_by w a + 4 * pair) (2 * (count_by w a - 2) - 4 * pair)
        q (omega arith)
        (let m = count_fits w a bytes f in omega (arith, m, within)) x y)

    left_head : (q : ℕ) → in_head a q ≡ true → q ≢ 2 * a + 1 → left q ≡ w q
    left_head q h n = stays q (apart.head q h) (not_count a q n) ∙ sym (head_words q h)

    pub left_first : left (2 * a) ≡ w (2 * a)
    left_first = left_head (2 * a) (head_first a) (λ e. omega (arith, e))

    pub left_index : left (2 * a + 3) ≡ w (2 * a + 3)
    left_index = left_head (2 * a + 3) (head_at a 3 (omega arith)) (λ e. omega (arith, e))

    pub left_slots : (s : ℕ) → s < index_size w a → left (index_by w a + s) ≡ words (index_by w a + s)
    left_slots s l =
        let here : in_index w a (index_by w a + s) ≡ true = in_span_at (index_by w a) (index_size w a) s l in
        stays (index_by w a + s) (apart.index (index_by w a + s) here)
        (false_from (in_span (2 * a + 1) 1 (index_by w a + s)) (λ z. both_ways (in_head a (index_by w a + s))
        (apart.index_head (index_by w a + s) here) (count_in_head a (index_by w a + s) z)))

    pub left_in_place : InPlaceOf w left (leave_places w a pair) a (without_pair pair (decode w a))
    left_in_place = index_before w words left (drop_places w a pair) (leave_places w a pair) a
        (without_pair pair (decode w a)) dropped off same
        (λ q x. or_cases (in_index w a q) (drop_places w a pair q) x)
        (λ q x. or_parts (in_index w a q) (drop_places w a pair q) x)
