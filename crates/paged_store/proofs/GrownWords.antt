-- The words of a record that has grown.
use Rattle.std.proofs.Common.{◌≡◌, ◌≢◌, ◌⊎◌, ℕ, ◌+◌, ◌*◌, ◌<◌, ◌≤◌, Bool, true, false, cond, List, [], ◌∷◌, length, inl, inr, refl, sym, ◌∙◌, ap, subst, arith, ◌%◌}
use Rattle.std.proofs.lemmas.Bool.{both_ways, cond-true, cond-false}
use Rattle.std.proofs.lemmas.Bool.Decides.{nat_tests}
use Rattle.py_data.specs.declared.value.Value.{Value}
use Rattle.py_data.specs.Heap.{has_rooms, with_push, with_pair, doubled}
use Rattle.paged_store.specs.Words.{Words, in_span, size_of, class_in, index_class_in, decode, kind_by, count_by, body_by, index_by, body_size, index_size, in_head, in_body, in_index}
use Rattle.paged_store.specs.inner.Formed.{Formed, Lays, FitsValue}
use Rattle.paged_store.specs.Paged.{extents_at, one_if}
use Rattle.paged_store.specs.inner.Written.{owned_by, parted, put_word, push_words, pair_words, copied, next_head, Grows, TakesBody, Changed}
use Rattle.paged_store.specs.inner.Writing.{cleared, put_values, next_body_size, next_index_size, grown_words, pushed_words}
use Rattle.paged_store.specs.inner.Claiming.{extent_for}
use Rattle.paged_store.specs.inner.Growing.{grown_with, grown_class, grown_index, grown_extents}
use Rattle.paged_store.proofs.SpanLemmas.{in_span_at, head_at, head_first}
use Rattle.paged_store.proofs.PartLemmas.{false_from}
use Rattle.paged_store.proofs.PutWords.{put_hit, put_miss, copied_word, copied_miss, grow_puts, push_puts, pair_puts}
use Rattle.paged_store.proofs.WriteLemmas.{values_off, laid_off}
use Rattle.paged_store.proofs.RecordWords.{count_fits}
use Rattle.paged_store.proofs.PushWords.{rooms_no_bytes}
use Rattle.paged_store.proofs.GrowWords.{size_grows, NextHead, next_of, grow_changed, grow_push_changed, grow_pair_changed}
use Rattle.paged_store.proofs.GrowWrites.{headed_off}
use Rattle.paged_store.proofs.GrowTakes.{extent_times}
use Rattle.paged_store.proofs.EndLemmas.{at_both}
use Rattle.paged_store.proofs.StateLemmas.{none_or_some}

-- how many of an extent have a place
one_of : (b : Bool) → b ≡ true → one_if b ≡ 1
one_of b e = ap one_if e

none_of : (b : Bool) → one_if b ≡ 0 → b ≡ false
none_of true e = absurd (cc)
none_of false e = refl

not_both : (x y : Bool) → one_if x + one_if y ≤ 1 → x ≡ true → y ≡ false
not_both true true h e = absurd (omega arith)
not_both true false h e = refl
not_both false y h e = absurd (cc)

narrower : (place n m q : ℕ) → n ≤ m → in_span place m q ≡ false → in_span place n q ≡ false
narrower place n m q l h = grind (arith, nat_tests)

within_span : (place m from n q : ℕ) → place ≤ from → from + n ≤ place + m → in_span place m q ≡ false →
    in_span from n q ≡ false
within_span place m from n q l r h = grind (arith, nat_tests)

module _ (w : Words) (a body index : ℕ) where
  abbrev size : ℕ
  size = next_body_size w a

  abbrev index_room : ℕ
  index_room = next_index_size w a

  abbrev e : ℕ → ℕ
  e = extents_at (grown_extents w a body index)

  -- the place of an extent is the body's or the index's
  pub e_at : (p : ℕ) → e p ≡ one_if (in_span body size p) + one_if (in_span index index_room p)
  e_at p = at_both (extent_for (grown_class w a) body) (extent_for (grown_index w a) index) p
      ∙ (λ i. extent_times (grown_class w a) body p i + extent_times (grown_index w a) index p i)

  pub off_extents : (p : ℕ) → e p ≡ 0 → (in_span body size p ≡ false) × (in_span index index_room p ≡ false)
  off_extents p h = (let s = e_at p in (none_of _ (omega (arith, s, h)), none_of _ (omega (arith, s, h))))

  pub on_body : (p : ℕ) → in_span body size p ≡ true → 0 < e p
  on_body p h = (let s = e_at p in let o = one_of _ h in omega (arith, s, o))

  pub on_index : (p : ℕ) → in_span index index_room p ≡ true → 0 < e p
  on_index p h = (let s = e_at p in let o = one_of _ h in omega (arith, s, o))

  pub on_either : (p : ℕ) → 0 < e p → (in_span body size p ≡ true) ⊎ (in_span index index_room p ≡ true)
  on_either p h = by_parts (in_span body size p) (in_span index index_room p) (let s = e_at p in omega (arith, s, h))
    where
      by_parts : (x y : Bool) → 0 < one_if x + one_if y → (x ≡ true) ⊎ (y ≡ true)
      by_parts true y h = inl refl
      by_parts false true h = inr refl
      by_parts false false h = absurd (omega arith)

  -- the part that a place of theirs belongs to
  abbrev pub part : ℕ → ℕ
  part p = cond (in_span body size p) (2 * grown_class w a) (2 * grown_index w a + 1)

  -- words of other places are as they were
  pub grown_off : (q : ℕ) → 2 * count_by w a ≤ size → in_head a q ≡ false → e q ≡ 0 → grown_words w a body index q ≡ w q
  grown_off q l h z =
      let o = off_extents q z in
      headed_off a (next_head (w (2 * a))) body index q
      (cleared index index_room (copied (body_by w a) body (2 * count_by w a) w)) h
      ∙ laid_off index index_room q (λ j. 0) (copied (body_by w a) body (2 * count_by w a) w) o.1
      ∙ copied_miss (body_by w a) body (2 * count_by w a) q w (narrower body (2 * count_by w a) size q l o.0)

  pub with_off : (vs : List Value) (q : ℕ) → 2 * (count_by w a + length vs) ≤ size → in_head a q ≡ false → e q ≡ 0
      → grown_with w a body index vs q ≡ w q
  with_off vs q l h z =
      let o = off_extents q z in
      let u : Words = grown_words w a body index in
      put_miss (2 * a + 1) q (count_by w a + length vs) (put_values (body + 2 * count_by w a) vs u)
      (λ x. both_ways (in_head a q) h (ap (in_head a) x ∙ head_at a 1 (omega arith)))
      ∙ values_off (body + 2 * count_by w a) q vs u
      (within_span body size (body + 2 * count_by w a) (2 * length vs) q (omega arith) (omega (arith, l)) o.0)
      ∙ grown_off q (omega (arith, l)) h z

  module _ (own role : Words) (some : a ≢ 0) (f : Formed w a) (l : Lays own role w a)
      (k : has_rooms (kind_by w a) ≡ true)
      (c : class_in (w (2 * a)) < 21) (fresh : (p : ℕ) → 0 < e p → own p ≡ 0) (once : (p : ℕ) → e p ≤ 1)
      (even : body % 2 ≡ 0) where
    count_small : 2 * count_by w a ≤ size
    count_small = size_grows (class_in (w (2 * a))) (2 * count_by w a)
        (count_fits w a (rooms_no_bytes (kind_by w a) k) f)

    -- the header is in none of the extents
    off_head : (p : ℕ) → 0 < e p → in_head a p ≡ false
    off_head p h = false_from (in_head a p) (λ x. some (sym (l.head p x).0 ∙ fresh p h))

    head_off : (p : ℕ) → in_head a p ≡ true → e p ≡ 0
    head_off p h = elim (none_or_some (e p)) [
      | inl z ↦ z
      | inr z ↦ absurd (both_ways (in_head a p) (off_head p z) h)
    ]

    apart : (p : ℕ) → in_span body size p ≡ true → in_span index index_room p ≡ false
    apart p h = not_both (in_span body size p) (in_span index index_room p) (let s = e_at p in let o = once p in
        omega (arith, s, o)) h

    abbrev first : ℕ
    first = next_head (w (2 * a))

    abbrev base : Words
    base = cleared index index_room (copied (body_by w a) body (2 * count_by w a) w)

    abbrev pub mid : Words
    mid = grown_words w a body index

    pub mid_first : mid (2 * a) ≡ first
    mid_first = put_hit (2 * a) (2 * a) first (put_word (2 * a + 2) body (put_word (2 * a + 3) index base)) refl

    pub mid_body : body_by mid a ≡ body
    mid_body = put_miss (2 * a) (2 * a + 2) first (put_word (2 * a + 2) body (put_word (2 * a + 3) index base))
        (λ x. omega arith)
        ∙ put_hit (2 * a + 2) (2 * a + 2) body (put_word (2 * a + 3) index base) refl

    pub mid_index : index_by mid a ≡ index
    mid_index = put_miss (2 * a) (2 * a + 3) first (put_word (2 * a + 2) body (put_word (2 * a + 3) index base))
        (λ x. omega arith)
        ∙ put_miss (2 * a + 2) (2 * a + 3) body (put_word (2 * a + 3) index base) (λ x. omega arith)
        ∙ put_hit (2 * a + 3) (2 * a + 3) index base refl

    -- what stands where the count is
    base_count : put_word (2 * a + 3) index base (2 * a + 1) ≡ count_by w a
    base_count =
        let z = head_off (2 * a + 1) (head_at a 1 (omega arith)) in
        let o = off_extents (2 * a + 1) z in
        put_miss (2 * a + 3) (2 * a + 1) index base (λ x. omega arith)
        ∙ laid_off index index_room (2 * a + 1) (λ j. 0) (copied (body_by w a) body (2 * count_by w a) w) o.1
        ∙ copied_miss (body_by w a) body (2 * count_by w a) (2 * a + 1) w
        (narrower body (2 * count_by w a) size (2 * a + 1) count_small o.0)

    in_new : (j : ℕ) → j < 2 * count_by w a → in_span body size (body + j) ≡ true
    in_new j h = in_span_at body size j (omega (arith, h, count_small))

    -- what stands in the new body
    base_words : (j : ℕ) → j < 2 * count_by w a → put_word (2 * a + 3) index base (body + j) ≡ w (body_by w a + j)
    base_words j h =
        put_miss (2 * a + 3) (body + j) index base
        (λ x. both_ways (in_head a (body + j)) (off_head (body + j) (on_body (body + j) (in_new j h)))
        (ap (in_head a) x ∙ head_at a 3 (omega arith)))
        ∙ laid_off index index_room (body + j) (λ i. 0) (copied (body_by w a) body (2 * count_by w a) w)
        (apart (body + j) (in_new j h))
        ∙ copied_word (body_by w a) body (2 * count_by w a) j w h

    grows : Grows w mid a
    grows = grow_puts w (put_word (2 * a + 3) index base) a body base_count
        (λ j h. off_head (body + j) (on_body (body + j) (in_new j h))) base_words even

    next : NextHead (w (2 * a))
    next = next_of w a f c

    mid_class : class_in (mid (2 * a)) ≡ grown_class w a
    mid_class = ap class_in mid_first ∙ next.class

    mid_index_class : index_class_in (mid (2 * a)) ≡ grown_index w a
    mid_index_class = ap index_class_in mid_first ∙ next.index

    -- a place of the body, or the index, that it has now
    body_now : (p : ℕ) → in_body mid a p ≡ true → in_span body size p ≡ true
    body_now p h = (λ i. in_span (sym mid_body i) (size_of (sym mid_class i)) p) ∙ h

    index_now : (p : ℕ) → in_index mid a p ≡ true → in_span index index_room p ≡ true
    index_now p h = (λ i. in_span (sym mid_index i) (size_of (sym mid_index_class i)) p) ∙ h

    takes : TakesBody own w mid a e part
    takes = record {
      free = fresh;
      body = λ p h. (let x = body_now p h in (
        on_body p x,
        cond-true (in_span body size p) (2 * grown_class w a) (2 * grown_index w a + 1) x
            ∙ ap (λ n. 2 * n) (sym mid_class),
      ));
      index = λ p h. (let x = index_now p h in (
        on_index p x,
        cond-false (in_span body size p) (2 * grown_class w a) (2 * grown_index w a + 1)
            (false_from (in_span body size p) (λ y. both_ways (in_span index index_room p) (apart p y) x))
            ∙ ap (λ n. 2 * n + 1) (sym mid_index_class),
      ));
      others = λ p o z. grown_off p count_small (false_from (in_head a p) (λ x. o (l.head p x).0)) z;
    }

    one : Changed own role w mid a e part (record (decode w a) { room = doubled (decode w a).room })
    one = grow_changed own role w mid a e part some f l k c grows takes

    mid_count : count_by mid a ≡ count_by w a
    mid_count = grows.count

    -- the values at its end
    with_is : (vs : List Value) → pushed_words mid a vs ≡ grown_with w a body index vs
    with_is vs = λ i. put_word (2 * a + 1) (mid_count i + length vs) (put_values (mid_body i + 2 * mid_count i) vs mid)

    mid_size : body_size mid a ≡ size
    mid_size = ap size_of mid_class

    -- the header has the same words with them, but for the count
    with_head : (vs : List Value) (q : ℕ) → 2 * (count_by w a + length vs) ≤ size → in_head a q ≡ true → q ≢ 2 * a + 1
        → grown_with w a body index vs q ≡ mid q
    with_head vs q l h n =
        put_miss (2 * a + 1) q (count_by w a + length vs) (put_values (body + 2 * count_by w a) vs mid) n
        ∙ values_off (body + 2 * count_by w a) q vs mid
        (within_span body size (body + 2 * count_by w a) (2 * length vs) q (omega arith) (omega (arith, l))
        (off_extents q (head_off q h)).0)

    pub with_index : (vs : List Value) → 2 * (count_by w a + length vs) ≤ size
        → index_by (grown_with w a body index vs) a ≡ index
    with_index vs l = with_head vs (2 * a + 3) l (head_at a 3 (omega arith)) (λ x. omega arith) ∙ mid_index

    pub with_index_size : (vs : List Value) → 2 * (count_by w a + length vs) ≤ size
        → index_size (grown_with w a body index vs) a ≡ index_room
    with_index_size vs l = ap (λ x. size_of (index_class_in x))
        (with_head vs (2 * a) l (head_first a) (λ x. omega arith)) ∙ ap size_of mid_index_class

    -- the index has nothing in it
    pub with_blank : (vs : List Value) (s : ℕ) → 2 * (count_by w a + length vs) ≤ size → s < index_room
        → grown_with w a body index vs (index + s) ≡ 0
    with_blank vs s l h =
        let q : ℕ = index + s in
        let x : in_span index index_room q ≡ true = in_span_at index index_room s h in
        let o : in_head a q ≡ false = off_head q (on_index q x) in
        let b : in_span body size q ≡ false =
        false_from (in_span body size q) (λ y. both_ways (in_span index index_room q) (apart q y) x) in
        put_miss (2 * a + 1) q (count_by w a + length vs) (put_values (body + 2 * count_by w a) vs mid)
        (λ z. both_ways (in_head a q) o (ap (in_head a) z ∙ head_at a 1 (omega arith)))
        ∙ values_off (body + 2 * count_by w a) q vs mid
        (within_span body size (body + 2 * count_by w a) (2 * length vs) q (omega arith) (omega (arith, l)) b)
        ∙ headed_off a first body index q base o
        ∙ cond-true (in_span index index_room q) 0 (copied (body_by w a) body (2 * count_by w a) w q) x

    pub push_grown : (v : Value) → length (decode w a).values ≡ (decode w a).room → 2 * (count_by w a + 1) ≤ size →
        FitsValue v
        → Changed own role w (grown_with w a body index (v ∷ [])) a e part (with_push v (decode w a))
    push_grown v full room fits =
        let room_now : 2 * count_by mid a + 2 ≤ body_size mid a = omega (arith, room, mid_count, mid_size) in
        let P : Words → Type 0 = λ now. Changed own role w now a e part (with_push v (decode w a)) in
        subst P (with_is (v ∷ [])) (grow_push_changed own role w mid (push_words mid a v) a e part some f l k full c
        grows takes v fits
        (push_puts (owned_by own e a) (parted role e part) mid a one.lays v room_now))

    pub pair_grown : (key v : Value) → length (decode w a).values ≡ (decode w a).room → 2 ≤ (decode w a).room
        → 2 * (count_by w a + 2) ≤ size → FitsValue key → FitsValue v
        → Changed own role w (grown_with w a body index (key ∷ v ∷ [])) a e part (with_pair key v (decode w a))
    pair_grown key v full big room fits_key fits =
        let room_now : 2 * count_by mid a + 4 ≤ body_size mid a = omega (arith, room, mid_count, mid_size) in
        let P : Words → Type 0 = λ now. Changed own role w now a e part (with_pair key v (decode w a)) in
        subst P (with_is (key ∷ v ∷ []))
        (grow_pair_changed own role w mid (pair_words mid a key v) a e part some f l k full c grows takes key v big
        fits_key fits
        (pair_puts (owned_by own e a) (parted role e part) mid a one.lays key v room_now))
