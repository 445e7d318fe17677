-- The words of a record that is made.
use Rattle.std.proofs.Common.{◌≡◌, ℕ, zero, suc, ◌+◌, ◌*◌, ◌/◌, ◌^◌, ◌<◌, ◌≤◌, Bool, true, false, cond, List, [], ◌∷◌, ◌++◌, length, inl, refl, sym, ◌∙◌, ap, subst, arith, ◌%◌}
use Rattle.std.proofs.lemmas.Bool.{both_ways, cond-true, cond-false}
use Rattle.std.proofs.lemmas.Bool.Decides.{nat_tests}
use Rattle.py_data.specs.declared.record.Record.{Record}
use Rattle.py_data.specs.declared.value.Value.{Value}
use Rattle.py_data.specs.Heap.{has_bytes, value_at, new_rec}
use Rattle.seg_store.specs.Store.{NoneOf, OneList}
use Rattle.paged_store.specs.Words.{Words, in_span, size_of, class_in, index_class_in, count_by, body_by, index_by, body_size, index_size, in_head, in_body, in_index}
use Rattle.paged_store.specs.Paged.{extents_at, one_if}
use Rattle.paged_store.specs.inner.Claiming.{extent_for}
use Rattle.paged_store.specs.inner.Making.{made_length, body_class, index_class, made_extents, made_words, FitsRecord, FitsBody}
use Rattle.paged_store.specs.inner.Writing.{laid, cleared, put_values}
use Rattle.paged_store.specs.inner.Indexed.{index_words}
use Rattle.dict_index.specs.Packed.{packed}
use Rattle.dict_index.specs.Index.{IsBlank}
use Rattle.paged_store.specs.inner.Written.{put_word, put_value, made_head, ValueAt, TakesRecord, Changed}
use Rattle.paged_store.proofs.SpanLemmas.{in_span_at, in_span_holds, not_in_span, none_in_span, head_at}
use Rattle.paged_store.proofs.PutWords.{put_hit, put_miss, value_put}
use Rattle.paged_store.proofs.WriteLemmas.{values_off, laid_off}
use Rattle.paged_store.proofs.RecordWords.{size_of_next}
use Rattle.paged_store.proofs.MakeWords.{MadeHead, made_parts, make_changed}
use Rattle.paged_store.proofs.GrowWrites.{headed_off}
use Rattle.paged_store.proofs.GrowTakes.{extent_times}
use Rattle.paged_store.proofs.EndLemmas.{at_both}

-- ---- values that are put one after another

pub values_at : (p i : ℕ) (vs : List Value) (w : Words) → i < length vs →
    ValueAt (put_values p vs w) (p + 2 * i) (value_at vs i)
values_at p i [] w h = absurd (omega arith)
values_at p zero (v ∷ vs) w h =
    let s = value_put p v w in
    let P : ℕ → Type 0 = λ q. ValueAt (put_values (p + 2) vs (put_value p v w)) q v in
    let e : p ≡ p + 2 * 0 = omega arith in
    subst P e (record {
      tag = values_off (p + 2) p vs (put_value p v w) (not_in_span (p + 2) (2 * length vs) p (inl (omega arith))) ∙
          s.tag;
      payload = values_off (p + 2) (p + 1) vs (put_value p v w)
          (not_in_span (p + 2) (2 * length vs) (p + 1) (inl (omega arith))) ∙ s.payload;
    })
values_at p (suc i) (v ∷ vs) w h =
    let P : ℕ → Type 0 = λ q. ValueAt (put_values (p + 2) vs (put_value p v w)) q (value_at vs i) in
    let e : p + 2 + 2 * i ≡ p + 2 * suc i = omega arith in
    subst P e (values_at (p + 2) i vs (put_value p v w) (omega arith))

none_of : (b : Bool) → one_if b ≡ 0 → b ≡ false
none_of true e = absurd (cc)
none_of false e = refl

not_more : (x y z : Bool) → one_if x + one_if y + one_if z ≤ 1 → y ≡ true → (x ≡ false) × (z ≡ false)
not_more true y z h e = absurd (let o = ap one_if e in omega (arith, h, o))
not_more false y true h e = absurd (let o = ap one_if e in omega (arith, h, o))
not_more false y false h e = (refl, refl)

not_first : (x y z : Bool) → one_if x + one_if y + one_if z ≤ 1 → z ≡ true → (x ≡ false) × (y ≡ false)
not_first true y z h e = absurd (let o = ap one_if e in omega (arith, h, o))
not_first false true z h e = absurd (let o = ap one_if e in omega (arith, h, o))
not_first false false z h e = (refl, refl)

shorter : (place n m q : ℕ) → n ≤ m → in_span place m q ≡ false → in_span place n q ≡ false
shorter place n m q l h = grind (arith, nat_tests)

laid_on : (place n j : ℕ) (f w : Words) → j < n → laid place n f w (place + j) ≡ f j
laid_on place n j f w h = rw (in_span_at place n j h) (ap f (omega arith))

module _ (w : Words) (a body index : ℕ) (r : Record) where
  abbrev size : ℕ
  size = size_of (body_class r)

  abbrev index_room : ℕ
  index_room = size_of (index_class r)

  abbrev e : ℕ → ℕ
  e = extents_at (made_extents r (2 * a) body index)

  pub e_of : (p : ℕ) → e p ≡ one_if (in_head a p) + one_if (in_span body size p) + one_if (in_span index index_room p)
  e_of p =
      let all = at_both (extent_for 2 (2 * a) ++ extent_for (body_class r) body) (extent_for (index_class r) index) p in
      let two = at_both (extent_for 2 (2 * a)) (extent_for (body_class r) body) p in
      let x : extents_at (extent_for 2 (2 * a)) p ≡ one_if (in_head a p) = extent_times 2 (2 * a) p ∙
      ap (λ n. one_if (in_span (2 * a) n p)) (size_of_next 1) in
      let y = extent_times (body_class r) body p in
      let z = extent_times (index_class r) index p in
      omega (arith, all, two, x, y, z)

  -- the places of the index are taken
  pub index_off : (p : ℕ) → e p ≡ 0 → in_span index index_room p ≡ false
  index_off p z = none_of _ (let s = e_of p in omega (arith, s, z))

  pub index_taken : (p : ℕ) → in_span index index_room p ≡ true → 0 < e p
  index_taken p h = (let s = e_of p in let o = ap one_if h in omega (arith, s, o))

  abbrev pub part : ℕ → ℕ
  part p = cond (in_head a p) 0 (cond (in_span body size p) (2 * body_class r) (2 * index_class r + 1))

  abbrev first : ℕ
  first = made_head r.kind (made_length r)

  abbrev base : Words
  base = put_values body r.values w

  abbrev bytes : Words
  bytes = laid body ((length r.bytes + 7) / 8) (packed r.bytes) base

  abbrev blank : Words
  blank = cleared index index_room bytes

  abbrev counted : Words
  counted = put_word (2 * a + 1) (made_length r) blank

  abbrev pub now : Words
  now = made_words w a body index r

  module _ (fits : FitsBody r) where
    -- other words are as they were
    pub made_off : (q : ℕ) → e q ≡ 0 → now q ≡ w q
    made_off q z =
        let s = e_of q in
        let h : in_head a q ≡ false = none_of _ (omega (arith, s, z)) in
        let b : in_span body size q ≡ false = none_of _ (omega (arith, s, z)) in
        let i : in_span index index_room q ≡ false = none_of _ (omega (arith, s, z)) in
        headed_off a first body index q counted h
        ∙ put_miss (2 * a + 1) q (made_length r) blank
        (λ x. both_ways (in_head a q) h (ap (in_head a) x ∙ head_at a 1 (omega arith)))
        ∙ laid_off index index_room q (λ j. 0) bytes i
        ∙ laid_off body ((length r.bytes + 7) / 8) q (packed r.bytes) base
        (shorter body ((length r.bytes + 7) / 8) size q fits.bytes b)
        ∙ values_off body q r.values w (shorter body (2 * length r.values) size q fits.values b)

    now_first : now (2 * a) ≡ first
    now_first = put_hit (2 * a) (2 * a) first (put_word (2 * a + 2) body (put_word (2 * a + 3) index counted)) refl

    pub now_body : body_by now a ≡ body
    now_body = put_miss (2 * a) (2 * a + 2) first (put_word (2 * a + 2) body (put_word (2 * a + 3) index counted))
        (λ x. omega arith)
        ∙ put_hit (2 * a + 2) (2 * a + 2) body (put_word (2 * a + 3) index counted) refl

    pub now_index : index_by now a ≡ index
    now_index = put_miss (2 * a) (2 * a + 3) first (put_word (2 * a + 2) body (put_word (2 * a + 3) index counted))
        (λ x. omega arith)
        ∙ put_miss (2 * a + 2) (2 * a + 3) body (put_word (2 * a + 3) index counted) (λ x. omega arith)
        ∙ put_hit (2 * a + 3) (2 * a + 3) index counted refl

    now_count : count_by now a ≡ made_length r
    now_count = put_miss (2 * a) (2 * a + 1) first (put_word (2 * a + 2) body (put_word (2 * a + 3) index counted))
        (λ x. omega arith)
        ∙ put_miss (2 * a + 2) (2 * a + 1) body (put_word (2 * a + 3) index counted) (λ x. omega arith)
        ∙ put_miss (2 * a + 3) (2 * a + 1) index counted (λ x. omega arith)
        ∙ put_hit (2 * a + 1) (2 * a + 1) (made_length r) blank refl

    parts : MadeHead r.kind (made_length r)
    parts = made_parts r.kind (made_length r)

    now_class : class_in (now (2 * a)) ≡ body_class r
    now_class = ap class_in now_first ∙ parts.class

    now_index_class : index_class_in (now (2 * a)) ≡ index_class r
    now_index_class = ap index_class_in now_first ∙ parts.index

    pub now_body_size : body_size now a ≡ size
    now_body_size = ap size_of now_class

    body_now : (p : ℕ) → in_body now a p ≡ true → in_span body size p ≡ true
    body_now p h = (λ i. in_span (sym now_body i) (size_of (sym now_class i)) p) ∙ h

    pub now_index_size : index_size now a ≡ index_room
    now_index_size = ap size_of now_index_class

    pub index_is : (p : ℕ) → in_index now a p ≡ in_span index index_room p
    index_is p = λ i. in_span (now_index i) (now_index_size i) p

    index_now : (p : ℕ) → in_index now a p ≡ true → in_span index index_room p ≡ true
    index_now p h = sym (index_is p) ∙ h

    module _ (once : (p : ℕ) → e p ≤ 1) where
      alone : (p : ℕ) → one_if (in_head a p) + one_if (in_span body size p) + one_if (in_span index index_room p) ≤ 1
      alone p = (let s = e_of p in let o = once p in omega (arith, s, o))

      on_body : (p : ℕ) → in_span body size p ≡ true → (in_head a p ≡ false) × (in_span index index_room p ≡ false)
      on_body p h = not_more (in_head a p) (in_span body size p) (in_span index index_room p) (alone p) h

      on_index : (p : ℕ) → in_span index index_room p ≡ true → (in_head a p ≡ false) × (in_span body size p ≡ false)
      on_index p h = not_first (in_head a p) (in_span body size p) (in_span index index_room p) (alone p) h

      takes : (own : Words) → TakesRecord own w now a e part
      takes own = record {
        head = λ p h. ((let s = e_of p in let o = ap one_if h in omega (arith, s, o)), cond-true (in_head a p) 0 _ h);
        body = λ p h. (let x = body_now p h in (
          (let s = e_of p in let o = ap one_if x in omega (arith, s, o)),
          cond-false (in_head a p) 0 (cond (in_span body size p) (2 * body_class r) (2 * index_class r + 1))
              (on_body p x).0
              ∙ cond-true (in_span body size p) (2 * body_class r) (2 * index_class r + 1) x ∙
              ap (λ n. 2 * n) (sym now_class),
        ));
        index = λ p h. (let x = index_now p h in (
          (let s = e_of p in let o = ap one_if x in omega (arith, s, o)),
          cond-false (in_head a p) 0 (cond (in_span body size p) (2 * body_class r) (2 * index_class r + 1))
              (on_index p x).0
              ∙ cond-false (in_span body size p) (2 * body_class r) (2 * index_class r + 1) (on_index p x).1 ∙
              ap (λ n. 2 * n + 1) (sym now_index_class),
        ));
        others = λ p z. made_off p z;
      }

      -- what stands in the body is what was put there first
      in_bytes : (q : ℕ) → in_span body size q ≡ true → now q ≡ bytes q
      in_bytes q h =
          let o = on_body q h in
          headed_off a first body index q counted o.0
          ∙ put_miss (2 * a + 1) q (made_length r) blank
          (λ x. both_ways (in_head a q) o.0 (ap (in_head a) x ∙ head_at a 1 (omega arith)))
          ∙ laid_off index index_room q (λ j. 0) bytes o.1

      -- nothing is in the index
      pub made_blank : IsBlank (index_size now a) (index_words now a)
      made_blank s h =
          let l : s < index_room = subst (λ n. s < n) now_index_size h in
          let o = on_index (index + s) (in_span_at index index_room s l) in
          ap (λ i. now (i + s)) now_index
          ∙ headed_off a first body index (index + s) counted o.0
          ∙ put_miss (2 * a + 1) (index + s) (made_length r) blank
          (λ x. both_ways (in_head a (index + s)) o.0 (ap (in_head a) x ∙ head_at a 1 (omega arith)))
          ∙ laid_on index index_room s (λ j. 0) bytes l

      -- where there are values there are no bytes
      no_bytes : (i : ℕ) → OneList r.kind r.values r.bytes → i < length r.values → (length r.bytes + 7) / 8 ≡ 0
      no_bytes i one h = by_kind (has_bytes r.kind) one
        where
          by_kind : (b : Bool) → NoneOf b r.values r.bytes → (length r.bytes + 7) / 8 ≡ 0
          by_kind true x = absurd (let z = ap length x in omega (arith, h, z))
          by_kind false x = ap (λ bs. (length bs + 7) / 8) x

      in_values : (i q : ℕ) → OneList r.kind r.values r.bytes → i < length r.values → in_span body size q ≡ true →
          now q ≡ base q
      in_values i q one h b = in_bytes q b ∙ laid_off body ((length r.bytes + 7) / 8) q (packed r.bytes) base
          (ap (λ n. in_span body n q) (no_bytes i one h) ∙ none_in_span body q)

      made_values_there : (one : OneList r.kind r.values r.bytes) (i : ℕ) → i < length r.values →
          ValueAt now (body_by now a + 2 * i) (value_at r.values i)
      made_values_there one i h =
          let s = values_at body i r.values w h in
          let x : in_span body size (body + 2 * i) ≡ true =
          in_span_holds body size (body + 2 * i) (omega arith) (let f = fits.values in omega (arith, h, f)) in
          let y : in_span body size (body + 2 * i + 1) ≡ true =
          in_span_holds body size (body + 2 * i + 1) (omega arith) (let f = fits.values in omega (arith, h, f)) in
          let P : ℕ → Type 0 = λ b. ValueAt now (b + 2 * i) (value_at r.values i) in
          subst P (sym now_body) (record {
            tag = in_values i (body + 2 * i) one h x ∙ s.tag;
            payload = in_values i (body + 2 * i + 1) one h y ∙ s.payload;
          })

      made_bytes_there : (j : ℕ) → j < (length r.bytes + 7) / 8 → now (body_by now a + j) ≡ packed r.bytes j
      made_bytes_there j h = ap (λ b. now (b + j)) now_body
          ∙ in_bytes (body + j) (in_span_at body size j (let f = fits.bytes in omega (arith, h, f)))
          ∙ laid_on body ((length r.bytes + 7) / 8) j (packed r.bytes) base h

      pub made_changed : (own role : Words) → made_length r ≤ 2 ^ 20 → OneList r.kind r.values r.bytes → FitsRecord r
          → (0 < size → body % 2 ≡ 0) → Changed own role w now a e part (new_rec r.kind r.values r.bytes)
      made_changed own role short one each even = make_changed own role w now a e part r.kind r.values r.bytes short one
          each.values each.bytes (record {
            first = now_first;
            count = now_count;
            values = made_values_there one;
            bytes = made_bytes_there;
            even = λ s. ap (λ z. z % 2) now_body ∙ even (subst (λ n. 0 < n) now_body_size s);
          }) (takes own)
