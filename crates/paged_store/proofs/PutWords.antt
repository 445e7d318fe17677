-- Words that are put one by one make the changes of a record.
use Rattle.std.proofs.Common.{◌≡◌, ◌≢◌, ℕ, ◌+◌, ◌-◌, ◌*◌, ◌<◌, ◌≤◌, true, false, cond, refl, sym, ap, ◌∙◌, inl, inr, arith, ◌%◌}
use Rattle.std.proofs.lemmas.Bool.Decides.{eqb_tells, nat_tests}
use Rattle.py_data.specs.declared.value.Value.{Value}
use Rattle.paged_store.specs.Words.{Words, in_span, tag_of, payload_of, count_by, body_by, body_size, in_head, in_body}
use Rattle.paged_store.specs.inner.Formed.{Lays}
use Rattle.paged_store.specs.inner.Written.{set_words, push_words, pair_words, drop_words, put_word, put_value, slid, copied, ValueAt, SetsValue, PushesValue, PushesPair, Cuts, DropsPair, next_head, Grows}
use Rattle.paged_store.proofs.SpanLemmas.{in_span_at, in_span_holds, not_in_span, span_bounds, head_first, head_at}
use Rattle.paged_store.proofs.PartLemmas.{head_not_body, body_off_head, false_from}

pub put_hit : (p q x : ℕ) (w : Words) → q ≡ p → put_word p x w q ≡ x
put_hit p q x w e = elim (eqb_tells q p) [ inl h ↦ rw h.0 refl | inr h ↦ absurd (h.1 e) ]

pub put_miss : (p q x : ℕ) (w : Words) → q ≢ p → put_word p x w q ≡ w q
put_miss p q x w ne = elim (eqb_tells q p) [ inl h ↦ absurd (ne h.1) | inr h ↦ rw h.0 refl ]

pub value_put : (p : ℕ) (v : Value) (w : Words) → ValueAt (put_value p v w) p v
value_put p v w = record {
  tag = put_miss (p + 1) p (payload_of v) (put_word p (tag_of v) w) (λ e. omega arith) ∙ put_hit p p (tag_of v) w refl;
  payload = put_hit (p + 1) (p + 1) (payload_of v) (put_word p (tag_of v) w) refl;
}

pub value_miss : (p q : ℕ) (v : Value) (w : Words) → q ≢ p → q ≢ p + 1 → put_value p v w q ≡ w q
value_miss p q v w n m = put_miss (p + 1) q (payload_of v) (put_word p (tag_of v) w) m ∙ put_miss p q (tag_of v) w n

pub slid_hit : (place n by p : ℕ) (w : Words) → in_span place n p ≡ true → slid place n by w p ≡ w (p + by)
slid_hit place n by p w h = rw h refl

pub slid_miss : (place n by p : ℕ) (w : Words) → in_span place n p ≡ false → slid place n by w p ≡ w p
slid_miss place n by p w h = rw h refl

-- a span with a place more
pub span_more : (place n q : ℕ) → q ≢ place + n → in_span place (n + 1) q ≡ in_span place n q
span_more place n q h = grind (arith, nat_tests)

-- one word more slides
pub slid_more : (place n by : ℕ) (w : Words) → 0 < by →
    slid place (n + 1) by w ≡ put_word (place + n) (slid place n by w (place + n + by)) (slid place n by w)
slid_more place n by w some = λ i q. at q i
  where
    at : (q : ℕ) →
        slid place (n + 1) by w q ≡ put_word (place + n) (slid place n by w (place + n + by)) (slid place n by w) q
    at q = elim (eqb_tells q (place + n)) [
      | inl e ↦ rw (e.0, in_span_holds place (n + 1) q (omega (arith, e.1)) (omega (arith, e.1)))
          (ap (λ z. w (z + by)) e.1 ∙ sym (slid_miss place n by (place + n + by) w
          (not_in_span place n (place + n + by) (inr (omega arith)))))
      | inr e ↦ rw e.0 (ap (λ b. cond b (w (q + by)) (w q)) (span_more place n q e.1))
    ]

-- a place that isn't the header's is another than each of the header's
off_head : (a p q : ℕ) → in_head a p ≡ false → in_head a q ≡ true → p ≢ q
off_head a p q h i e = cc (ap (in_head a) e)

-- ---- places of a body

module _ (own role w : Words) (a : ℕ) (l : Lays own role w a) where
  -- the count's word is another than each of the body's
  pub off_count : (j : ℕ) → j < body_size w a → body_by w a + j ≢ 2 * a + 1
  off_count j h = body_off_head own role w a (body_by w a + j) (2 * a + 1) l
      (in_span_at (body_by w a) (body_size w a) j h) (head_at a 1 (omega arith))

  -- a place outside the body is another than each of the body's
  pub off_body : (p j : ℕ) → in_body w a p ≡ false → j < body_size w a → p ≢ body_by w a + j
  off_body p j o h e = let i : in_body w a (body_by w a + j) ≡ true = in_span_at (body_by w a) (body_size w a) j h in
      cc (ap (in_body w a) e)

  count_out : in_body w a (2 * a + 1) ≡ false
  count_out = head_not_body own role w a (2 * a + 1) l (head_at a 1 (omega arith))

  pub set_puts : (i : ℕ) (v : Value) → 2 * i + 1 < body_size w a →
      SetsValue w (set_words w a i v) a i v
  set_puts i v h = record {
    place = record {
      count = value_miss (body_by w a + 2 * i) (2 * a + 1) v w (off_body (2 * a + 1) (2 * i) count_out (omega arith))
          (λ e. off_body (2 * a + 1) (2 * i + 1) count_out h (omega arith));
      outside = λ p o n. value_miss (body_by w a + 2 * i) p v w (off_body p (2 * i) o (omega arith))
          (λ e. off_body p (2 * i + 1) o h (omega arith));
    };
    value = value_put (body_by w a + 2 * i) v w;
    others = λ j m n k. value_miss (body_by w a + 2 * i) (body_by w a + j) v w (λ e. n (omega arith))
        (λ e. k (omega arith));
  }

  pub push_puts : (v : Value) → 2 * count_by w a + 2 ≤ body_size w a →
      PushesValue w (push_words w a v) a v
  push_puts v h =
      let n : ℕ = count_by w a in
      let u : Words = put_value (body_by w a + 2 * n) v w in
      let s : ValueAt u (body_by w a + 2 * n) v = value_put (body_by w a + 2 * n) v w in
      record {
        place = record {
          count = put_hit (2 * a + 1) (2 * a + 1) (n + 1) u refl;
          outside = λ p o m. put_miss (2 * a + 1) p (n + 1) u m ∙
              value_miss (body_by w a + 2 * n) p v w (off_body p (2 * n) o (omega arith))
              (λ e. off_body p (2 * n + 1) o (omega arith) (omega arith));
        };
        value = record {
          tag = put_miss (2 * a + 1) (body_by w a + 2 * n) (n + 1) u (off_count (2 * n) (omega arith)) ∙ s.tag;
          payload = put_miss (2 * a + 1) (body_by w a + 2 * n + 1) (n + 1) u
              (λ e. off_count (2 * n + 1) (omega arith) (omega arith)) ∙ s.payload;
        };
        others = λ j m. put_miss (2 * a + 1) (body_by w a + j) (n + 1) u (off_count j (omega arith)) ∙
            value_miss (body_by w a + 2 * n) (body_by w a + j) v w (λ e. omega arith) (λ e. omega arith);
      }

  pub pair_puts : (key v : Value) → 2 * count_by w a + 4 ≤ body_size w a →
      PushesPair w (pair_words w a key v) a key v
  pair_puts key v h =
      let n : ℕ = count_by w a in
      let b : ℕ = body_by w a + 2 * n in
      let t : Words = put_value b key w in
      let u : Words = put_value (b + 2) v t in
      let s : ValueAt t b key = value_put b key w in
      let r : ValueAt u (b + 2) v = value_put (b + 2) v t in
      record {
        place = record {
          count = put_hit (2 * a + 1) (2 * a + 1) (n + 2) u refl;
          outside = λ p o m. put_miss (2 * a + 1) p (n + 2) u m ∙
              value_miss (b + 2) p v t (λ e. off_body p (2 * n + 2) o (omega arith) (omega arith))
              (λ e. off_body p (2 * n + 3) o (omega arith) (omega arith)) ∙
              value_miss b p key w (off_body p (2 * n) o (omega arith))
              (λ e. off_body p (2 * n + 1) o (omega arith) (omega arith));
        };
        first = record {
          tag = put_miss (2 * a + 1) b (n + 2) u (off_count (2 * n) (omega arith)) ∙
              value_miss (b + 2) b v t (λ e. omega arith) (λ e. omega arith) ∙ s.tag;
          payload = put_miss (2 * a + 1) (b + 1) (n + 2) u (λ e. off_count (2 * n + 1) (omega arith) (omega arith)) ∙
              value_miss (b + 2) (b + 1) v t (λ e. omega arith) (λ e. omega arith) ∙ s.payload;
        };
        second = record {
          tag = put_miss (2 * a + 1) (b + 2) (n + 2) u (λ e. off_count (2 * n + 2) (omega arith) (omega arith)) ∙
              r.tag;
          payload = put_miss (2 * a + 1) (b + 2 + 1) (n + 2) u
              (λ e. off_count (2 * n + 3) (omega arith) (omega arith)) ∙ r.payload;
        };
        others = λ j m. put_miss (2 * a + 1) (body_by w a + j) (n + 2) u (off_count j (omega arith)) ∙
            value_miss (b + 2) (body_by w a + j) v t (λ e. omega arith) (λ e. omega arith) ∙
            value_miss b (body_by w a + j) key w (λ e. omega arith) (λ e. omega arith);
      }

  pub cut_puts : (n : ℕ) → 2 * n ≤ body_size w a → Cuts w (put_word (2 * a + 1) n w) a n
  cut_puts n h = record {
    place = record {
      count = put_hit (2 * a + 1) (2 * a + 1) n w refl;
      outside =
          λ p o m. put_miss (2 * a + 1) p n w m;
    };
    others = λ j m. put_miss (2 * a + 1) (body_by w a + j) n w (off_count j (omega arith));
  }

  pub drop_puts : (k n : ℕ) → n + 2 ≡ count_by w a → 2 * k ≤ n → 2 * count_by w a ≤ body_size w a →
      DropsPair w (drop_words w a k n) a k n
  drop_puts k n fewer some h =
      let b : ℕ = body_by w a in
      let u : Words = slid (b + 4 * k) (2 * n - 4 * k) 4 w in
      record {
        place = record {
          count = put_hit (2 * a + 1) (2 * a + 1) n u refl;
          outside = λ p o m. put_miss (2 * a + 1) p n u m ∙ slid_miss (b + 4 * k) (2 * n - 4 * k) 4 p w
              (false_from (in_span (b + 4 * k) (2 * n - 4 * k) p) (λ i.
              let s : (b + 4 * k ≤ p) × (p < b + 4 * k + (2 * n - 4 * k)) =
              span_bounds (b + 4 * k) (2 * n - 4 * k) p i in
              let y : in_body w a p ≡ true = in_span_holds b (body_size w a) p (omega arith) (omega arith) in
              cc));
        };
        fewer = fewer;
        below = λ j m. put_miss (2 * a + 1) (b + j) n u (off_count j (omega arith)) ∙
            slid_miss (b + 4 * k) (2 * n - 4 * k) 4 (b + j) w
            (not_in_span (b + 4 * k) (2 * n - 4 * k) (b + j) (inl (omega arith)));
        behind = λ j l m. put_miss (2 * a + 1) (b + j) n u (off_count j (omega arith)) ∙
            slid_hit (b + 4 * k) (2 * n - 4 * k) 4 (b + j) w (in_span_holds (b + 4 * k) (2 * n - 4 * k) (b + j)
            (omega arith) (omega arith));
      }

-- ---- growth

-- once the words are copied to the new place, the header is put
pub grow_puts : (w u : Words) (a place : ℕ) → u (2 * a + 1) ≡ count_by w a →
    ((j : ℕ) → j < 2 * count_by w a → in_head a (place + j) ≡ false) →
    ((j : ℕ) → j < 2 * count_by w a → u (place + j) ≡ w (body_by w a + j)) → place % 2 ≡ 0 →
    Grows w (put_word (2 * a) (next_head (w (2 * a))) (put_word (2 * a + 2) place u)) a
grow_puts w u a place count off words even =
    let t : Words = put_word (2 * a + 2) place u in
    let x : ℕ = next_head (w (2 * a)) in
    let body : body_by (put_word (2 * a) x t) a ≡ place = put_miss (2 * a) (2 * a + 2) x t (λ e. omega arith) ∙
    put_hit (2 * a + 2) (2 * a + 2) place u refl in
    record {
      first = put_hit (2 * a) (2 * a) x t refl;
      count = put_miss (2 * a) (2 * a + 1) x t (λ e. omega arith) ∙
          put_miss (2 * a + 2) (2 * a + 1) place u (λ e. omega arith) ∙ count;
      words = λ j h. ap (λ z. put_word (2 * a) x t (z + j)) body ∙
          put_miss (2 * a) (place + j) x t (off_head a (place + j) (2 * a) (off j h) (head_first a)) ∙
          put_miss (2 * a + 2) (place + j) place u (off_head a (place + j) (2 * a + 2) (off j h)
          (head_at a 2 (omega arith))) ∙
          words j h;
      even = ap (λ z. z % 2) body ∙ even;
    }

-- the words of the old body once they are copied
pub copied_word : (from to n j : ℕ) (w : Words) → j < n → copied from to n w (to + j) ≡ w (from + j)
copied_word from to n j w h = rw (in_span_at to n j h) (ap w (omega arith))

pub copied_miss : (from to n p : ℕ) (w : Words) → in_span to n p ≡ false → copied from to n w p ≡ w p
copied_miss from to n p w h = rw h refl

-- one word more is copied, where it isn't among those that were written
pub copied_more : (from to n : ℕ) (w : Words) → in_span to n (from + n) ≡ false →
    copied from to (n + 1) w ≡ put_word (to + n) (w (from + n)) (copied from to n w)
copied_more from to n w h = λ i q. at q i
  where
    at : (q : ℕ) → copied from to (n + 1) w q ≡ put_word (to + n) (w (from + n)) (copied from to n w) q
    at q = elim (eqb_tells q (to + n)) [
      | inl e ↦ rw (e.0, in_span_holds to (n + 1) q (omega (arith, e.1)) (omega (arith, e.1)))
          (ap w (omega (arith, e.1)))
      | inr e ↦ rw e.0 (ap (λ b. cond b (w (from + (q - to))) (w q)) (span_more to n q e.1))
    ]
