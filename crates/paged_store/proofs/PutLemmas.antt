-- Words of a segment that are put one by one.
use Rattle.std.proofs.Common.{◌≡◌, ◌≢◌, ℕ, suc, ◌+◌, ◌-◌, ◌*◌, ◌/◌, ◌<◌, ◌≤◌, true, false, cond, List, [], ◌∷◌, ◌++◌, length, take, get_or, refl, sym, ap, subst, ◌∙◌, inl, inr, arith}
use Rattle.std.proofs.lemmas.Bool.Decides.{eqb_tells, nat_tests}
use Rattle.std.proofs.lemmas.List.{take_more, length-take}
use Rattle.page_table.specs.Pages.{Table, put, after_write}
use Rattle.py_data.specs.declared.value.Value.{Value}
use Rattle.paged_store.specs.Words.{Words, in_span}
use Rattle.paged_store.specs.inner.Written.{put_word, put_value, copied}
use Rattle.paged_store.specs.inner.Writing.{CanPut, with_words, laid, put_values, headed}
use Rattle.paged_store.proofs.SpanLemmas.{in_span_at, in_span_holds, none_in_span}
use Rattle.paged_store.proofs.PutWords.{span_more, copied_miss}

-- ---- a segment's other words

put_twice : (k : ℕ) (w v : Words) (f : ℕ → Words) → put k v (put k w f) ≡ put k v f
put_twice k w v f = λ i j. at j i
  where
    at : (j : ℕ) → put k v (put k w f) j ≡ put k v f j
    at j = elim (eqb_tells j k) [ inl e ↦ rw e.0 refl | inr e ↦ rw e.0 refl ]

pub words_at : (k : ℕ) (w : Words) (t : Table) → (with_words k w t).word k ≡ w
words_at k w t = elim (eqb_tells k k) [ inl e ↦ rw e.0 refl | inr e ↦ absurd (e.1 refl) ]

pub words_off : (k j : ℕ) (w : Words) (t : Table) → j ≢ k → (with_words k w t).word j ≡ t.word j
words_off k j w t n = elim (eqb_tells j k) [ inl e ↦ absurd (n e.1) | inr e ↦ rw e.0 refl ]

put_same : (k : ℕ) (f : ℕ → Words) → put k (f k) f ≡ f
put_same k f = λ i j. at j i
  where
    at : (j : ℕ) → put k (f k) f j ≡ f j
    at j = elim (eqb_tells j k) [ inl e ↦ rw e.0 (ap f (sym e.1)) | inr e ↦ rw e.0 refl ]

-- no word is another
pub words_none : (k : ℕ) (t : Table) → t ≡ with_words k (t.word k) t
words_none k t = sym (λ i. record t { word = put_same k t.word i })

-- words that are put over others
pub words_then : (k : ℕ) (w : Words) (f : Words → Words) (a b c : Table) → b ≡ with_words k w a →
    c ≡ with_words k (f (b.word k)) b → c ≡ with_words k (f w) a
words_then k w f a b c e h =
    let s : b.word k ≡ w = ap (λ t. t.word k) e ∙ words_at k w a in
    h ∙ (λ i. with_words k (f (s i)) (e i)) ∙ (λ i. record a { word = put_twice k w (f w) a.word i })

pub can_still : (k place n : ℕ) (w : Words) (a b : Table) → b ≡ with_words k w a → CanPut k place n a →
    CanPut k place n b
can_still k place n w a b e c = let P : Table → Type 0 = λ t. CanPut k place n t in
    subst P (sym e) (record { within = c.within; own = c.own })

-- a part of a span
pub can_part : (k place n from m : ℕ) (t : Table) → place ≤ from → from + m ≤ place + n → CanPut k place n t →
    CanPut k from m t
can_part k place n from m t l h c = record {
  within = omega (arith, c.within);
  own = λ p i. c.own p (span_part place n from m p l h i);
}
  where
    span_part : (place n from m p : ℕ) → place ≤ from → from + m ≤ place + n → in_span from m p ≡ true →
        in_span place n p ≡ true
    span_part place n from m p l h i = grind (arith, nat_tests)

-- the page of a place of the span is the segment's own
pub can_at : (k place n j : ℕ) (t : Table) → j < n → CanPut k place n t →
    (place + j < t.reserved) × (t.own k ((place + j) / 512) ≡ true)
can_at k place n j t h c = (omega (arith, c.within), c.own (place + j) (in_span_at place n j h))

pub can_first : (k place n : ℕ) (t : Table) → 0 < n → CanPut k place n t →
    (place < t.reserved) × (t.own k (place / 512) ≡ true)
can_first k place n t h c =
    (omega (arith, c.within), c.own place (in_span_holds place n place (omega arith) (omega arith)))

-- ---- one word more

pub laid_none : (place : ℕ) (f w : Words) → laid place 0 f w ≡ w
laid_none place f w = λ i q. cond (none_in_span place q i) (f (q - place)) (w q)

pub laid_more : (place n : ℕ) (f w : Words) → laid place (n + 1) f w ≡ put_word (place + n) (f n) (laid place n f w)
laid_more place n f w = λ i q. at q i
  where
    at : (q : ℕ) → laid place (n + 1) f w q ≡ put_word (place + n) (f n) (laid place n f w) q
    at q = elim (eqb_tells q (place + n)) [
      | inl e ↦ rw (e.0, in_span_holds place (n + 1) q (omega (arith, e.1)) (omega (arith, e.1)))
          (ap f (omega (arith, e.1)))
      | inr e ↦ rw e.0 (ap (λ b. cond b (f (q - place)) (w q)) (span_more place n q e.1))
    ]

-- a loop that lays words: one more is put
pub lays_more : (k place n x : ℕ) (f w : Words) (a b c : Table) → b ≡ with_words k (laid place n f w) a →
    c ≡ after_write k (place + n) x b → x ≡ f n → c ≡ with_words k (laid place (n + 1) f w) a
lays_more k place n x f w a b c e h r =
    words_then k (laid place n f w) (put_word (place + n) x) a b c e h
    ∙ (λ i. with_words k (put_word (place + n) (r i) (laid place n f w)) a)
    ∙ (λ i. with_words k (sym (laid_more place n f w) i) a)

pub lays_none : (k place : ℕ) (f : Words) (t : Table) → t ≡ with_words k (laid place 0 f (t.word k)) t
lays_none k place f t = words_none k t ∙ (λ i. with_words k (sym (laid_none place f (t.word k)) i) t)

-- what is copied is read where nothing was written yet
pub copy_reads : (k from to n x : ℕ) (w : Words) (a b : Table) → b ≡ with_words k (copied from to n w) a →
    in_span to n (from + n) ≡ false → x ≡ b.word k (from + n) → x ≡ w (from + n)
copy_reads k from to n x w a b e clear r = r ∙ ap (λ t. t.word k (from + n)) e ∙
    ap (λ v. v (from + n)) (words_at k (copied from to n w) a) ∙ copied_miss from to n (from + n) w clear

-- ---- values

pub put_values_append : (p : ℕ) (xs ys : List Value) (w : Words) →
    put_values p (xs ++ ys) w ≡ put_values (p + 2 * length xs) ys (put_values p xs w)
put_values_append p [] ys w = ap (λ z. put_values z ys w) {x = p} {y = p + 0} (omega arith)
put_values_append p (x ∷ xs) ys w = put_values_append (p + 2) xs ys (put_value p x w)
    ∙ ap (λ z. put_values z ys (put_values (p + 2) xs (put_value p x w))) {x = p + 2 + 2 * length xs}
    {y = p + 2 * suc (length xs)} (omega arith)

put_values_more : (p i : ℕ) (vs : List Value) (d : Value) (w : Words) → i < length vs →
    put_values p (take (i + 1) vs) w ≡ put_value (p + 2 * i) (get_or vs i d) (put_values p (take i vs) w)
put_values_more p i vs d w h = ap (λ z. put_values p z w) (take_more vs i d h)
    ∙ put_values_append p (take i vs) (get_or vs i d ∷ []) w
    ∙ ap (λ z. put_value (p + 2 * z) (get_or vs i d) (put_values p (take i vs) w))
    (length_take_within vs i (omega arith))
  where
    length_take_within : (vs : List Value) (i : ℕ) → i ≤ length vs → length (take i vs) ≡ i
    length_take_within vs i h = grind (arith, length-take)

-- the loop that puts values: one more is put
pub values_more : (k p i next : ℕ) (vs : List Value) (d : Value) (w : Words) (a b c : Table) → i < length vs →
    next ≡ p + 2 * i → b ≡ with_words k (put_values p (take i vs) w) a →
    c ≡ with_words k (put_value next (get_or vs i d) (b.word k)) b →
    c ≡ with_words k (put_values p (take (i + 1) vs) w) a
values_more k p i next vs d w a b c h e s r =
    words_then k (put_values p (take i vs) w) (put_value next (get_or vs i d)) a b c s r
    ∙ (λ j. with_words k (put_value (e j) (get_or vs i d) (put_values p (take i vs) w)) a)
    ∙ (λ j. with_words k (sym (put_values_more p i vs d w h) j) a)

-- ---- a header

-- words at two places, in either order
words_swap : (p q x y : ℕ) (w : Words) → p ≢ q → put_word p x (put_word q y w) ≡ put_word q y (put_word p x w)
words_swap p q x y w n = λ i r. at r i
  where
    at : (r : ℕ) → put_word p x (put_word q y w) r ≡ put_word q y (put_word p x w) r
    at r = elim (eqb_tells r p) [
      | inl e ↦ elim (eqb_tells r q) [ inl f ↦ absurd (n (sym e.1 ∙ f.1)) | inr f ↦ rw (e.0, f.0) refl ]
      | inr e ↦ elim (eqb_tells r q) [ inl f ↦ rw (e.0, f.0) refl | inr f ↦ rw (e.0, f.0) refl ]
    ]

pub head_put : (k a first body index y z : ℕ) (d t u : Table) →
    t ≡ after_write k (2 * a + 2 + 1) y (after_write k (2 * a + 2) z d) → u ≡ after_write k (2 * a) first t → y ≡ index
    → z ≡ body → u ≡ with_words k (headed a first body index (d.word k)) d
head_put k a first body index y z d t u e f i b =
    let w : Words = d.word k in
    let pair : Words = put_word (2 * a + 2 + 1) y (put_word (2 * a + 2) z w) in
    let places : t ≡ with_words k pair d =
    words_then k (put_word (2 * a + 2) z w) (put_word (2 * a + 2 + 1) y) d (after_write k (2 * a + 2) z d) t refl e in
    words_then k pair (put_word (2 * a) first) d t u places f
    ∙ (λ j. with_words k (put_word (2 * a) first (words_swap (2 * a + 2 + 1) (2 * a + 2) y z w (λ e. omega arith) j)) d)
    ∙ (λ j. with_words k (put_word (2 * a) first (put_word (2 * a + 2) (b j) (put_word (last j) (i j) w))) d)
  where
    last : 2 * a + 2 + 1 ≡ 2 * a + 3
    last = omega arith

pub header_put : (k a first n body index y z : ℕ) (d t u : Table) →
    t ≡ after_write k (2 * a + 1) n (after_write k (2 * a) first d) →
    u ≡ after_write k (2 * a + 2 + 1) y (after_write k (2 * a + 2) z t) → y ≡ index → z ≡ body →
    u ≡ with_words k (headed a first body index (put_word (2 * a + 1) n (d.word k))) d
header_put k a first n body index y z d t u e f i b =
    let w : Words = d.word k in
    let counted : Words = put_word (2 * a + 1) n w in
    let one : Words = put_word (2 * a + 1) n (put_word (2 * a) first w) in
    let two : Words = put_word (2 * a + 2) z one in
    let first_two : t ≡ with_words k one d =
    words_then k (put_word (2 * a) first w) (put_word (2 * a + 1) n) d (after_write k (2 * a) first d) t refl e in
    let all : u ≡ with_words k (put_word (2 * a + 2 + 1) y two) d =
    words_then k two (put_word (2 * a + 2 + 1) y) d (after_write k (2 * a + 2) z t) u
    (words_then k one (put_word (2 * a + 2) z) d t (after_write k (2 * a + 2) z t) first_two refl) f in
    all ∙ (λ j. with_words k (put_word (2 * a + 2 + 1) y (put_word (2 * a + 2) z
    (words_swap (2 * a + 1) (2 * a) n first w (λ e. omega arith) j))) d)
    ∙ (λ j. with_words k (put_word (2 * a + 2 + 1) y
    (words_swap (2 * a + 2) (2 * a) z first counted (λ e. omega arith) j)) d)
    ∙ (λ j. with_words k
    (words_swap (2 * a + 2 + 1) (2 * a) y first (put_word (2 * a + 2) z counted) (λ e. omega arith) j) d)
    ∙ (λ j. with_words k (put_word (2 * a) first
    (words_swap (2 * a + 2 + 1) (2 * a + 2) y z counted (λ e. omega arith) j)) d)
    ∙ (λ j. with_words k (put_word (2 * a) first (put_word (2 * a + 2) (b j) (put_word (last j) (i j) counted))) d)
  where
    last : 2 * a + 2 + 1 ≡ 2 * a + 3
    last = omega arith
