-- What is said of a record depends on the words of its own places alone.
use Rattle.std.proofs.Common.{ap, ◌≡◌, ℕ, suc, ◌+◌, ◌*◌, ◌<◌, true, cond, ltb, refl, sym, ◌∙◌, inl, inr, arith, ◌%◌, subst}
use Rattle.std.proofs.lemmas.Bool.Decides.{leb_tells}
use Rattle.paged_store.specs.Words.{Words, clipped, record_of, decode, size_of, class_in, count_by, body_by, index_by, body_size, body_words, in_head, in_body, in_index, in_record}
use Rattle.paged_store.specs.inner.Formed.{Formed, Lays, AgreeOn}
use Rattle.paged_store.proofs.SpanLemmas.{in_span_at, head_at, head_first, in_first, in_second, in_third}

pub clipped_same : (n : ℕ) (f g : Words) → ((j : ℕ) → j < n → f j ≡ g j) → clipped n f ≡ clipped n g
unfolding clipped
clipped_same n f g h = λ i j. (elim (leb_tells (suc j) n) as (λ z. cond (ltb j n) (f j) 0 ≡ cond (ltb j n) (g j) 0)
    [ inl e ↦ rw e.0 (h j e.1) | inr e ↦ rw e.0 refl ]) i

-- the header's words are the same
pub record HeadSame (w v : Words) (a : ℕ) : Type 0 where
  pub first : w (2 * a) ≡ v (2 * a)
  pub count : count_by w a ≡ count_by v a
  pub body : body_by w a ≡ body_by v a
  pub index : index_by w a ≡ index_by v a

pub head_same : (w v : Words) (a : ℕ) → ((p : ℕ) → in_head a p ≡ true → w p ≡ v p) → HeadSame w v a
head_same w v a h = record {
  first = h (2 * a) (head_first a);
  count = h (2 * a + 1) (head_at a 1 (omega arith));
  body = h (2 * a + 2) (head_at a 2 (omega arith));
  index = h (2 * a + 3) (head_at a 3 (omega arith));
}

-- the same header over other words: its places are the same
pub body_places : (w v : Words) (a p : ℕ) → HeadSame w v a → in_body w a p ≡ in_body v a p
body_places w v a p s = rw (s.first, s.body) refl

pub index_places : (w v : Words) (a p : ℕ) → HeadSame w v a → in_index w a p ≡ in_index v a p
index_places w v a p s = rw (s.first, s.index) refl

pub places_same : (w v : Words) (a p : ℕ) → HeadSame w v a → in_record w a p ≡ in_record v a p
places_same w v a p s = rw (s.first, s.body, s.index) refl

pub formed_same : (w v : Words) (a : ℕ) → HeadSame w v a → Formed w a → Formed v a
formed_same w v a s f = record {
  class = rw s.first at f.class;
  first = rw s.first at f.first;
  index = rw s.first at f.index;
  holds = rw (s.first, s.count) at f.holds;
  even = λ h. sym (ap (λ z. z % 2) s.body) ∙ f.even (subst (λ x. 0 < size_of (class_in x)) (sym s.first) h);
}

-- the same places, whatever the count
pub lays_moved : (own role w v : Words) (a : ℕ) → w (2 * a) ≡ v (2 * a) → body_by w a ≡ body_by v a →
    index_by w a ≡ index_by v a → Lays own role w a → Lays own role v a
lays_moved own role w v a first body index l = record {
  head = l.head;
  body = λ p h. rw first at (l.body p (rw (first, body) h));
  index = λ p h. rw first at (l.index p (rw (first, index) h));
}

pub lays_same : (own role w v : Words) (a : ℕ) → HeadSame w v a → Lays own role w a → Lays own role v a
lays_same own role w v a s l = lays_moved own role w v a s.first s.body s.index l

-- ---- words that agree on a record's places

pub decode_same : (w v : Words) (a : ℕ) → ((p : ℕ) → in_head a p ≡ true → w p ≡ v p) →
    ((p : ℕ) → in_body w a p ≡ true → w p ≡ v p) → decode w a ≡ decode v a
unfolding decode
decode_same w v a head body =
    let h : HeadSame w v a = head_same w v a head in
    let b : body_words w a ≡ clipped (body_size w a) (λ j. v (body_by w a + j)) =
    clipped_same (body_size w a) (λ j. w (body_by w a + j)) (λ j. v (body_by w a + j))
    (λ j l. body (body_by w a + j) (in_span_at (body_by w a) (body_size w a) j l)) in
    λ i. record_of (h.first i) (h.count i) ((b ∙ (λ z. clipped (size_of (class_in (h.first z)))
    (λ j. v (h.body z + j)))) i)

pub decode_agrees : (w v : Words) (a : ℕ) → AgreeOn w v a → decode w a ≡ decode v a
decode_agrees w v a s = decode_same w v a s.head s.body

pub places_agree : (w v : Words) (a p : ℕ) → AgreeOn w v a → in_record w a p ≡ in_record v a p
places_agree w v a p s = places_same w v a p (head_same w v a s.head)

pub formed_agrees : (w v : Words) (a : ℕ) → AgreeOn w v a → Formed w a → Formed v a
formed_agrees w v a s = formed_same w v a (head_same w v a s.head)

pub lays_agrees : (own role w v : Words) (a : ℕ) → AgreeOn w v a → Lays own role w a → Lays own role v a
lays_agrees own role w v a s = lays_same own role w v a (head_same w v a s.head)

pub agree_back : (w v : Words) (a : ℕ) → AgreeOn w v a → AgreeOn v w a
agree_back w v a s =
    let h : HeadSame w v a = head_same w v a s.head in
    record {
      head = λ p i. sym (s.head p i);
      body = λ p i. sym (s.body p (body_places w v a p h ∙ i));
      index = λ p i. sym (s.index p (index_places w v a p h ∙ i));
    }

-- words that agree on what belongs to a record agree on its places
pub agree_on_own : (own role w v : Words) (a : ℕ) → Lays own role w a → ((p : ℕ) → own p ≡ a → w p ≡ v p) →
    AgreeOn w v a
agree_on_own own role w v a l h = record {
  head = λ p i. h p (l.head p i).0;
  body = λ p i. h p (l.body p i).0;
  index = λ p i. h p (l.index p i).0;
}

pub agree_on_places : (w v : Words) (a : ℕ) → ((p : ℕ) → in_record w a p ≡ true → w p ≡ v p) → AgreeOn w v a
agree_on_places w v a h = record {
  head = λ p i. h p (in_first (in_head a p) (in_body w a p) (in_index w a p) i);
  body = λ p i. h p (in_second (in_head a p) (in_body w a p) (in_index w a p) i);
  index = λ p i. h p (in_third (in_head a p) (in_body w a p) (in_index w a p) i);
}
