-- Words that are put into the index of a dictionary.
use Rattle.std.proofs.Common.{◌≡◌, ℕ, ◌+◌, ◌*◌, ◌/◌, ◌<◌, ◌≤◌, true, length, Some, refl, false, sym, ap, subst, ◌∙◌, inl, inr, arith}
use Rattle.std.proofs.lemmas.Bool.{both_ways}
use Rattle.std.proofs.lemmas.Bool.Decides.{eqb_tells}
use Rattle.py_data.specs.declared.value.Value.{Value}
use Rattle.py_data.specs.declared.value.Value.TheVariants.{Unset, None as NoneValue, Bool as BoolValue, Int, Ref, Builtin}
use Rattle.py_data.specs.Heap.{value_at}
use Rattle.py_data.specs.Shape.{text_in}
use Rattle.page_table.specs.Pages.{Table, after_write}
use Rattle.dict_index.specs.Slots.{put}
use Rattle.dict_index.specs.Keys.{home_of, text_or_name}
use Rattle.paged_store.specs.declared.sight.Seen.TheVariants.{Segment}
use Rattle.paged_store.specs.Words.{in_span, size_of, class_in, decode, index_class_in, index_size, body_by, body_size, in_head, in_body}
use Rattle.paged_store.specs.inner.Indexed.{class_by, home_by, pairs_by}
use Rattle.paged_store.specs.inner.Indexing.{words_from, Avoids, KeyAvoids, HasSlots, CanIndex, Puts}
use Rattle.paged_store.specs.inner.Sight.{Stands, IsKeySeen}
use Rattle.paged_store.specs.inner.Writing.{CanPut, with_words}
use Rattle.paged_store.specs.inner.Written.{put_word}
use Rattle.paged_store.proofs.FrameLemmas.{HeadSame, head_same, formed_same, body_places, decode_same}
use Rattle.paged_store.proofs.PartLemmas.{false_from}
use Rattle.paged_store.proofs.PutLemmas.{words_at, words_none, words_then, can_still}
use Rattle.paged_store.proofs.PutWords.{put_miss}
use Rattle.paged_store.proofs.SpanLemmas.{in_span_at}

-- ---- words of a span

pub puts_none : (k place n : ℕ) (t : Table) → Puts k place n t t
puts_none k place n t = record { same = words_none k t; off = λ p h. refl }

pub puts_then : (k place n : ℕ) (a b c : Table) → Puts k place n a b → Puts k place n b c → Puts k place n a c
puts_then k place n a b c x y = record {
  same = words_then k (b.word k) (λ w. c.word k) a b c x.same y.same;
  off = λ p h. y.off p h ∙ x.off p h;
}

pub puts_can : (k place n : ℕ) (a b : Table) → Puts k place n a b → CanPut k place n a → CanPut k place n b
puts_can k place n a b x c = can_still k place n (b.word k) a b x.same c

word_put : (k p x : ℕ) (a b : Table) → b ≡ after_write k p x a → b.word k ≡ put_word p x (a.word k)
word_put k p x a b e = ap (λ t. t.word k) e ∙ words_at k (put_word p x (a.word k)) a

pub puts_word : (k place n s x : ℕ) (a b : Table) → s < n → b ≡ after_write k (place + s) x a → Puts k place n a b
puts_word k place n s x a b l e =
    let w : b.word k ≡ put_word (place + s) x (a.word k) = word_put k (place + s) x a b e in
    record {
      same = e ∙ (λ i. with_words k (sym w i) a);
      off = λ p h. ap (λ v. v p) w ∙ put_miss (place + s) p x (a.word k) (λ g. both_ways (in_span place n p) h
          (ap (in_span place n) g ∙ in_span_at place n s l));
    }

-- the words of the span have another one in a slot
pub slot_put : (k place s x : ℕ) (a b : Table) → b ≡ after_write k (place + s) x a →
    words_from (b.word k) place ≡ put s x (words_from (a.word k) place)
slot_put k place s x a b e = (λ i t. word_put k (place + s) x a b e i (place + t)) ∙ (λ i t. at t i)
  where
    at : (t : ℕ) → put_word (place + s) x (a.word k) (place + t) ≡ put s x (words_from (a.word k) place) t
    at t = elim (eqb_tells t s) [
      | inl h ↦ elim (eqb_tells (place + t) (place + s)) [
        | inl g ↦ rw (g.0, h.0) refl
        | inr g ↦ absurd (g.1 (ap (λ z. place + z) h.1))
      ]
      | inr h ↦ elim (eqb_tells (place + t) (place + s)) [
        | inl g ↦ absurd (h.1 (let e = g.1 in omega arith))
        | inr g ↦ rw (g.0, h.0) refl
      ]
    ]

-- ---- what is read elsewhere

-- the words of segment k outside a span are as they were
pub record KeepsOff (k place n : ℕ) (a b : Table) : Type 0 where
  pub reserved : b.reserved ≡ a.reserved
  pub segments : b.segments ≡ a.segments
  pub off : (p : ℕ) → in_span place n p ≡ false → b.word k p ≡ a.word k p

pub puts_off : (k place n : ℕ) (a b : Table) → Puts k place n a b → KeepsOff k place n a b
puts_off k place n a b x = record {
  reserved = ap (λ t. t.reserved) x.same;
  segments = ap (λ t. t.segments) x.same;
  off = x.off;
}

module _ (k place n : ℕ) (a b : Table) (x : KeepsOff k place n a b) where
  head_after : (r : ℕ) → Avoids (a.word k) place n r → (p : ℕ) → in_head r p ≡ true → a.word k p ≡ b.word k p
  head_after r o p h = sym (x.off p (false_from (in_span place n p) (λ i. both_ways (in_head r p) (o.head p i) h)))

  body_after : (r : ℕ) → Avoids (a.word k) place n r → (p : ℕ) → in_body (a.word k) r p ≡ true →
      a.word k p ≡ b.word k p
  body_after r o p h =
      sym (x.off p (false_from (in_span place n p) (λ i. both_ways (in_body (a.word k) r p) (o.body p i) h)))

  pub heads : (r : ℕ) → Avoids (a.word k) place n r → HeadSame (a.word k) (b.word k) r
  heads r o = head_same (a.word k) (b.word k) r (head_after r o)

  pub record_after : (r : ℕ) → Avoids (a.word k) place n r → decode (b.word k) r ≡ decode (a.word k) r
  record_after r o = sym (decode_same (a.word k) (b.word k) r (head_after r o) (body_after r o))

  stands_after : (r : ℕ) → Avoids (a.word k) place n r → Stands (a.word k) a.reserved r →
      Stands (b.word k) b.reserved r
  stands_after r o s =
      let h : HeadSame (a.word k) (b.word k) r = heads r o in
      let body : body_by (a.word k) r ≡ body_by (b.word k) r = h.body in
      let size : body_size (a.word k) r ≡ body_size (b.word k) r = ap (λ z. size_of (class_in z)) h.first in
      record {
        head = omega (arith, s.head, x.reserved);
        body = λ some. (let l : body_by (a.word k) r + body_size (a.word k) r ≤ a.reserved =
            s.body (subst (λ z. 0 < z) (sym size) some) in omega (arith, l, x.reserved, body, size));
        formed = formed_same (a.word k) (b.word k) r h s.formed;
      }

  avoids_after : (r : ℕ) → Avoids (a.word k) place n r → Avoids (b.word k) place n r
  avoids_after r o = record {
    head = o.head;
    body = λ p i. sym (body_places (a.word k) (b.word k) r p (heads r o)) ∙ o.body p i;
  }

  key_avoids_after : (v : Value) → KeyAvoids (a.word k) place n v → KeyAvoids (b.word k) place n v
  key_avoids_after (Ref r) o = avoids_after r.0 o
  key_avoids_after Unset o = o
  key_avoids_after NoneValue o = o
  key_avoids_after (BoolValue q) o = o
  key_avoids_after (Int i) o = o
  key_avoids_after (Builtin q) o = o

  pub class_after : (v : Value) → KeyAvoids (a.word k) place n v → class_by (b.word k) v ≡ class_by (a.word k) v
  class_after (Ref r) o = λ i. text_or_name r.0 (text_in (Some (record_after r.0 o i)))
  class_after Unset o = refl
  class_after NoneValue o = refl
  class_after (BoolValue q) o = refl
  class_after (Int i) o = refl
  class_after (Builtin q) o = refl

  key_seen_after : (v : Value) → KeyAvoids (a.word k) place n v → IsKeySeen a (Segment k) v →
      IsKeySeen b (Segment k) v
  key_seen_after (Ref r) o s = record {
    segment = subst (λ z. k < z) (sym x.segments) s.segment;
    stands = stands_after r.0 o s.stands;
  }
  key_seen_after Unset o s = s
  key_seen_after NoneValue o s = s
  key_seen_after (BoolValue q) o s = s
  key_seen_after (Int i) o s = s
  key_seen_after (Builtin q) o s = s

  -- ---- of the dictionary

  module _ (d : ℕ) (c : HasSlots k d place n a) where
    pub size_after : index_size (b.word k) d ≡ index_size (a.word k) d
    size_after = sym (ap (λ z. size_of (index_class_in z)) (heads d c.apart).first)

    value_after : (i : ℕ) → value_at (decode (b.word k) d).values i ≡ value_at (decode (a.word k) d).values i
    value_after i = ap (λ r. value_at r.values i) (record_after d c.apart)

    pub homes_after : home_by (b.word k) d ≡ home_by (a.word k) d
    homes_after = λ i j. at j i
      where
        at : (j : ℕ) → home_by (b.word k) d j ≡ home_by (a.word k) d j
        at j = ap (λ m. home_of m (class_by (b.word k) (value_at (decode (b.word k) d).values (2 * j)))) size_after ∙
            ap (λ v. home_of (index_size (a.word k) d) (class_by (b.word k) v)) (value_after (2 * j)) ∙
            ap (home_of (index_size (a.word k) d))
            (class_after (value_at (decode (a.word k) d).values (2 * j)) (c.keys_apart j))

    pub pairs_after : pairs_by (b.word k) d ≡ pairs_by (a.word k) d
    pairs_after = ap (λ r. length r.values / 2) (record_after d c.apart)

    pub slots_after : HasSlots k d place n b
    slots_after = record {
      segment = subst (λ z. k < z) (sym x.segments) c.segment;
      stands = stands_after d c.apart c.stands;
      kind = ap (λ r. r.kind) (record_after d c.apart) ∙ c.kind;
      at = c.at ∙ (heads d c.apart).index;
      size = c.size ∙ sym size_after;
      within = subst (λ z. place + n ≤ z) (sym x.reserved) c.within;
      keys = record {
        each = λ j l. subst (IsKeySeen b (Segment k)) (sym (value_after (2 * j)))
            (key_seen_after (value_at (decode (a.word k) d).values (2 * j)) (c.keys_apart j)
            (c.keys.each j (subst (λ z. 2 * j + 1 < z) (ap (λ r. length r.values) (record_after d c.apart)) l)));
      };
      apart = avoids_after d c.apart;
      keys_apart = λ j. subst (KeyAvoids (b.word k) place n) (sym (value_after (2 * j)))
          (key_avoids_after (value_at (decode (a.word k) d).values (2 * j)) (c.keys_apart j));
    }

-- ---- the same where words are put into the index

module _ (k place n : ℕ) (a b : Table) (x : Puts k place n a b) (d : ℕ) (c : HasSlots k d place n a) where
  pub homes_put : home_by (b.word k) d ≡ home_by (a.word k) d
  homes_put = homes_after k place n a b (puts_off k place n a b x) d c

  pub pairs_put : pairs_by (b.word k) d ≡ pairs_by (a.word k) d
  pairs_put = pairs_after k place n a b (puts_off k place n a b x) d c

pub can_put : (k place n : ℕ) (a b : Table) → Puts k place n a b → (d : ℕ) → CanIndex k d place n a →
    CanIndex k d place n b
can_put k place n a b x d c = record {
  slots = slots_after k place n a b (puts_off k place n a b x) d c.slots;
  may = puts_can k place n a b x c.may;
}
