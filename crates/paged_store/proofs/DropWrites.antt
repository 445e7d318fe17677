-- A pair that leaves the index of a dictionary and its body.
use Rattle.std.proofs.Common.{◌≡◌, ℕ, ◌+◌, ◌-◌, ◌*◌, ◌<◌, ◌≤◌, Bool, false, ◌||◌, ap, subst, sym, ◌∙◌, inl, inr, arith}
use Rattle.std.proofs.lemmas.Bool.{cases_Bool, or_left, or_right}
use Rattle.py_base.specs.declared.kind.Kind.TheVariants.{Dict}
use Rattle.py_data.specs.Heap.{has_bytes}
use Rattle.page_table.specs.Pages.{Table, after_write}
use Rattle.dict_index.specs.Index.{IsIndex}
use Rattle.dict_index.proofs.Right.{index_of}
use Rattle.dict_index.specs.Leaving.{skip}
use Rattle.paged_store.specs.Words.{Words, in_span, decode, kind_by, count_by, body_by, index_by, index_size}
use Rattle.paged_store.specs.inner.Indexed.{home_by, index_words, pairs_by, IsIndexed}
use Rattle.paged_store.specs.inner.Indexing.{words_from, Avoids, Puts, HasSlots, CanIndex, DropsIndexed, leave_places}
use Rattle.paged_store.specs.inner.Written.{put_word, slid, copied}
use Rattle.paged_store.specs.inner.Writing.{Desk, Wrote, Refused, Readied, CanPut, with_words, laid, with_count}
use Rattle.paged_store.proofs.DeskLemmas.{wrote_words}
use Rattle.paged_store.proofs.PutLemmas.{words_then, can_still}
use Rattle.paged_store.proofs.PutWords.{slid_miss}
use Rattle.paged_store.proofs.RecordWords.{kind_is, values_length}
use Rattle.paged_store.proofs.SlotWrites.{KeepsOff, heads, puts_off, slots_after}
use Rattle.paged_store.proofs.SpanLemmas.{span_bounds}
use Rattle.paged_store.proofs.WriteLemmas.{wrote_ready, slid_copied, count_off, laid_off, neither, can_of_may}

-- what is ready stands as it stood
pub ready_off : (k place n : ℕ) (t : ℕ → Bool) (a b : Desk) → Readied k t a b → KeepsOff k place n a.table b.table
ready_off k place n t a b r = record {
  reserved = r.wrote.same.reserved;
  segments = r.wrote.same.segments;
  off = λ p h. r.wrote.word p;
}

-- an index that was made ready can be written
pub can_ready : (k d place n : ℕ) (t : ℕ → Bool) (a b : Desk) →
    Readied k (λ p. in_span place n p || t p) a b → HasSlots k d place n a.table →
    CanIndex k d (index_by (b.table.word k) d) (index_size (b.table.word k) d) b.table
can_ready k d place n t a b r s =
    let h : HasSlots k d place n b.table = slots_after k place n a.table b.table
    (ready_off k place n (λ p. in_span place n p || t p) a b r) d s in
    let c : CanPut k place n b.table = can_of_may k place n b h.within
    (λ p i. r.may p (or_left (in_span place n p) (t p) i)) in
    subst (λ z. CanIndex k d z (index_size (b.table.word k) d) b.table) h.at
    (subst (λ z. CanIndex k d place z b.table) h.size (record { slots = h; may = c }))

-- the same by the place and the count that are told
pub can_slots : (k d place n : ℕ) (t : Table) → place ≡ index_by (t.word k) d → n ≡ index_size (t.word k) d →
    HasSlots k d (index_by (t.word k) d) (index_size (t.word k) d) t → HasSlots k d place n t
can_slots k d place n t e g s = subst (λ z. HasSlots k d z n t) (sym e)
    (subst (λ z. HasSlots k d (index_by (t.word k) d) z t) (sym g) s)

pub puts_ready : (k d place n : ℕ) (t : ℕ → Bool) (a b : Desk) → Readied k t a b → (c : Table) →
    place ≡ index_by (a.table.word k) d → n ≡ index_size (a.table.word k) d →
    Puts k (index_by (b.table.word k) d) (index_size (b.table.word k) d) b.table c → Puts k place n b.table c
puts_ready k d place n t a b r c e g x =
    let same : a.table.word k ≡ b.table.word k = sym (λ i p. r.wrote.word p i) in
    subst (λ z. Puts k z n b.table c) (sym (e ∙ ap (λ z. index_by z d) same))
    (subst (λ z. Puts k (index_by (b.table.word k) d) z b.table c) (sym (g ∙ ap (λ z. index_size z d) same)) x)

pub index_ready : (k d : ℕ) (t : ℕ → Bool) (a b : Desk) → Readied k t a b → IsIndexed (a.table.word k) d →
    IsIndex (home_by (b.table.word k) d) (index_size (b.table.word k) d) (index_words (b.table.word k) d)
    (pairs_by (b.table.word k) d)
index_ready k d t a b r x =
    let e : a.table.word k ≡ b.table.word k = sym (λ i p. r.wrote.word p i) in
    subst (λ z. IsIndex (home_by z d) (index_size z d) (index_words z d) (pairs_by z d)) e
    (index_of (home_by (a.table.word k) d) (index_size (a.table.word k) d) (index_words (a.table.word k) d)
    (pairs_by (a.table.word k) d) x)

pub pair_ready : (k d pair : ℕ) (t : ℕ → Bool) (a b : Desk) → Readied k t a b →
    (decode (a.table.word k) d).kind ≡ Dict → 2 * pair + 2 ≤ count_by (a.table.word k) d →
    pair < pairs_by (b.table.word k) d
pair_ready k d pair t a b r s h =
    let e : a.table.word k ≡ b.table.word k = sym (λ i p. r.wrote.word p i) in
    let none : has_bytes (kind_by (a.table.word k) d) ≡ false = ap has_bytes (sym (kind_is (a.table.word k) d) ∙ s) in
    subst (λ z. pair < pairs_by z d) e (omega (arith, values_length (a.table.word k) d none))

-- the body's words too, once the index was written
pub body_ready : (k index n d to moved : ℕ) (a b : Desk) (t : Table) →
    Readied k (λ p. in_span index n p || with_count d to moved p) a b → Puts k index n b.table t →
    to + moved ≤ b.table.reserved → CanPut k to moved t
body_ready k index n d to moved a b t r y l = can_still k to moved (t.word k) b.table t y.same
    (can_of_may k to moved b l (λ p i. r.may p (or_right (in_span index n p) (with_count d to moved p)
    (or_right (in_span (2 * d + 1) 1 p) (in_span to moved p) i))))

-- the places are those that are told
pub places_dropped : (k d pair to moved index n : ℕ) (a b : Desk) → to ≡ body_by (a.table.word k) d + 4 * pair →
    moved ≡ 2 * (count_by (a.table.word k) d - 2) - 4 * pair → index ≡ index_by (a.table.word k) d →
    n ≡ index_size (a.table.word k) d → Refused k (λ p. in_span index n p || with_count d to moved p) a b →
    Refused k (leave_places (a.table.word k) d pair) a b
places_dropped k d pair to moved index n a b et em ei es r =
    let P : ℕ → ℕ → ℕ → ℕ → Type 0 = λ p m q s. Refused k (λ o. in_span q s o || with_count d p m o) a b in
    let w : Words = a.table.word k in
    subst (λ z. P z (2 * (count_by w d - 2) - 4 * pair) (index_by w d) (index_size w d)) et
    (subst (λ z. P to z (index_by w d) (index_size w d)) em
    (subst (λ z. P to moved z (index_size w d)) ei (subst (P to moved index) es r)))

-- ---- what is written

module _ (k d index n to moved x : ℕ) (a b : Desk) (t u new : Table)
    (r : Readied k (λ p. in_span index n p || with_count d to moved p) a b) (y : Puts k index n b.table t)
    (eu : u ≡ with_words k (copied (to + 4) to moved (t.word k)) t) (en : new ≡ after_write k (2 * d + 1) x u) where
  over : Words → Words
  over w = laid index n (words_from (t.word k) index) w

  over_is : over (b.table.word k) ≡ t.word k
  unfolding over
  over_is = λ i p. at p i
    where
      at : (p : ℕ) → over (b.table.word k) p ≡ t.word k p
      at p = elim (cases_Bool (in_span index n p)) [
        | inl h ↦ rw h (ap (t.word k)
            (let s : (index ≤ p) × (p < index + n) = span_bounds index n p h in omega arith))
        | inr h ↦ rw h (sym (y.off p h))
      ]

  all_words : Words → Words
  all_words w = put_word (2 * d + 1) x (slid to moved 4 (over w))

  all_off : (w : Words) (p : ℕ) → (in_span index n p || with_count d to moved p) ≡ false → all_words w p ≡ w p
  unfolding over all_words
  all_off w p h =
      let q : (in_span index n p ≡ false) × (with_count d to moved p ≡ false) =
      neither (in_span index n p) (with_count d to moved p) h in
      count_off d to moved x p (slid to moved 4 (over w)) w
      (λ o. slid_miss to moved 4 p (over w) o ∙ laid_off index n p (words_from (t.word k) index) w q.0) q.1

  all_put : new ≡ with_words k (all_words (b.table.word k)) b.table
  unfolding all_words
  all_put = words_then k (slid to moved 4 (over (b.table.word k))) (put_word (2 * d + 1) x) b.table u new
      (words_then k (over (b.table.word k)) (slid to moved 4) b.table t u
      (y.same ∙ (λ i. with_words k (sym over_is i) b.table))
      (eu ∙ (λ i. with_words k (slid_copied to moved 4 (t.word k) i) t))) en

  same : b.table.word k ≡ a.table.word k
  same = λ i p. r.wrote.word p i

  all_wrote : Wrote k (put_word (2 * d + 1) x (slid to moved 4 (t.word k)))
      (λ p. in_span index n p || with_count d to moved p) a (record { table = new; draft = b.draft })
  unfolding all_words
  all_wrote = wrote_words k (all_words (a.table.word k)) (put_word (2 * d + 1) x (slid to moved 4 (t.word k)))
      (λ p. in_span index n p || with_count d to moved p) a (record { table = new; draft = b.draft })
      (λ p. ap (λ z. put_word (2 * d + 1) x (slid to moved 4 z) p) (ap over (sym same) ∙ over_is))
      (wrote_ready k (λ p. in_span index n p || with_count d to moved p) a b new all_words r all_put all_off)

  pub pair_dropped : (pair : ℕ) → HasSlots k d index n a.table → to ≡ body_by (a.table.word k) d + 4 * pair →
      x ≡ count_by (a.table.word k) d - 2 →
      moved ≡ 2 * x - 4 * pair → index ≡ index_by (a.table.word k) d → n ≡ index_size (a.table.word k) d →
      IsIndex (λ j. home_by (b.table.word k) d (skip pair j)) (index_size (b.table.word k) d)
      (words_from (t.word k) (index_by (b.table.word k) d)) (pairs_by (b.table.word k) d - 1) →
      DropsIndexed k d pair a (record { table = new; draft = b.draft })
  pair_dropped pair s et ex em ei es i =
      let w : Words = a.table.word k in
      let o : Avoids (b.table.word k) index n d =
      (slots_after k index n a.table b.table (ready_off k index n _ a b r) d s).apart in
      let body : body_by w d ≡ body_by (t.word k) d =
      ap (λ z. body_by z d) (sym same) ∙ (heads k index n b.table t (puts_off k index n b.table t y) d o).body in
      let P : ℕ → ℕ → ℕ → ℕ → ℕ → ℕ → Type 0 = λ u p m z q s.
      Wrote k (put_word (2 * d + 1) z (slid u m 4 (t.word k))) (λ o. in_span q s o || with_count d p m o) a
      (record { table = new; draft = b.draft }) in
      record {
        words = t.word k;
        off = λ p h. y.off p ((λ z. in_span (ei z) (es z) p) ∙ h) ∙ r.wrote.word p;
        index = subst (λ z. IsIndex (λ j. home_by z d (skip pair j)) (index_size z d)
            (words_from (t.word k) (index_by z d)) (pairs_by z d - 1)) same i;
        wrote =
            let num : ℕ = count_by w d - 2 in
            let size : ℕ = index_size w d in
            subst (λ z. P z (body_by w d + 4 * pair) (2 * num - 4 * pair) num (index_by w d) size)
            (et ∙ ap (λ z. z + 4 * pair) body)
            (subst (λ z. P to z (2 * num - 4 * pair) num (index_by w d) size) et
            (subst (λ z. P to to (2 * z - 4 * pair) z (index_by w d) size) ex
            (subst (λ z. P to to z x (index_by w d) size) em
            (subst (λ z. P to to moved x z size) ei (subst (P to to moved x index) es all_wrote)))));
      }
