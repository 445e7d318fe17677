-- Pairs that leave the index of a dictionary.
use Rattle.std.proofs.Common.{◌≡◌, ◌≢◌, ◌⊎◌, ℕ, ◌+◌, ◌-◌, ◌*◌, ◌<◌, ◌≤◌, refl, sym, ap, subst, ◌∙◌, inl, inr, arith}
use Rattle.std.proofs.lemmas.Bool.Decides.{eqb_tells}
use Rattle.py_data.specs.declared.value.Value.{Value}
use Rattle.py_data.specs.Heap.{value_at}
use Rattle.page_table.specs.Pages.{Table, after_write}
use Rattle.dict_index.specs.Slots.{slot, steps, put}
use Rattle.dict_index.specs.Keys.{home_of}
use Rattle.dict_index.specs.Index.{IsIndex, Stands}
use Rattle.dict_index.specs.Leaving.{Closing, Gapped, lowered, skip}
use Rattle.dict_index.proofs.Closing.{stays, moves, emptied}
use Rattle.dict_index.proofs.Frame.{frame_law}
use Rattle.dict_index.proofs.Lowering.{lowered_is, leave_law}
use Rattle.dict_index.proofs.Put.{put_same, put_other}
use Rattle.paged_store.specs.Words.{decode}
use Rattle.paged_store.specs.inner.Indexed.{class_by, home_by, pairs_by}
use Rattle.paged_store.specs.inner.Indexing.{words_from, HasSlots, Puts}
use Rattle.paged_store.proofs.SlotWrites.{puts_then, puts_word, slot_put}
use Rattle.paged_store.proofs.EnterLemmas.{slots_room, homes_within, home_is}

-- ---- numbers that fall

-- the first s numbers have fallen, and the others stand as before
pub record Fallen (k place n s above : ℕ) (a b : Table) : Type 0 where
  pub puts : Puts k place n a b
  pub below : (t : ℕ) → t < s → words_from (b.word k) place t ≡ lowered above (words_from (a.word k) place t)
  pub rest : (t : ℕ) → s ≤ t → words_from (b.word k) place t ≡ words_from (a.word k) place t

lowered_more : (above x : ℕ) → above < x → lowered above x ≡ x - 1
lowered_more above x h = elim (lowered_is above x) [ inl y ↦ y.1 | inr y ↦ absurd (omega arith) ]

lowered_less : (above x : ℕ) → x ≤ above → lowered above x ≡ x
lowered_less above x h = elim (lowered_is above x) [ inl y ↦ absurd (omega arith) | inr y ↦ y.1 ]

last_or : (s t : ℕ) → t < s + 1 → (t ≡ s) ⊎ (t < s)
last_or s t l = elim (eqb_tells t s) [ inl h ↦ inl h.1 | inr h ↦ inr (let ne = h.1 in omega arith) ]

pub one_falls : (k place n s above word : ℕ) (a b c : Table) → s < n → Fallen k place n s above a b →
    word ≡ b.word k (place + s) → above < word → c ≡ after_write k (place + s) (word - 1) b →
    Fallen k place n (s + 1) above a c
one_falls k place n s above word a b c l f e h w = record {
  puts = puts_then k place n a b c f.puts (puts_word k place n s (word - 1) b c l w);
  below = λ t m. elim (last_or s t m) [
    | inl g ↦ at t ∙ put_same s t (word - 1) (words_from (b.word k) place) g ∙ sym (lowered_more above word h) ∙
        ap (lowered above) (e ∙ ap (words_from (b.word k) place) (sym g) ∙ f.rest t (omega arith))
    | inr g ↦ at t ∙ put_other s t (word - 1) (words_from (b.word k) place) (λ q. omega arith) ∙ f.below t g
  ];
  rest = λ t m. at t ∙ put_other s t (word - 1) (words_from (b.word k) place) (λ q. omega arith) ∙
      f.rest t (omega arith);
}
  where
    at : (t : ℕ) → words_from (c.word k) place t ≡ put s (word - 1) (words_from (b.word k) place) t
    at t = ap (λ v. v t) (slot_put k place s (word - 1) b c w)

pub one_stays : (k place n s above word : ℕ) (a b : Table) → Fallen k place n s above a b →
    word ≡ b.word k (place + s) → word ≤ above → Fallen k place n (s + 1) above a b
one_stays k place n s above word a b f e h = record {
  puts = f.puts;
  below = λ t m. elim (last_or s t m) [
    | inl g ↦ ap (words_from (b.word k) place) g ∙ sym e ∙ sym (lowered_less above word h) ∙
        ap (lowered above) (e ∙ ap (words_from (b.word k) place) (sym g) ∙ f.rest t (omega arith))
    | inr g ↦ f.below t g
  ];
  rest = λ t m. f.rest t (omega arith);
}

-- ---- one slot more

module _ (home : ℕ → ℕ) (n : ℕ) (w : ℕ → ℕ) (m hole at from word : ℕ) (g : word ≡ w at) (f : w at ≢ 0)
    (h : from ≡ home (word - 1)) where
  from_is : (start j : ℕ) → at ≡ slot n start j → from ≡ home (w (slot n start j) - 1)
  from_is start j e = h ∙ ap (λ z. home (z - 1)) (g ∙ ap w e)

  pub pull_stays : (p start j : ℕ) → steps n from at < steps n hole at → start < n → j < n → at ≡ slot n start j →
      Closing home n w m p start hole j → Closing home n w m p start hole (j + 1)
  pull_stays p start j near l k e c = stays home n w m p start hole j from c l k (subst (λ z. w z ≢ 0) e f)
      (from_is start j e) (subst (λ z. steps n from z < steps n hole z) e near)

  pub pull_moves : (p start j : ℕ) → ((i : ℕ) → i < m → home i < n) → steps n hole at ≤ steps n from at → start < n →
      j < n → at ≡ slot n start j → Closing home n w m p start hole j →
      Closing home n (put hole word w) m p start at (j + 1)
  pull_moves p start j b far l k e c = subst (λ z. Closing home n (put hole z w) m p start at (j + 1)) (sym g)
      (subst (λ z. Closing home n (put hole (w z) w) m p start z (j + 1)) (sym e)
      (moves home n w m p start hole j from b c l k (subst (λ z. w z ≢ 0) e f) (from_is start j e)
      (subst (λ z. steps n hole z ≤ steps n from z) e far)))

-- ---- a dictionary's index

-- where the number of a pair is looked for
pub pair_stands : (k d place n start j : ℕ) (v : Value) (t : Table) → HasSlots k d place n t →
    IsIndex (home_by (t.word k) d) n (words_from (t.word k) place) (pairs_by (t.word k) d) →
    j < pairs_by (t.word k) d → v ≡ value_at (decode (t.word k) d).values (2 * j) →
    start ≡ home_of n (class_by (t.word k) v) → (e : ℕ) × Stands n (words_from (t.word k) place) start j e
pair_stands k d place n start j v t c x l e h =
    let q : (e : ℕ) × Stands n (words_from (t.word k) place) (home_by (t.word k) d j) j e = x.each j l in
    (q.0, subst (λ z. Stands n (words_from (t.word k) place) z j q.0) (sym (home_is k d place n t c j start v e h)) q.1)

-- what is closed stays so by other homes and counts that are the same
pub closing_by : (home other : ℕ → ℕ) (n : ℕ) (w : ℕ → ℕ) (m o p start hole j : ℕ) → home ≡ other → m ≡ o →
    Closing home n w m p start hole j → Closing other n w o p start hole j
closing_by home other n w m o p start hole j e g c = subst (λ z. Closing z n w o p start hole j) e
    (subst (λ z. Closing home n w z p start hole j) g c)

pub gap_closed : (k d place n p start hole j : ℕ) (a b c : Table) → HasSlots k d place n a → Puts k place n a b →
    Closing (home_by (a.word k) d) n (words_from (b.word k) place) (pairs_by (a.word k) d) p start hole j →
    start < n → j < n → b.word k (place + slot n start j) ≡ 0 → c ≡ after_write k (place + hole) 0 b →
    Gapped (home_by (a.word k) d) n (words_from (c.word k) place) (pairs_by (a.word k) d) p
gap_closed k d place n p start hole j a b c i x q l m z w =
    subst (λ v. Gapped (home_by (a.word k) d) n v (pairs_by (a.word k) d) p) (sym (slot_put k place hole 0 b c w))
    (emptied (home_by (a.word k) d) n (words_from (b.word k) place) (pairs_by (a.word k) d) p start hole j
    (λ r s. homes_within k d place n a i r) q l m z)

-- the pair is gone once the later numbers have fallen
pub pair_left : (k d place n p : ℕ) (a b c : Table) → HasSlots k d place n a → p < pairs_by (a.word k) d →
    Gapped (home_by (a.word k) d) n (words_from (b.word k) place) (pairs_by (a.word k) d) p →
    ((s : ℕ) → s < n → words_from (c.word k) place s ≡ lowered (p + 1) (words_from (b.word k) place s)) →
    IsIndex (λ j. home_by (a.word k) d (skip p j)) n (words_from (c.word k) place) (pairs_by (a.word k) d - 1)
pair_left k d place n p a b c i l g f =
    frame_law (λ j. home_by (a.word k) d (skip p j)) (λ j. home_by (a.word k) d (skip p j)) n
    (pairs_by (a.word k) d - 1) (λ s. lowered (p + 1) (words_from (b.word k) place s)) (words_from (c.word k) place)
    (omega (arith, slots_room k d place n a i)) (λ j m. homes_within k d place n a i (skip p j))
    (leave_law (home_by (a.word k) d) n (words_from (b.word k) place) (pairs_by (a.word k) d) p l
    (λ j m. homes_within k d place n a i j) g) f (λ j m. refl)
