-- Pairs that are entered in the index of a dictionary.
use Rattle.std.proofs.Common.{◌≡◌, ℕ, ◌+◌, ◌*◌, ◌^◌, ◌<◌, ◌≤◌, sym, ap, subst, ◌∙◌, arith}
use Rattle.py_data.specs.declared.value.Value.{Value}
use Rattle.py_data.specs.Heap.{value_at}
use Rattle.page_table.specs.Pages.{Table, after_write}
use Rattle.dict_index.specs.Keys.{home_of}
use Rattle.dict_index.specs.Index.{IsIndex, FirstEmpty, IsBlank}
use Rattle.dict_index.proofs.Entering.{blank_law, enter_law}
use Rattle.dict_index.proofs.Homes.{home_within}
use Rattle.dict_index.proofs.Right.{right_of}
use Rattle.paged_store.specs.Words.{decode, index_by, index_size}
use Rattle.paged_store.specs.inner.Indexed.{class_by, home_by, index_words, pairs_by, IsIndexed}
use Rattle.paged_store.specs.inner.Indexing.{words_from, HasSlots, CanIndex, Puts}
use Rattle.paged_store.proofs.IndexLemmas.{index_most, index_room}
use Rattle.paged_store.proofs.SlotWrites.{slot_put, puts_off, homes_put, pairs_put, slots_after}

-- ---- an index that can be written

module _ (k d place n : ℕ) (t : Table) (c : HasSlots k d place n t) where
  pub slots_room : pairs_by (t.word k) d < n
  slots_room = omega (arith, c.size, index_room (t.word k) d c.kind c.stands.formed)

  pub slots_most : n ≤ 2 ^ 20
  slots_most = omega (arith, c.size, index_most (t.word k) d c.kind c.stands.formed)

  pub homes_within : (j : ℕ) → home_by (t.word k) d j < n
  homes_within j = subst (λ z. home_by (t.word k) d j < z) (sym c.size)
      (home_within (index_size (t.word k) d) (class_by (t.word k) (value_at (decode (t.word k) d).values (2 * j)))
      (omega (arith, slots_room, c.size)))

  -- the home of a pair's key
  pub home_is : (j start : ℕ) (v : Value) → v ≡ value_at (decode (t.word k) d).values (2 * j) →
      start ≡ home_of n (class_by (t.word k) v) → start ≡ home_by (t.word k) d j
  home_is j start v e h = h ∙ (λ i. home_of (c.size i) (class_by (t.word k) (e i)))

-- the same by the place and the count that are told
pub can_index_by : (k d place n : ℕ) (t : Table) → place ≡ index_by (t.word k) d → n ≡ index_size (t.word k) d →
    CanIndex k d (index_by (t.word k) d) (index_size (t.word k) d) t → CanIndex k d place n t
can_index_by k d place n t e g c = subst (λ z. CanIndex k d z n t) (sym e)
    (subst (λ z. CanIndex k d (index_by (t.word k) d) z t) (sym g) c)

-- ---- a pair more

pub entered : (k d place n m start s : ℕ) (v : Value) (a b : Table) → HasSlots k d place n a →
    IsIndex (home_by (a.word k) d) n (words_from (a.word k) place) m →
    v ≡ value_at (decode (a.word k) d).values (2 * m) → start ≡ home_of n (class_by (a.word k) v) →
    FirstEmpty n (words_from (a.word k) place) start s → b ≡ after_write k (place + s) (m + 1) a →
    IsIndex (home_by (a.word k) d) n (words_from (b.word k) place) (m + 1)
entered k d place n m start s v a b c i e h f w =
    subst (λ z. IsIndex (home_by (a.word k) d) n z (m + 1)) (sym (slot_put k place s (m + 1) a b w))
    (enter_law (home_by (a.word k) d) n (words_from (a.word k) place) m s
    (λ j l. homes_within k d place n a c j) i
    (subst (λ z. FirstEmpty n (words_from (a.word k) place) z s) (home_is k d place n a c m start v e h) f))

-- ---- all pairs

-- an index whose words are the index of all pairs
pub indexed_after : (k d place n : ℕ) (a b : Table) → HasSlots k d place n a → Puts k place n a b →
    IsIndex (home_by (a.word k) d) n (words_from (b.word k) place) (pairs_by (a.word k) d) → IsIndexed (b.word k) d
indexed_after k d place n a b c x i =
    let y : HasSlots k d place n b = slots_after k place n a b (puts_off k place n a b x) d c in
    let P : (ℕ → ℕ) → ℕ → ℕ → ℕ → Type 0 = λ h m p q. IsIndex h m (words_from (b.word k) p) q in
    right_of (home_by (b.word k) d) (index_size (b.word k) d) (index_words (b.word k) d) (pairs_by (b.word k) d)
    (λ j l. subst (λ z. home_by (b.word k) d j < z) y.size (homes_within k d place n b y j))
    (subst (λ z. P (home_by (b.word k) d) (index_size (b.word k) d) z (pairs_by (b.word k) d)) y.at
    (subst (λ z. P (home_by (b.word k) d) z place (pairs_by (b.word k) d)) y.size
    (subst (λ z. P (home_by (b.word k) d) n place z) (sym (pairs_put k place n a b x d c))
    (subst (λ z. P z n place (pairs_by (a.word k) d)) (sym (homes_put k place n a b x d c)) i))))

pub blank_begins : (k d place n : ℕ) (t : Table) → place ≡ index_by (t.word k) d → n ≡ index_size (t.word k) d →
    IsBlank (index_size (t.word k) d) (index_words (t.word k) d) →
    IsIndex (home_by (t.word k) d) n (words_from (t.word k) place) 0
blank_begins k d place n t e g b = blank_law (home_by (t.word k) d) n (words_from (t.word k) place)
    (λ s l. ap (λ z. t.word k (z + s)) e ∙ b s (subst (λ z. s < z) g l))
