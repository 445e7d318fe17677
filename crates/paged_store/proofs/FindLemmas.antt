-- A key is found in words as in a heap that has the records that they stand for.
use Rattle.std.proofs.Common.{◌%◌, ◌≡◌, ◌≢◌, ℕ, suc, ◌+◌, ◌-◌, ◌*◌, ◌/◌, ◌<◌, ◌≤◌, true, false, cond, eqb, List, [], ◌∷◌, length, Option, Some, None, IfSome, refl, sym, ap, ◌∙◌, subst, arith}
use Rattle.py_data.specs.declared.value.Value.{Value}
use Rattle.py_data.specs.declared.value.Value.TheVariants.{Ref}
use Rattle.py_base.specs.declared.kind.Kind.TheVariants.{Dict}
use Rattle.py_data.specs.Heap.{Heap, has_bytes, value_at}
use Rattle.py_data.specs.Shape.{same_key, same_text, text_in, find, find_from, ArePairs, KeysDiffer}
use Rattle.dict_index.specs.Keys.{home_of}
use Rattle.dict_index.specs.Slots.{slot}
use Rattle.dict_index.specs.Index.{IsIndex}
use Rattle.dict_index.specs.Seeking.{Passed, IsOver}
use Rattle.dict_index.proofs.Right.{index_of}
use Rattle.dict_index.proofs.Seeking.{in_pairs, one_passed, here, nowhere}
use Rattle.page_table.specs.Pages.{Table}
use Rattle.page_table.specs.Lists.{word_at, IsRun}
use Rattle.paged_store.specs.declared.sight.Seen.{Seen}
use Rattle.paged_store.specs.Words.{Words, value_of, decode, count_by, body_by, index_by, index_size}
use Rattle.paged_store.specs.inner.Indexed.{class_by, index_words, home_by, pairs_by, IsIndexed}
use Rattle.paged_store.specs.inner.Sight.{Stands, records_in, IsKeySeen, KeysSeen, IsKnown, KnowsKeys}
use Rattle.paged_store.proofs.RecordWords.{kind_is, values_length}
use Rattle.paged_store.proofs.ReadLemmas.{value_within, value_even, value_there}

-- ---- another heap

same_key_known : (h : Heap) (w : Words) (x y : Value) → IsKnown h w x → IsKnown h w y →
    same_key (records_in w) x y ≡ same_key h x y
same_key_known h w (Ref a) (Ref b) p q = λ t. same_text (eqb a.0 b.0) (text_in (sym p t)) (text_in (sym q t))
same_key_known h w x y p q = refl

find_from_known : (h : Heap) (w : Words) (n : ℕ) (vs : List Value) (key : Value) → IsKnown h w key →
    ((i : ℕ) → 2 * i + 1 < length vs → IsKnown h w (value_at vs (2 * i))) →
    find_from (records_in w) n vs key ≡ find_from h n vs key
find_from_known h w n [] key s each = refl
find_from_known h w n (k ∷ []) key s each = refl
find_from_known h w n (k ∷ v ∷ rest) key s each = λ t.
    cond (same_key_known h w k key (each 0 (omega arith)) s t) (Some n) (find_from_known h w (n + 1) rest key s (λ i l.
    let next : 2 * (i + 1) ≡ suc (suc (2 * i)) = omega arith in
    subst (λ m. IsKnown h w (value_at (k ∷ v ∷ rest) m)) next (each (i + 1) (omega arith))) t)

pub find_known : (h : Heap) (w : Words) (vs : List Value) (key : Value) → KnowsKeys h w vs key →
    find (records_in w) vs key ≡ find h vs key
find_known h w vs key k = find_from_known h w 0 vs key k.sought k.each

-- without pairs no key is found
pub no_pairs : (h : Heap) (vs : List Value) (key : Value) → length vs / 2 ≡ 0 → None ≡ find h vs key
no_pairs h [] key e = refl
no_pairs h (k ∷ []) key e = refl
no_pairs h (k ∷ v ∷ rest) key e = absurd (omega (arith, e))

-- ---- the search

pub key_there : (w : Words) (reserved d b n : ℕ) → Stands w reserved d → b ≡ body_by w d →
    n < length (decode w d).values / 2 →
    value_of (w (b + 4 * n)) (w (b + 4 * n + 1)) ≡ value_at (decode w d).values (2 * n)
key_there w reserved d b n r e h = (λ t. value_of (w (twice t)) (w (twice t + 1))) ∙
    value_there w reserved d b (2 * n) r (omega (arith, h)) e
  where
    twice : b + 4 * n ≡ b + 2 * (2 * n)
    twice = omega arith

-- a pair whose key has two words in a list of those from the body on has the key that they stand for
pub key_in_words : (w : Words) (reserved d b n x y : ℕ) (ws : List ℕ) (key : Value) (found : Option ℕ) →
    Stands w reserved d → b ≡ body_by w d → n ≡ length (decode w d).values / 2 → IsRun w b (4 * n) ws →
    value_of x y ≡ key →
    IfSome found (λ i. (i < n) × (word_at ws (4 * i) ≡ x) × (word_at ws (4 * i + 1) ≡ y)) →
    IfSome found (λ i. (i < length (decode w d).values / 2) × (value_at (decode w d).values (2 * i) ≡ key))
key_in_words w reserved d b n x y ws key None r e c run is h = tt
key_in_words w reserved d b n x y ws key (Some i) r e c run is h =
    let here : i < length (decode w d).values / 2 = omega (arith, h.0, c) in
    let first : w (b + 4 * i) ≡ x = sym (run.each (4 * i) (omega (arith, h.0))) ∙ h.1 in
    let second : w (b + 4 * i + 1) ≡ y = ap w (omega arith) ∙ sym (run.each (4 * i + 1) (omega (arith, h.0))) ∙ h.2 in
    (here, sym (key_there w reserved d b i r e here) ∙ (λ t. value_of (first t) (second t)) ∙ is)

-- a dictionary has half as many pairs as its header counts values
pub pairs_read : (w : Words) (d n : ℕ) → (decode w d).kind ≡ Dict → n ≡ count_by w d →
    n / 2 ≡ length (decode w d).values / 2
pairs_read w d n k e = ap (λ z. z / 2) (e ∙ sym (values_length w d (ap has_bytes (sym (kind_is w d) ∙ k))))

-- a key is among those of a dictionary
pub key_seen : (t : Table) (seen : Seen) (values : List Value) (n : ℕ) (x : Value) → KeysSeen t seen values →
    n < length values / 2 → x ≡ value_at values (2 * n) → IsKeySeen t seen x
key_seen t seen values n x k h e = subst (IsKeySeen t seen) (sym e) (k.each n (omega (arith, h)))

-- the words of a pair's key stand within what is reserved
pub key_within : (w : Words) (reserved d b n : ℕ) → Stands w reserved d → b ≡ body_by w d →
    n < length (decode w d).values / 2 → b + 4 * n + 2 ≤ reserved
key_within w reserved d b n r e h = omega (arith, e, value_within w reserved d (2 * n) r (omega (arith, h)))

pub key_even : (w : Words) (reserved d b n : ℕ) → Stands w reserved d → b ≡ body_by w d →
    n < length (decode w d).values / 2 → (b + 4 * n) % 2 ≡ 0
key_even w reserved d b n r e h = omega (arith, e, value_even w reserved d (2 * n) r (omega (arith, h)))

-- ---- the walk over the slots of an index

-- a word that is read is that of its slot
pub slot_word : (w : Words) (d place n start j at word : ℕ) → place ≡ index_by w d → at ≡ slot n start j →
    word ≡ w (place + at) → word ≡ index_words w d (slot n start j)
slot_word w d place n start j at word e a h = h ∙ (λ i. w (e i + a i))

module _ (w : Words) (d n : ℕ) (key : Value) (x : IsIndexed w d) (g : n ≡ index_size w d) where
  index_is : IsIndex (home_by w d) n (index_words w d) (pairs_by w d)
  index_is = subst (λ m. IsIndex (home_by w d) m (index_words w d) (pairs_by w d)) (sym g)
      (index_of (home_by w d) (index_size w d) (index_words w d) (pairs_by w d) x)

  -- a word that isn't empty is the number of a pair
  pub pair_there : (place at word : ℕ) → place ≡ index_by w d → at < n → word ≡ w (place + at) → word ≢ 0 →
      word - 1 < length (decode w d).values / 2
  pair_there place at word e l h f =
      let i : word ≡ index_words w d at = h ∙ ap (λ z. w (z + at)) e in
      subst (λ z. z - 1 < pairs_by w d) (sym i) (in_pairs (home_by w d) n (index_words w d) (pairs_by w d) at index_is l
      (λ z. f (i ∙ z)))

  -- whose key is read
  pub pair_read : (reserved b place at word : ℕ) (y : Value) → Stands w reserved d → b ≡ body_by w d →
      place ≡ index_by w d → at < n → word ≡ w (place + at) → word ≢ 0 →
      y ≡ value_of (w (b + 4 * (word - 1))) (w (b + 4 * (word - 1) + 1)) →
      (word - 1 < length (decode w d).values / 2) × (y ≡ value_at (decode w d).values (2 * (word - 1)))
  pair_read reserved b place at word y r f e l h o is =
      let there : word - 1 < length (decode w d).values / 2 = pair_there place at word e l h o in
      (there, is ∙ key_there w reserved d b (word - 1) r f there)

  -- and compared
  pub pair_compared : (place at word start j : ℕ) (y : Value) → place ≡ index_by w d → at ≡ slot n start j →
      word ≡ w (place + at) → y ≡ value_at (decode w d).values (2 * (word - 1)) → word ≢ 0 →
      same_key (records_in w) y key ≡ false →
      Passed (records_in w) (decode w d).values key n (index_words w d) start j →
      Passed (records_in w) (decode w d).values key n (index_words w d) start (j + 1)
  pair_compared place at word start j y e a h k f o p =
      let i : word ≡ index_words w d (slot n start j) = slot_word w d place n start j at word e a h in
      one_passed (records_in w) (decode w d).values key n (index_words w d) start j p (λ z. f (i ∙ z))
      (ap (λ z. same_key (records_in w) (value_at (decode w d).values (2 * (z - 1))) key) (sym i) ∙
      ap (λ z. same_key (records_in w) z key) (sym k) ∙ o)

  -- and found
  pub pair_found : (word : ℕ) (y : Value) → y ≡ value_at (decode w d).values (2 * (word - 1)) →
      ArePairs (records_in w) (decode w d).values → KeysDiffer (records_in w) (decode w d).values →
      word - 1 < length (decode w d).values / 2 → same_key (records_in w) y key ≡ true →
      Some (word - 1) ≡ find (records_in w) (decode w d).values key
  pair_found word y k p q l o = here (records_in w) (decode w d).values key (word - 1) p q (omega (arith, l))
      (ap (λ z. same_key (records_in w) z key) (sym k) ∙ o)

  -- no key is equal, where the walk is over
  pub key_nowhere : (start j : ℕ) → start ≡ home_of n (class_by w key) →
      Passed (records_in w) (decode w d).values key n (index_words w d) start j → IsOver n (index_words w d) start j →
      None ≡ find (records_in w) (decode w d).values key
  key_nowhere start j h p o = nowhere (records_in w) (decode w d).values key (home_by w d) n (index_words w d) start j h
      (λ j l. (λ i. home_of (sym g i) (class_by w (value_at (decode w d).values (2 * j))))) index_is p o
