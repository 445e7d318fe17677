-- The index of a dictionary that gets a pair more, and of one that loses a pair.
use Rattle.std.proofs.Common.{◌≡◌, ℕ, ◌+◌, ◌-◌, ◌*◌, ◌/◌, ◌<◌, true, Bool, List, [], ◌∷◌, ◌++◌, length, remove, get_or, refl, sym, ◌∙◌, ap, subst, arith, length-append, inl, inr}
use Rattle.std.proofs.lemmas.List.{get_or_append_left}
use Rattle.std.proofs.lemmas.List.Edits.{length-remove}
use Rattle.std.proofs.Math.Seq.{get_or-append_seam}
use Rattle.py_base.specs.declared.kind.Kind.TheVariants.{Dict}
use Rattle.py_data.specs.declared.value.Value.{Value}
use Rattle.py_data.specs.declared.value.Value.TheVariants.{Unset}
use Rattle.py_data.specs.Heap.{Rec, Heap, value_at, with_pair, without_pair}
use Rattle.py_data.specs.Shape.{IsKey, ArePairs}
use Rattle.dict_index.specs.Keys.{home_of}
use Rattle.dict_index.specs.Slots.{put}
use Rattle.dict_index.specs.Index.{IsIndex, IsRight, FirstEmpty}
use Rattle.dict_index.specs.Leaving.{skip}
use Rattle.dict_index.proofs.Entering.{enter_law}
use Rattle.dict_index.proofs.Frame.{frame_law}
use Rattle.dict_index.proofs.Gone.{key_gone}
use Rattle.dict_index.proofs.Homes.{home_within}
use Rattle.dict_index.proofs.Lowering.{skip_is}
use Rattle.dict_index.proofs.Kept.{class_kept}
use Rattle.dict_index.proofs.Right.{right_of, index_of}
use Rattle.paged_store.specs.Words.{Words, size_of, kind_in, index_class_in, decode, kind_by, index_by, index_size}
use Rattle.paged_store.specs.inner.Sight.{records_in}
use Rattle.paged_store.specs.State.{heap_of}
use Rattle.paged_store.specs.inner.Indexed.{class_by, index_words, home_by, pairs_by, IsIndexed}
use Rattle.paged_store.specs.inner.Keyed.{HasKeys}
use Rattle.paged_store.proofs.IndexFrame.{SameFixed, Renews, right_same, there_is, keeps_fixed, classes_same}
use Rattle.paged_store.proofs.RecordWords.{kind_is}

-- keys and their values are of an even number
even_length : (h : Heap) (vs : List Value) → ArePairs h vs → 2 * (length vs / 2) ≡ length vs
even_length h [] p = omega arith
even_length h (k ∷ []) p = absurd p
even_length h (k ∷ v ∷ rest) p = let e = even_length h rest p.1 in omega arith

-- other words of a dictionary that is there, with the same header but for its count
module _ (there : ℕ → Bool) (w v : Words) (a : ℕ) (is : there a ≡ true) (was : kind_by w a ≡ Dict → IsIndexed w a)
    (first : v (2 * a) ≡ w (2 * a)) (index : v (2 * a + 3) ≡ w (2 * a + 3)) where
  abbrev n : ℕ
  n = index_size w a

  abbrev m : ℕ
  m = pairs_by w a

  abbrev vs : List Value
  vs = (decode w a).values

  -- the home of a pair of these values, where the records are those of the new words
  abbrev home_in : List Value → ℕ → ℕ
  home_in us j = home_of n (class_by v (value_at us (2 * j)))

  size : index_size v a ≡ n
  size = ap (λ x. size_of (index_class_in x)) first

  -- where the words of its index are those of an index of its values, it is right
  renewed : (r : Rec) (wi : Words) (c : ℕ) → 0 < n → decode v a ≡ r → length r.values / 2 ≡ c
      → ((s : ℕ) → s < n → v (index_by w a + s) ≡ wi s) → IsIndex (home_in r.values) n wi c → IsIndexed v a
  renewed r wi c some means count words x =
      let here : IsRight (home_by v a) n (index_words v a) c =
      right_same (home_in r.values) (home_by v a) n c wi (index_words v a) (λ l j. home_within n _ l)
      (right_of (home_in r.values) n wi c (λ j l. home_within n _ some) x)
      (λ s l. ap (λ i. v (i + s)) index ∙ words s l)
      (λ j l i. home_of (size i) (class_by v (value_at (means i).values (2 * j)))) in
      subst (λ c. IsRight (home_by v a) (index_size v a) (index_words v a) c)
      (sym count ∙ ap (λ (q : Rec). length q.values / 2) (sym means))
      (subst (λ n. IsRight (home_by v a) n (index_words v a) c) (sym size) here)

  kind_was : kind_by v a ≡ Dict → kind_by w a ≡ Dict
  kind_was d = ap kind_in (sym first) ∙ d

  even : HasKeys (heap_of there w) → kind_by w a ≡ Dict → 2 * m ≡ length vs
  even keys k = even_length (heap_of there w) vs (keys.dicts a (decode w a) (there_is there w a is)
      (kind_is w a ∙ k)).0

  -- ---- a pair more

  module _ (key x : Value) (slot : ℕ) (is_key : IsKey (heap_of there w) key)
      (free : FirstEmpty n (index_words w a) (home_of n (class_by w key)) slot)
      (words : (s : ℕ) → s < n → v (index_by w a + s) ≡ put slot (m + 1) (index_words w a) s) where
    abbrev more : List Value
    more = (with_pair key x (decode w a)).values

    some : 0 < n
    some = let l = free.near in omega arith

    count_more : length more ≡ length vs + 2
    count_more = let e = length-append (vs ++ key ∷ []) (x ∷ []) in let f = length-append vs (key ∷ []) in omega arith

    module _ (keys : HasKeys (heap_of there w)) (same : SameFixed there w v) (d : kind_by v a ≡ Dict) where
      old_value : (j : ℕ) → j < m → value_at more (2 * j) ≡ value_at vs (2 * j)
      old_value j l =
          let e = even keys (kind_was d) in
          let f = length-append vs (key ∷ []) in
          get_or_append_left (vs ++ key ∷ []) (x ∷ []) Unset (2 * j) (omega arith) ∙
          get_or_append_left vs (key ∷ []) Unset (2 * j) (omega arith)

      new_value : value_at more (2 * m) ≡ key
      new_value =
          let e = even keys (kind_was d) in
          let f = length-append vs (key ∷ []) in
          get_or_append_left (vs ++ key ∷ []) (x ∷ []) Unset (2 * m) (omega arith) ∙
          ap (λ i. get_or (vs ++ key ∷ []) i Unset) e ∙ get_or-append_seam vs key [] Unset

      key_class : class_by v key ≡ class_by w key
      key_class = class_kept (heap_of there w) (records_in v) key (keeps_fixed there w v same) is_key ∙
          sym (class_kept (heap_of there w) (records_in w) key (keeps_fixed there w w (λ b t f. refl)) is_key)

      old_homes : (j : ℕ) → j < m → home_in more j ≡ home_by w a j
      old_homes j l = ap (home_of n) (ap (class_by v) (old_value j l) ∙
          classes_same there w v a keys same is (kind_was d) j l)

      new_home : home_in more m ≡ home_of n (class_by w key)
      new_home = ap (home_of n) (ap (class_by v) new_value ∙ key_class)

      entered : IsIndex (home_in more) n (put slot (m + 1) (index_words w a)) (m + 1)
      entered = enter_law (home_in more) n (index_words w a) m slot (λ j l. home_within n _ some)
          (frame_law (home_by w a) (home_in more) n m (index_words w a) (index_words w a) some
          (λ j l. home_within n _ some) (index_of (home_by w a) n (index_words w a) m (was (kind_was d)))
          (λ s l. refl) old_homes)
          (subst (λ h. FirstEmpty n (index_words w a) h slot) (sym new_home) free)

    pub pair_renews : Renews there w v a (with_pair key x (decode w a))
    pair_renews keys same means d = renewed (with_pair key x (decode w a)) (put slot (m + 1) (index_words w a)) (m + 1)
        some means (let e = even keys (kind_was d) in let c = count_more in omega arith) words (entered keys same d)

  -- ---- a pair less

  module _ (p : ℕ) (wi : Words) (some : 0 < n) (within : 2 * p + 1 < length vs)
      (left : IsIndex (λ j. home_by w a (skip p j)) n wi (m - 1))
      (words : (s : ℕ) → s < n → v (index_by w a + s) ≡ wi s) where
    abbrev less : List Value
    less = (without_pair p (decode w a)).values

    count_less : length less + 2 ≡ length vs
    count_less =
        let e : length (remove vs (2 * p)) + 1 ≡ length vs = length-remove vs (2 * p) (omega arith) in
        let f : length less + 1 ≡ length (remove vs (2 * p)) = length-remove (remove vs (2 * p)) (2 * p)
        (omega arith) in
        omega arith

    skip_below : (j : ℕ) → j < m - 1 → skip p j < m
    skip_below j l = elim (skip_is p j) [ inl y ↦ (let e = y.1 in omega arith) | inr y ↦ (let e = y.1 in omega arith) ]

    pub drop_renews : Renews there w v a (without_pair p (decode w a))
    drop_renews keys same means d =
        renewed (without_pair p (decode w a)) wi (m - 1) some means
        (let c = count_less in omega arith) words
        (frame_law (λ j. home_by w a (skip p j)) (home_in less) n (m - 1) wi wi some (λ j l. home_within n _ some) left
        (λ s l. refl)
        (λ j l. ap (home_of n) (ap (class_by v) (key_gone vs p j within) ∙
        classes_same there w v a keys same is (kind_was d) (skip p j) (skip_below j l))))
