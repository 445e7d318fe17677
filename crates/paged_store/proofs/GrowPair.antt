-- A segment's Dict grows, on a store's fields in memory, and its pairs are entered in the new index.
use Rattle.std.proofs.Common.{◌≡◌, ℕ, ◌+◌, ◌*◌, ◌<◌, ◌≤◌, true, [], ◌∷◌, ◌++◌, List, Some, slice_index_or, slice_set, refl, sym, ◌∙◌, ap, subst, arith, append_assoc, ◌%◌}
use Rattle.std.proofs.Props.{props}
use Rattle.std.proofs.Math.Logic.{∥∥₁_elim}
use Rattle.py_data.specs.declared.change.Change.{Change}
use Rattle.py_data.specs.declared.change.Change.TheVariants.{Pair}
use Rattle.py_data.specs.declared.value.Value.{Value}
use Rattle.py_data.specs.Changes.{after}
use Rattle.py_data.specs.Heap.{Rec, Has, at, with_pair}
use Rattle.py_data.specs.Shape.{ArePairs}
use Rattle.py_data.proofs.PairLists.{pairs_last}
use Rattle.dict_index.specs.Index.{IsBlank}
use Rattle.seg_store.specs.Meaning.{Meaning, sees, holds}
use Rattle.seg_store.specs.Extents.{words_in}
use Rattle.seg_store.specs.Telling.{use_with, Rises, Fits}
use Rattle.seg_store.specs.Calls.{after_change}
use Rattle.seg_store.specs.Store.{CanChange}
use Rattle.page_table.specs.Pages.{Table, limit}
use Rattle.page_table.specs.Lists.{Lists, table_of}
use Rattle.paged_store.specs.declared.draft.Draft.{Draft}
use Rattle.paged_store.specs.declared.sight.Seen.TheVariants.{Segment}
use Rattle.paged_store.specs.declared.store.PagedStore.{PagedStore}
use Rattle.paged_store.specs.Words.{Words, decode, count_by, index_by, body_size, index_size, in_head}
use Rattle.paged_store.specs.inner.Formed.{Lays, FitsValue}
use Rattle.paged_store.specs.inner.Sound.{Sound}
use Rattle.paged_store.specs.Paged.{Paged, state_of, extents_at, spare_at, paged_by}
use Rattle.paged_store.specs.inner.Sight.{Stands, IsKeySeen}
use Rattle.paged_store.specs.inner.Growing.{grown_class, grown_index, MayGrow, Grew}
use Rattle.paged_store.specs.inner.Claiming.{RisesBy, extent_for}
use Rattle.paged_store.specs.inner.Indexed.{index_words, IsIndexed}
use Rattle.paged_store.specs.inner.Indexing.{Avoids, KeyAvoids, CanIndex, Puts}
use Rattle.paged_store.specs.inner.Writing.{Desk, desk, CanPut, next_index_size}
use Rattle.paged_store.specs.inner.Written.{Changed}
use Rattle.paged_store.specs.Stores.{paged_of, paged_meaning, peaks_of}
use Rattle.paged_store.proofs.GrowCall.{Filled, head_is_held, now as grown, taken_extents, taken_turns, puts_now, word_now, reserved_now, may_index_now, freed_now, grows_then}
use Rattle.paged_store.proofs.GrowStore.{address, dict_full, dict_big, dict_grows, dict_gains, old, grew_desk, grew_stands, grew_rises, grew_fits}
use Rattle.paged_store.proofs.GrownWords.{part, with_index, with_index_size, with_blank, pair_grown}
use Rattle.paged_store.proofs.NewIndex.{new_stands, each_avoids, each_stands, keys_each, key_avoids, key_readable}
use Rattle.paged_store.proofs.SightLemmas.{seen_there}
use Rattle.paged_store.proofs.StandLemmas.{stands_prop}
use Rattle.paged_store.proofs.StoreCalls.{Stands as StoreStands}
use Rattle.paged_store.proofs.StoreEnds.{table_segment}
use Rattle.paged_store.proofs.StoreChanges.{words_of, there, stands, allowed, dict_rooms}
use Rattle.paged_store.proofs.TakeCall.{Freed}
use Rattle.paged_store.proofs.WriteCall.{Turns}
use Rattle.paged_store.proofs.PeakLemmas.{total_of, used_in}
use Rattle.paged_store.proofs.GrowTakes.{first_even}

module _ (s : PagedStore) (k a : ℕ) (l : k < (paged_meaning s).segments)
    (held : holds ((paged_meaning s).part k) a ≡ true)
    (g : Draft) (is : g ≡ slice_index_or s.drafts.items k g) (d : Draft) (u : Lists)
    (most : (table_of u).reserved ≤ limit (table_of u)) (key v : Value)
    (can : CanChange (sees (paged_meaning s) k) a (Pair key v))
    (small : body_size (words_of s k) a < 2 * (count_by (words_of s k) a + 2)) (fits_key : FitsValue key)
    (fits : FitsValue v) (h : Grew k a (key ∷ v ∷ []) (desk s.pages g) (desk u d)) where
  abbrev w : Words
  w = words_of s k

  abbrev c : Change
  c = Pair key v

  abbrev vs : List Value
  vs = key ∷ v ∷ []

  abbrev t : Table
  t = table_of u

  z : Grew k a vs (old s k a l held g is d u most) (desk u d)
  z = grew_desk s k a l held g is d u most vs (desk u d) h

  abbrev now : Words
  now = grown (paged_of s) k a s.sound.fine (table_segment s k l) held vs (desk u d) z

  word_is : t.word k ≡ now
  word_is = word_now (paged_of s) k a s.sound.fine (table_segment s k l) held vs (desk u d) z

  abbrev e : ℕ → ℕ
  e = extents_at (taken_extents (paged_of s) k a s.sound.fine (table_segment s k l) held vs (desk u d) z)

  grows : MayGrow w (table_of s.pages).reserved a 2
  grows = dict_grows s k a l held key v can small

  reserved_is : t.reserved ≡ z.taken.table.reserved
  reserved_is = reserved_now (paged_of s) k a s.sound.fine (table_segment s k l) held vs (desk u d) z

  turns : Turns k w (in_head a) (taken_extents (paged_of s) k a s.sound.fine (table_segment s k l) held vs (desk u d) z)
      (old s k a l held g is d u most) z.taken
  turns = taken_turns (paged_of s) k a s.sound.fine (table_segment s k l) held vs (desk u d) z

  more : (table_of s.pages).reserved ≤ t.reserved
  more = let m = turns.more in omega (arith, m, reserved_is)

  -- the body begins at an even place
  even : z.body % 2 ≡ 0
  even = first_even (grown_class w a) z.body _ (extent_for (grown_index w a) z.index)
      (let b = grows.room in omega arith) z.takes.claims.lie

  -- what holds of any account by which the extents were nobody's
  abbrev Places : (Words → Words → Type 0) → Type 0
  Places P = (own role : Words) → Lays own role w a → ((q : ℕ) → 0 < e q → own q ≡ 0) → ((q : ℕ) → e q ≤ 1) → P own role

  places : Places (λ own role. (index_by now a ≡ z.index) × (index_size now a ≡ next_index_size w a))
  places own role lays fresh once = (
    with_index w a z.body z.index own role (address s k a l held) (stands s k a l c can).formed lays
        (dict_rooms s k a l key v can) grows.class fresh once even vs grows.room,
    with_index_size w a z.body z.index own role (address s k a l held) (stands s k a l c can).formed lays
        (dict_rooms s k a l key v can) grows.class fresh once even vs grows.room,
  )

  grown_to : Places (λ own role. Changed own role w now a e (part w a z.body z.index) (with_pair key v (decode w a)))
  grown_to own role lays fresh once = pair_grown w a z.body z.index own role (address s k a l held)
      (stands s k a l c can).formed lays (dict_rooms s k a l key v can) grows.class fresh once even key v
      (dict_full s k a l held key v can small) (dict_big s k a l held key v can small) grows.room fits_key fits

  -- ---- of any account of whose the places are

  module _ (own role : Words) (x : Sound own role (state_of (paged_of s))) where
    lays : Lays own role w a
    lays = (head_is_held (paged_of s) k a s.sound.fine (table_segment s k l) held own role x).0

    freed : Freed own (state_of (paged_of s)) e (spare_at z.taken.table) z.taken.table.reserved
    freed = freed_now (paged_of s) k a s.sound.fine (table_segment s k l) held vs (desk u d) z own role x

    fresh : (q : ℕ) → 0 < e q → own q ≡ 0
    fresh q y = (freed.free q y).0

    places_at : (index_by now a ≡ z.index) × (index_size now a ≡ next_index_size w a)
    places_at = places own role lays fresh freed.once

    blank_at : (n : ℕ) → n < next_index_size w a → now (z.index + n) ≡ 0
    blank_at n = with_blank w a z.body z.index own role (address s k a l held) (stands s k a l c can).formed lays
        (dict_rooms s k a l key v can) grows.class fresh freed.once even vs n grows.room

    changed : Changed own role w now a e (part w a z.body z.index) (with_pair key v (decode w a))
    changed = grown_to own role lays fresh freed.once

    new : (q : ℕ) → 0 < e q → (own q ≡ 0) × (q < t.reserved)
    new q y = let m = freed.free q y in (m.0, (let b = m.2 in omega (arith, b, reserved_is)))

    new_at : Stands now t.reserved a
    unfolding state_of
    new_at = new_stands own role (state_of (paged_of s)) x k a (address s k a l held) now e
        (part w a z.body z.index) (with_pair key v (decode w a)) changed t.reserved more new

    module _ (b : ℕ) (there : Has (sees (paged_meaning s) k) b) where
      avoids_at : Avoids now (index_by now a) (index_size now a) b
      unfolding state_of
      avoids_at = each_avoids own role (state_of (paged_of s)) x k a (address s k a l held) now e
          (part w a z.body z.index) (with_pair key v (decode w a)) changed t.reserved more new b
          (seen_there own role (state_of (paged_of s)) k x b there)

      stands_at : Stands now t.reserved b
      unfolding state_of
      stands_at = each_stands own role (state_of (paged_of s)) x k a (address s k a l held) now e
          (part w a z.body z.index) (with_pair key v (decode w a)) changed t.reserved more new b
          (seen_there own role (state_of (paged_of s)) k x b there)

  -- ---- what the new words are

  index_is : (index_by now a ≡ z.index) × (index_size now a ≡ next_index_size w a)
  index_is = ∥∥₁_elim s.sound.fine.sound (hlevel props) (λ x. places_at x.0 x.1.0 x.1.1)

  index_at : (index_by (t.word k) a ≡ z.index) × (index_size (t.word k) a ≡ next_index_size w a)
  index_at = (
    ap (λ (x : Words). index_by x a) word_is ∙ index_is.0,
    ap (λ (x : Words). index_size x a) word_is ∙ index_is.1,
  )

  recs_set : IsSet Rec
  recs_set = hlevel props

  means_now : decode now a ≡ with_pair key v (decode w a)
  means_now = ∥∥₁_elim s.sound.fine.sound (recs_set _ _) (λ x. (changed x.0 x.1.0 x.1.1).means)

  means : decode (t.word k) a ≡ with_pair key v (decode w a)
  means = ap (λ x. decode x a) word_is ∙ means_now

  stands_new : Stands (t.word k) t.reserved a
  stands_new = subst (λ x. Stands x t.reserved a) (sym word_is)
      (∥∥₁_elim s.sound.fine.sound (stands_prop _ _ _) (λ x. new_at x.0 x.1.0 x.1.1))

  avoids_each : (b : ℕ) → Has (sees (paged_meaning s) k) b
      → Avoids (t.word k) (index_by (t.word k) a) (index_size (t.word k) a) b
  avoids_each b there = subst (λ x. Avoids x (index_by x a) (index_size x a) b) (sym word_is)
      (∥∥₁_elim s.sound.fine.sound (hlevel props) (λ x. avoids_at x.0 x.1.0 x.1.1 b there))

  stands_each : (b : ℕ) → Has (sees (paged_meaning s) k) b → Stands (t.word k) t.reserved b
  stands_each b there = subst (λ x. Stands x t.reserved b) (sym word_is)
      (∥∥₁_elim s.sound.fine.sound (stands_prop _ _ _) (λ x. stands_at x.0 x.1.0 x.1.1 b there))

  segment : k < t.segments
  segment =
      let i = table_segment s k l in
      let b = turns.segments in
      let e : t.segments ≡ z.taken.table.segments = ap (λ (x : Desk). x.table.segments)
      (puts_now (paged_of s) k a s.sound.fine (table_segment s k l) held vs (desk u d) z) in
      omega (arith, i, b, e)

  -- the new key is one too
  pairs : ArePairs (sees (paged_meaning s) k) (decode (t.word k) a).values
  pairs =
      let m = (allowed s k a l c can).1.0 in
      let q : (decode (t.word k) a).values ≡ (decode w a).values ++ key ∷ v ∷ [] =
      ap (λ (r : Rec). r.values) means ∙ append_assoc (decode w a).values (key ∷ []) (v ∷ []) in
      subst (ArePairs (sees (paged_meaning s) k)) (sym q)
      (pairs_last (sees (paged_meaning s) k) (decode w a).values key v m.2 m.1)

  -- ---- what its index needs

  pub can_index : CanIndex k a (index_by (t.word k) a) (index_size (t.word k) a) t
  can_index = record {
    slots = record {
      segment = segment;
      stands = stands_new;
      kind = ap (λ (r : Rec). r.kind) means ∙ (allowed s k a l c can).0.0;
      at = refl;
      size = refl;
      keys = record {
        each = λ n i. keys_each (sees (paged_meaning s) k) (decode (t.word k) a).values (IsKeySeen t (Segment k)) tt
            (key_readable (sees (paged_meaning s) k) t (Segment k)
            (λ b there. record { segment = segment; stands = stands_each b there })) pairs n;
      };
      apart = avoids_each a (there s k a l c can);
      keys_apart = keys_each (sees (paged_meaning s) k) (decode (t.word k) a).values
          (KeyAvoids (t.word k) (index_by (t.word k) a) (index_size (t.word k) a)) tt
          (key_avoids (sees (paged_meaning s) k) (t.word k) (index_by (t.word k) a)
          (index_size (t.word k) a) avoids_each)
          pairs;
      within = may_put.within;
    };
    may = may_put;
  }
    where
      may_put : CanPut k (index_by (t.word k) a) (index_size (t.word k) a) t
      may_put = subst (λ n. CanPut k (index_by (t.word k) a) n t) (sym index_at.1)
          (subst (λ q. CanPut k q (next_index_size w a) t) (sym index_at.0)
          (may_index_now (paged_of s) k a s.sound.fine (table_segment s k l) held vs (desk u d) z))

  pub is_blank : IsBlank (index_size (t.word k) a) (index_words (t.word k) a)
  is_blank n h =
      ap (λ i. t.word k (i + n)) index_at.0 ∙ ap (λ (x : Words). x (z.index + n)) word_is
      ∙ ∥∥₁_elim s.sound.fine.sound (hlevel props)
      (λ x. blank_at x.0 x.1.0 x.1.1 n (subst (λ m. n < m) index_at.1 h))

  -- ---- what its index leaves

  module _ (q : Lists) (puts : Puts k (index_by (t.word k) a) (index_size (t.word k) a) t (table_of q)) where
    pub most_then : (table_of q).reserved ≤ limit (table_of q)
    most_then = let P : Table → Type 0 = λ x. x.reserved ≤ limit x in subst P (sym puts.same) most

    pub dict_filled : Filled k a vs (old s k a l held g is d q most_then) (desk q d)
    dict_filled = record {
      mid = desk u d;
      grew = z;
      puts = subst (λ n. Puts k z.index n t (table_of q)) index_at.1
          (subst (λ p. Puts k p (index_size (t.word k) a) t (table_of q)) index_at.0 puts);
      draft = refl;
    }

    pub dict_stands : IsIndexed ((table_of q).word k) a
        → StoreStands q s.present.items s.marks (slice_set s.drafts.items k d)
        (after_change k a (after (Pair key v)) (paged_meaning s))
    unfolding dict_filled
    dict_stands indexed = grew_stands s k a l held g is d q most_then vs c can dict_filled
        (grows_then (paged_of s) k a s.sound.fine (table_segment s k l) held (desk q d) most_then vs dict_filled
        (with_pair key v (decode w a)) places grown_to)
        (dict_gains s k a l held key v can small) (λ keys same means kind. indexed)

    -- the peaks rise to what is in use
    pub dict_rises : (m : Meaning)
        → RisesBy (grown_class w a ∷ grown_index w a ∷ 0 ∷ []) (table_of s.pages) (table_of u)
        → StoreStands q s.present.items s.marks (slice_set s.drafts.items k d) m
        → (let o : Paged = paged_by q s.present.items s.marks (slice_set s.drafts.items k d) in
        Rises (Some (peaks_of s)) (Some (total_of o)) (used_in o))
    dict_rises m rises = let P : Table → Type 0 = λ x.
        RisesBy (grown_class w a ∷ grown_index w a ∷ 0 ∷ []) (table_of s.pages) x in
        grew_rises s k a l held g is d q most_then vs m dict_filled (subst P (sym puts.same) rises)

    -- and the words with it grown are within the limit
    pub dict_fits : (m : Meaning)
        → RisesBy (grown_class w a ∷ grown_index w a ∷ 0 ∷ []) (table_of s.pages) (table_of u)
        → StoreStands q s.present.items s.marks (slice_set s.drafts.items k d) m
        → (table_of u).reserved ≡ 2 + words_in (λ n. ((table_of u).shelf n).total)
        → Fits (Some (peaks_of s)) (use_with (paged_meaning s) (sees (paged_meaning s) k a)
        (after c (at (sees (paged_meaning s) k) a))) (paged_meaning s).limit
    dict_fits m rises stands filled =
        let P : Table → Type 0 = λ x. RisesBy (grown_class w a ∷ grown_index w a ∷ 0 ∷ []) (table_of s.pages) x in
        let Q : Table → Type 0 = λ x. x.reserved ≡ 2 + words_in (λ n. (x.shelf n).total) in
        grew_fits s k a l held g is d q most_then vs c m can (dict_gains s k a l held key v can small) dict_filled
        (subst P (sym puts.same) rises) stands (subst Q (sym puts.same) filled)
