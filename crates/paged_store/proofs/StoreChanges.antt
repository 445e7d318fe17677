-- A segment changes a record that it holds, on a store's fields in memory.
use Rattle.std.proofs.Common.{◌≡◌, ℕ, ◌+◌, ◌-◌, ◌*◌, ◌/◌, ◌^◌, ◌<◌, ◌≤◌, Bool, true, false, ◌||◌, get_or, [], ◌∷◌, length, min, Option, Some, None, slice_index_or, slice_set, sym, ◌∙◌, ap, subst, refl, arith}
use Rattle.std.proofs.lemmas.Bool.{both_ways, or_right}
use Rattle.std.proofs.lemmas.List.{length-set, get_or-set_other}
use Rattle.std.proofs.Props.{props}
use Rattle.std.proofs.Math.Logic.{∥∥₁_elim}
use Rattle.py_base.specs.declared.kind.Kind.TheVariants.{Dict}
use Rattle.py_data.specs.declared.change.Change.{Change}
use Rattle.py_data.specs.declared.change.Change.TheVariants.{Set, Push, Cut, Pair, Unpair}
use Rattle.py_data.specs.declared.value.Value.{Value}
use Rattle.py_data.specs.declared.value.Value.TheVariants.{Unset}
use Rattle.py_data.specs.Changes.{after, Allows, Suits, IsValuePlace}
use Rattle.py_data.specs.Shape.{IsKey, Fits}
use Rattle.py_data.specs.Sense.{IfThere}
use Rattle.py_data.specs.Heap.{Rec, Has, has_bytes, has_rooms, length_of, value_at, with_value, with_push, with_pair, cut_to}
use Rattle.py_data.proofs.Grow.{for_tracked}
use Rattle.seg_store.specs.Extents.{extents}
use Rattle.seg_store.specs.Meaning.{Meaning, sees, holds}
use Rattle.seg_store.specs.Calls.{after_change}
use Rattle.seg_store.specs.Store.{CanFind, CanChange}
use Rattle.dict_index.specs.Slots.{used}
use Rattle.seg_marks.specs.Marks.{marks_of, holders_of}
use Rattle.page_table.specs.Lists.{Lists, table_of}
use Rattle.paged_store.specs.declared.draft.Draft.{Draft}
use Rattle.paged_store.specs.declared.sight.Seen.TheVariants.{Segment}
use Rattle.paged_store.specs.declared.store.PagedStore.{PagedStore}
use Rattle.paged_store.specs.Words.{Words, in_span, decode, kind_by, count_by, body_by, index_by, body_size, index_size, in_head, in_body, in_record}
use Rattle.paged_store.specs.inner.Moves.{put}
use Rattle.paged_store.specs.State.{heap_of, meaning_in}
use Rattle.paged_store.specs.inner.Sound.{Sound}
use Rattle.paged_store.specs.inner.Indexed.{index_words, pairs_by, IsIndexed}
use Rattle.paged_store.specs.inner.Indexing.{words_from, FreeSlot, paired_words, pair_places, AddsPair, RefusesPair, leave_places, DropsIndexed}
use Rattle.paged_store.specs.Paged.{drafted, state_of, paged_by}
use Rattle.paged_store.specs.inner.Sight.{Stands, CanRead, IsKeySeen, words_seen}
use Rattle.paged_store.specs.Stores.{paged_of, paged_meaning}
use Rattle.paged_store.specs.inner.Writing.{desk, Wrote, Refused, with_count, pushed_words, cut_words}
use Rattle.paged_store.specs.inner.Written.{set_words, drop_words}
use Rattle.paged_store.specs.inner.Formed.{Lays, FitsValue}
use Rattle.paged_store.proofs.RecordWords.{kind_is, values_length, count_fits, count_most}
use Rattle.paged_store.proofs.ReadLemmas.{length_read}
use Rattle.paged_store.proofs.PushWords.{has_room, has_pair_room}
use Rattle.paged_store.proofs.ExtentCounts.{set_keeps, push_keeps, cut_keeps, pair_keeps, unpair_keeps}
use Rattle.paged_store.proofs.IndexFrame.{Renews, list_renews, dict_renews}
use Rattle.paged_store.proofs.PairIndex.{pair_renews, drop_renews}
use Rattle.paged_store.proofs.PairPlace.{Apart, paired_in_place, paired_first, paired_index, paired_slots, left_in_place, left_first, left_index, left_slots}
use Rattle.paged_store.proofs.DictReads.{key_prop, dict_right, dict_extent}
use Rattle.paged_store.proofs.StoreReads.{key_seen}
use Rattle.paged_store.proofs.IndexLemmas.{index_room}
use Rattle.paged_store.proofs.SightLemmas.{seen_words}
use Rattle.paged_store.proofs.SpanLemmas.{in_span_at, in_span_holds, span_bounds, head_at, head_first}
use Rattle.paged_store.proofs.PartLemmas.{false_from, body_not_head, index_not_head, index_not_body}
use Rattle.paged_store.proofs.LookCalls.{in_hand}
use Rattle.paged_store.proofs.SegmentDrafts.{drafts_in, read_draft, set_draft}
use Rattle.paged_store.proofs.FineLemmas.{Leaves}
use Rattle.paged_store.proofs.StandLemmas.{Shows, fine_seen, can_read, where_has, where_seen}
use Rattle.paged_store.proofs.StoreCalls.{segment_in, SameTable, Stands as StoreStands, stands_after}
use Rattle.paged_store.proofs.StoreEnds.{table_segment}
use Rattle.paged_store.proofs.InPlaceWords.{tracked_no_bytes, body_inside, count_inside, both_inside, set_in_place, push_in_place, cut_in_place}
use Rattle.paged_store.proofs.WriteCall.{turned_to}
use Rattle.paged_store.proofs.ChangeCall.{InPlaceOf, change_leaves, refused_leaves}

-- a segment's words
abbrev pub words_of : PagedStore → ℕ → Words
words_of s k = (table_of s.pages).word k

abbrev pub reserved_in : PagedStore → ℕ
reserved_in s = (table_of s.pages).reserved

-- the records that a segment sees
abbrev pub seen_by_store : PagedStore → ℕ → ℕ → Bool
seen_by_store s k b = get_or s.present.items b false || in_hand k ((paged_of s).drafts k) b

pub seen_by : (s : PagedStore) (k : ℕ) → Shows (words_seen (table_of s.pages) (Segment k)) (table_of s.pages).reserved
    (sees (paged_meaning s) k)
seen_by s k = fine_seen (paged_of s) k s.sound.fine

-- ---- what a change asks of the record's words

module _ (s : PagedStore) (k a : ℕ) (l : k < (paged_meaning s).segments) (c : Change)
    (can : CanChange (sees (paged_meaning s) k) a c) where
  pub there : Has (sees (paged_meaning s) k) a
  there = where_has (table_of s.pages) (Segment k) (sees (paged_meaning s) k) (seen_by s k) (table_segment s k l) a
      (λ r. Allows c r × Suits false (sees (paged_meaning s) k) c r) can

  pub stands : Stands (words_of s k) (reserved_in s) a
  stands = (seen_by s k).stands a there

  pub readable : CanRead (table_of s.pages) (Segment k) a
  readable = can_read (table_of s.pages) (Segment k) (sees (paged_meaning s) k) (seen_by s k) (table_segment s k l) a
      there

  pub allowed : Allows c (decode (words_of s k) a) × Suits false (sees (paged_meaning s) k) c (decode (words_of s k) a)
  allowed = where_seen (table_of s.pages) (Segment k) (sees (paged_meaning s) k) (seen_by s k) (table_segment s k l) a
      (λ r. Allows c r × Suits false (sees (paged_meaning s) k) c r) can

  pub no_text : has_bytes (kind_by (words_of s k) a) ≡ false
  no_text = ap has_bytes (sym (kind_is (words_of s k) a)) ∙
      tracked_no_bytes (decode (words_of s k) a).kind (for_tracked c (decode (words_of s k) a).kind allowed.0.0)

  pub counted : length (decode (words_of s k) a).values ≡ count_by (words_of s k) a
  counted = values_length (words_of s k) a no_text

  pub bodied : 2 * count_by (words_of s k) a ≤ body_size (words_of s k) a
  bodied = count_fits (words_of s k) a no_text stands.formed

  pub few : count_by (words_of s k) a ≤ 2 ^ 20
  few = count_most (words_of s k) a no_text stands.formed

pub read_length : (s : PagedStore) (k a : ℕ) → length_of (decode (words_of s k) a) ≡ count_by (words_of s k) a
read_length s k a = length_read (words_of s k) a

pub left_is : (s : PagedStore) (k a n left m : ℕ) → left ≡ min n m → m ≡ length_of (decode (words_of s k) a) →
    left ≡ min n (count_by (words_of s k) a)
left_is s k a n left m e h = e ∙ ap (min n) (h ∙ read_length s k a)

-- a List and a Dict have rooms
pub list_rooms : (s : PagedStore) (k a : ℕ) (l : k < (paged_meaning s).segments) (v : Value) →
    CanChange (sees (paged_meaning s) k) a (Push v)
    → has_rooms (kind_by (words_of s k) a) ≡ true
list_rooms s k a l v can = ap has_rooms (sym (kind_is (words_of s k) a) ∙ (allowed s k a l (Push v) can).0.0)

pub dict_rooms : (s : PagedStore) (k a : ℕ) (l : k < (paged_meaning s).segments) (key v : Value) →
    CanChange (sees (paged_meaning s) k) a (Pair key v)
    → has_rooms (kind_by (words_of s k) a) ≡ true
dict_rooms s k a l key v can = ap has_rooms (sym (kind_is (words_of s k) a) ∙ (allowed s k a l (Pair key v) can).0.0)

-- ---- what it leaves

module _ (s : PagedStore) (k a : ℕ) (l : k < (paged_meaning s).segments)
    (held : holds ((paged_meaning s).part k) a ≡ true)
    (g : Draft) (is : g ≡ slice_index_or s.drafts.items k g) (d : Draft) (u : Lists) where
  pub read : drafted g ≡ (paged_of s).drafts k
  read = read_draft s.drafts.items k g (segment_in s k l) is

  -- the store's fields once the draft and the pages have become others
  pub turn_stands : (m : Meaning) → SameTable (table_of s.pages) (table_of u) →
      Leaves (turned_to (paged_of s) k (desk u d)) m
      → StoreStands u s.present.items s.marks (slice_set s.drafts.items k d) m
  turn_stands m same v =
      let after : drafts_in (slice_set s.drafts.items k d) ≡ put k (drafted d) (paged_of s).drafts =
      set_draft s.drafts.items k d (drafted d) (segment_in s k l) refl in
      let w : Leaves (paged_by u s.present.items s.marks (slice_set s.drafts.items k d)) m =
      subst (λ x. Leaves (record {
        table = table_of u;
        present = s.present.items;
        holder = holders_of s.marks;
        looked = marks_of s.marks;
        drafts = x;
      }) m) (sym after) v in
      stands_after s u s.present.items s.marks (slice_set s.drafts.items k d) m same refl
      (record { segments = refl; granules = refl }) (length-set s.drafts.items k d) w

  parts_by : (own role : Words) → Sound own role (state_of (paged_of s)) → Apart (words_of s k) a
  unfolding meaning_in state_of
  parts_by own role z =
      let w : Words = words_of s k in
      let lays : Lays own role w a = (z.now k).lays a held in record {
        head = λ q e. false_from (in_body w a q)
            (λ b. both_ways (in_head a q) (body_not_head own role w a q lays b) e);
        index = λ q e. index_not_body own role w a q lays e;
        index_head = λ q e. index_not_head own role w a q lays e;
      }

  -- its header, its body and its index have no place in common
  pub parts : Apart (words_of s k) a
  parts = ∥∥₁_elim s.sound.fine.sound (hlevel props) (λ x. parts_by x.0 x.1.0 x.1.1)

  there_seen : seen_by_store s k a ≡ true
  unfolding meaning_in state_of
  there_seen = or_right (get_or s.present.items a false) _ held

  was_right : kind_by (words_of s k) a ≡ Dict → IsIndexed (words_of s k) a
  unfolding meaning_in state_of
  was_right d = s.sound.fine.indexed.now k a (or_right (get_or s.present.items a false) _ held) d

  pub change_stands : (now : Words) (t : ℕ → Bool) (c : Change) → CanChange (sees (paged_meaning s) k) a c →
      Wrote k now t (desk s.pages g) (desk u d)
      → InPlaceOf (words_of s k) now t a (after c (decode (words_of s k) a))
      → ((n : ℕ) → extents (after c (decode (words_of s k) a)) n ≡ extents (decode (words_of s k) a) n)
      → Renews (seen_by_store s k) (words_of s k) now a (after c (decode (words_of s k) a))
      → StoreStands u s.present.items s.marks (slice_set s.drafts.items k d)
      (after_change k a (after c) (paged_meaning s))
  change_stands now t c can h i same right = turn_stands (after_change k a (after c) (paged_meaning s))
      (h.same.segments, h.same.pages)
      (change_leaves (paged_of s) k a s.sound.fine (table_segment s k l) held (desk u d) now t
      (subst (λ x. Wrote k now t (record { table = table_of s.pages; draft = x }) (desk u d)) read h) c can i
      (λ n z. same n) right)

  pub refused_stands : (t : ℕ → Bool) → ((q : ℕ) → t q ≡ true → in_record (words_of s k) a q ≡ true) →
      Refused k t (desk s.pages g) (desk u d)
      → StoreStands u s.present.items s.marks (slice_set s.drafts.items k d) (paged_meaning s)
  refused_stands t inside h = turn_stands (paged_meaning s) (h.wrote.same.segments, h.wrote.same.pages)
      (refused_leaves (paged_of s) k a s.sound.fine (table_segment s k l) held (desk u d) t inside
      (subst (λ x. Refused k t (record { table = table_of s.pages; draft = x }) (desk u d)) read h))

  -- ---- each change

  pub put_stands : (i : ℕ) (v : Value) → CanChange (sees (paged_meaning s) k) a (Set i v) → FitsValue v
      → Wrote k (set_words (words_of s k) a i v) (in_span (body_by (words_of s k) a + 2 * i) 2) (desk s.pages g)
      (desk u d)
      → StoreStands u s.present.items s.marks (slice_set s.drafts.items k d)
      (after_change k a (after (Set i v)) (paged_meaning s))
  put_stands i v can fits h =
      let w : Words = words_of s k in
      let c : Change = Set i v in
      let z = (allowed s k a l c can).0.1 in
      let e = counted s k a l c can in
      change_stands (set_words w a i v) (in_span (body_by w a + 2 * i) 2) c can h
      (set_in_place w a (stands s k a l c can).formed i v (no_text s k a l c can) (omega (arith, z, e)) fits)
      (set_keeps i v (decode w a))
      (dict_renews (seen_by_store s k) w (set_words w a i v) a (with_value i v (decode w a)) there_seen was_right
      (off (2 * a) (parts.head (2 * a) (head_first a)))
      (off (2 * a + 3) (parts.head (2 * a + 3) (head_at a 3 (omega arith))))
      (λ n l. off (index_by w a + n) (parts.index (index_by w a + n) (in_span_at (index_by w a) (index_size w a) n l)))
      (length-set (decode w a).values i v) keys)
    where
      off : (q : ℕ) → in_body (words_of s k) a q ≡ false → set_words (words_of s k) a i v q ≡ words_of s k q
      off q n =
          let w : Words = words_of s k in
          let z = (allowed s k a l (Set i v) can).0.1 in
          let e = counted s k a l (Set i v) can in
          let m = bodied s k a l (Set i v) can in
          (set_in_place w a (stands s k a l (Set i v) can).formed i v (no_text s k a l (Set i v) can)
          (omega (arith, z, e)) fits).off q (false_from (in_span (body_by w a + 2 * i) 2 q)
          (λ h. let b = span_bounds (body_by w a + 2 * i) 2 q h in
          both_ways (in_body w a q) n (in_span_holds (body_by w a) (body_size w a) q (let x = b.0 in omega (arith, x))
          (let y = b.1 in omega (arith, y, z, e, m)))))

      keys : kind_by (words_of s k) a ≡ Dict →
          (j : ℕ) → value_at (with_value i v (decode (words_of s k) a)).values (2 * j)
          ≡ value_at (decode (words_of s k) a).values (2 * j)
      keys d j =
          let o : IsValuePlace Dict i = subst (λ z. IsValuePlace z i) (kind_is (words_of s k) a ∙ d)
          (allowed s k a l (Set i v) can).1 in
          let e = o.1 in
          get_or-set_other (decode (words_of s k) a).values i (2 * j) v Unset (λ x. omega (arith, x, e))

  pub put_refused : (i : ℕ) (v : Value) → CanChange (sees (paged_meaning s) k) a (Set i v)
      → Refused k (in_span (body_by (words_of s k) a + 2 * i) 2) (desk s.pages g) (desk u d)
      → StoreStands u s.present.items s.marks (slice_set s.drafts.items k d) (paged_meaning s)
  put_refused i v can h =
      let w : Words = words_of s k in
      let c : Change = Set i v in
      let z = (allowed s k a l c can).0.1 in
      let e = counted s k a l c can in
      let m = bodied s k a l c can in
      refused_stands (in_span (body_by w a + 2 * i) 2)
      (λ q x. body_inside w a (body_by w a + 2 * i) 2 q (omega arith) (omega (arith, z, e, m)) x) h

  pub add_stands : (v : Value) → CanChange (sees (paged_meaning s) k) a (Push v) →
      2 * (count_by (words_of s k) a + 1) ≤ body_size (words_of s k) a
      → FitsValue v
      → Wrote k (pushed_words (words_of s k) a (v ∷ []))
      (with_count a (body_by (words_of s k) a + 2 * count_by (words_of s k) a) 2) (desk s.pages g) (desk u d)
      → StoreStands u s.present.items s.marks (slice_set s.drafts.items k d)
      (after_change k a (after (Push v)) (paged_meaning s))
  add_stands v can room fits h =
      let w : Words = words_of s k in
      let c : Change = Push v in
      let rooms = list_rooms s k a l v can in
      change_stands (pushed_words w a (v ∷ [])) (with_count a (body_by w a + 2 * count_by w a) 2) c can h
      (push_in_place w a (stands s k a l c can).formed v rooms (omega (arith, room)) fits)
      (λ n. push_keeps v (decode w a) n (ap has_rooms (kind_is w a) ∙ rooms) (has_room w a rooms (omega (arith, room))))
      (list_renews (seen_by_store s k) w (pushed_words w a (v ∷ [])) a (with_push v (decode w a))
      (allowed s k a l c can).0.0)

  -- values at the end, of a body that has room for n
  pub add_refused : (n : ℕ) → 2 * (count_by (words_of s k) a + n) ≤ body_size (words_of s k) a
      → Refused k (with_count a (body_by (words_of s k) a + 2 * count_by (words_of s k) a) (2 * n)) (desk s.pages g)
      (desk u d)
      → StoreStands u s.present.items s.marks (slice_set s.drafts.items k d) (paged_meaning s)
  add_refused n room h =
      let w : Words = words_of s k in
      let place : ℕ = body_by w a + 2 * count_by w a in
      refused_stands (with_count a place (2 * n)) (λ q x. both_inside w a place (2 * n) q
      (λ y. body_inside w a place (2 * n) q (omega arith) (omega (arith, room)) y) x) h

  pub cut_stands : (n left : ℕ) → CanChange (sees (paged_meaning s) k) a (Cut n) →
      left ≡ min n (count_by (words_of s k) a)
      → Wrote k (cut_words (words_of s k) a left) (in_span (2 * a + 1) 1) (desk s.pages g) (desk u d)
      → StoreStands u s.present.items s.marks (slice_set s.drafts.items k d)
      (after_change k a (after (Cut n)) (paged_meaning s))
  cut_stands n left can e h =
      let w : Words = words_of s k in
      let c : Change = Cut n in
      let P : ℕ → Type 0 = λ z. Wrote k (cut_words w a z) (in_span (2 * a + 1) 1) (desk s.pages g) (desk u d) in
      change_stands (cut_words w a (min n (count_by w a))) (in_span (2 * a + 1) 1) c can (subst P e h)
      (cut_in_place w a (stands s k a l c can).formed n (no_text s k a l c can))
      (λ m. cut_keeps n (decode w a) m (ap has_rooms (allowed s k a l c can).0.0))
      (list_renews (seen_by_store s k) w (cut_words w a (min n (count_by w a))) a (cut_to n (decode w a))
      (allowed s k a l c can).0.0)

  pub cut_refused : Refused k (in_span (2 * a + 1) 1) (desk s.pages g) (desk u d)
      → StoreStands u s.present.items s.marks (slice_set s.drafts.items k d) (paged_meaning s)
  cut_refused h = refused_stands (in_span (2 * a + 1) 1) (λ q x. count_inside (words_of s k) a q x) h

  -- ---- pairs

  is_dict : (c : Change) → CanChange (sees (paged_meaning s) k) a c → (decode (words_of s k) a).kind ≡ Dict
      → kind_by (words_of s k) a ≡ Dict
  is_dict c can e = sym (kind_is (words_of s k) a) ∙ e

  module _ (key v : Value) (can : CanChange (sees (paged_meaning s) k) a (Pair key v))
      (room : 2 * (count_by (words_of s k) a + 2) ≤ body_size (words_of s k) a)
      (fits_key : FitsValue key) (fits : FitsValue v) where
    abbrev pair : Change
    pair = Pair key v

    pair_rooms : has_rooms (kind_by (words_of s k) a) ≡ true
    pair_rooms = dict_rooms s k a l key v can

    key_by : (own role : Words) → Sound own role (state_of (paged_of s))
        → IsKey (heap_of (seen_by_store s k) (words_of s k)) key
    unfolding meaning_in state_of
    key_by own role z = subst (λ h. IsKey h key) (seen_words own role (state_of (paged_of s)) k z)
        (allowed s k a l (Pair key v) can).1.0.1

    -- the key is one in what the segment sees
    key_is : IsKey (heap_of (seen_by_store s k) (words_of s k)) key
    key_is = ∥∥₁_elim s.sound.fine.sound (key_prop (heap_of (seen_by_store s k) (words_of s k)) key)
        (λ x. key_by x.0 x.1.0 x.1.1)

    paired_changes : (slot : ℕ) → FreeSlot (words_of s k) a key slot
        → InPlaceOf (words_of s k) (paired_words (words_of s k) a slot key v) (pair_places (words_of s k) a slot) a
        (with_pair key v (decode (words_of s k) a))
    paired_changes slot free = paired_in_place (words_of s k) a (stands s k a l pair can).formed parts key v pair_rooms
        (omega (arith, room)) fits_key fits slot free

    pub add_pair_stands : AddsPair k a key v (desk s.pages g) (desk u d)
        → StoreStands u s.present.items s.marks (slice_set s.drafts.items k d)
        (after_change k a (after (Pair key v)) (paged_meaning s))
    add_pair_stands h =
        let w : Words = words_of s k in
        let f = (stands s k a l pair can).formed in
        let e = counted s k a l pair can in
        change_stands (paired_words w a h.slot key v) (pair_places w a h.slot) pair can h.wrote
        (paired_changes h.slot h.free)
        (λ n. pair_keeps key v (decode w a) n (ap has_rooms (kind_is w a) ∙ pair_rooms)
        (has_pair_room w a pair_rooms (omega (arith, room))))
        (pair_renews (seen_by_store s k) w (paired_words w a h.slot key v) a there_seen was_right
        (paired_first w a f parts key v pair_rooms (omega (arith, room)) fits_key fits h.slot h.free)
        (paired_index w a f parts key v pair_rooms (omega (arith, room)) fits_key fits h.slot h.free)
        key v h.free.slot key_is h.free.first
        (paired_slots w a f parts key v pair_rooms (omega (arith, room)) fits_key fits h.slot h.free (pairs_by w a)
        (ap (λ n. n / 2) (sym e))))

    pub add_pair_refused : RefusesPair k a key (desk s.pages g) (desk u d)
        → StoreStands u s.present.items s.marks (slice_set s.drafts.items k d) (paged_meaning s)
    add_pair_refused h = refused_stands (pair_places (words_of s k) a h.slot)
        (λ q x. (paired_changes h.slot h.free).inside q x) h.refused

  module _ (pair : ℕ) (can : CanChange (sees (paged_meaning s) k) a (Unpair pair)) where
    abbrev unpair : Change
    unpair = Unpair pair

    gone_within : 2 * pair + 1 < count_by (words_of s k) a
    gone_within = let z = (allowed s k a l unpair can).0.1 in let e = counted s k a l unpair can in omega (arith, z, e)

    pub remove_stands : DropsIndexed k a pair (desk s.pages g) (desk u d)
        → StoreStands u s.present.items s.marks (slice_set s.drafts.items k d)
        (after_change k a (after (Unpair pair)) (paged_meaning s))
    remove_stands h =
        let w : Words = words_of s k in
        let f = (stands s k a l unpair can).formed in
        let e = counted s k a l unpair can in
        let dict : (decode w a).kind ≡ Dict = (allowed s k a l unpair can).0.0 in
        let bytes = no_text s k a l unpair can in
        let left : Words = drop_words h.words a pair (count_by w a - 2) in
        change_stands left (leave_places w a pair) unpair can h.wrote
        (left_in_place w a f parts pair bytes gone_within h.words h.off)
        (λ m. unpair_keeps pair (decode w a) m (ap has_rooms dict))
        (drop_renews (seen_by_store s k) w left a there_seen was_right
        (left_first w a f parts pair bytes gone_within h.words h.off)
        (left_index w a f parts pair bytes gone_within h.words h.off)
        pair (words_from h.words (index_by w a))
        (let some = index_room w a dict f in omega (arith, some))
        (let z = gone_within in omega (arith, z, e)) h.index
        (left_slots w a f parts pair bytes gone_within h.words h.off))

    pub remove_refused : Refused k (leave_places (words_of s k) a pair) (desk s.pages g) (desk u d)
        → StoreStands u s.present.items s.marks (slice_set s.drafts.items k d) (paged_meaning s)
    remove_refused h = refused_stands (leave_places (words_of s k) a pair)
        (λ q x. (left_in_place (words_of s k) a (stands s k a l unpair can).formed parts pair
        (no_text s k a l unpair can) gone_within (words_of s k) (λ p n. refl)).inside q x) h

-- ---- what a pair more asks of the words

there_too : (o : Option Rec) (P Q : Rec → Type 0) → ((r : Rec) → P r → Q r) → IfThere false o P → IfThere false o Q
there_too None P Q f x = x
there_too (Some r) P Q f x = f r x

module _ (s : PagedStore) (k d : ℕ) (l : k < (paged_meaning s).segments) (key v : Value)
    (can : CanChange (sees (paged_meaning s) k) d (Pair key v)) where
  can_find : CanFind (sees (paged_meaning s) k) d key
  can_find = there_too (sees (paged_meaning s) k d)
      (λ r. Allows (Pair key v) r × Suits false (sees (paged_meaning s) k) (Pair key v) r)
      (λ r. Fits (sees (paged_meaning s) k) r key) (λ r x. x.1.0) can

  pub pair_kind : (decode (words_of s k) d).kind ≡ Dict
  pair_kind = (allowed s k d l (Pair key v) can).0.0

  dict_there : kind_by (words_of s k) d ≡ Dict
  dict_there = sym (kind_is (words_of s k) d) ∙ pair_kind

  pub pair_extent : index_by (words_of s k) d + index_size (words_of s k) d ≤ reserved_in s
  pair_extent = dict_extent s k d (there s k d l (Pair key v) can) dict_there

  pub pair_key : IsKeySeen (table_of s.pages) (Segment k) key
  pair_key = key_seen s k d key l can_find

  pub pair_free : used (index_size (words_of s k) d) (index_words (words_of s k) d) < index_size (words_of s k) d
  pair_free =
      let r = index_room (words_of s k) d pair_kind (stands s k d l (Pair key v) can).formed in
      let u = (dict_right s k d (there s k d l (Pair key v) can) dict_there).used in
      omega (arith, r, u)
