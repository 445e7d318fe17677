-- What is read of a store: the image's records, and those that a segment sees.
use Rattle.std.proofs.Common.{◌≡◌, ℕ, ◌+◌, ◌*◌, ◌<◌, ◌≤◌, Bool, true, false, cond, length, Option, Some, None, IsSome, IfSome, unwrap_or, refl, sym, ◌∙◌, ap, subst, arith}
use Rattle.py_base.specs.declared.kind.Kind.TheVariants.{Dict}
use Rattle.py_data.specs.declared.record.TheConstants.{LENGTH_LIMIT}
use Rattle.py_data.specs.declared.value.Value.{Value}
use Rattle.py_data.specs.Heap.{Rec, Has, at, blank, has_bytes, length_of}
use Rattle.py_data.specs.Shape.{ArePairs, KeysDiffer, Fits, find}
use Rattle.seg_store.specs.Meaning.{sees}
use Rattle.seg_store.specs.Store.{Where, CanFind, IsStored}
use Rattle.page_table.specs.Lists.{table_of}
use Rattle.paged_store.specs.declared.sight.Seen.TheVariants.{Image, Segment}
use Rattle.paged_store.specs.declared.store.PagedStore.{PagedStore}
use Rattle.paged_store.specs.Words.{kind_by, index_by, index_size}
use Rattle.paged_store.specs.inner.Indexed.{IsIndexed}
use Rattle.paged_store.specs.inner.Sight.{heap_seen, CanRead, words_seen, record_seen, IsKeySeen, KeysSeen, KnowsKeys}
use Rattle.paged_store.specs.Stores.{paged_of, paged_meaning, reserved_of}
use Rattle.paged_store.proofs.DictReads.{dict_right, dict_extent, dict_pairs, dict_differs}
use Rattle.paged_store.proofs.FineLemmas.{known_of}
use Rattle.paged_store.proofs.RecordWords.{kind_is}
use Rattle.paged_store.proofs.Keeping.{sees_stored}
use Rattle.paged_store.proofs.StandLemmas.{Shows, fine_image, fine_seen, can_read, at_seen, where_has, where_seen, find_there, find_kind, find_keys_seen, find_key_seen, find_knows}
use Rattle.paged_store.proofs.StoreEnds.{table_segment}

pub shown : (s : PagedStore) → Shows (words_seen (table_of s.pages) Image) (table_of s.pages).reserved
    (paged_meaning s).image
shown s = fine_image (paged_of s) s.sound.fine

module _ (s : PagedStore) (a : ℕ) (there : Has (paged_meaning s).image a) where
  pub image_read : CanRead (table_of s.pages) Image a
  image_read = can_read (table_of s.pages) Image (paged_meaning s).image (shown s) tt a there

  pub image_at : at (paged_meaning s).image a ≡ record_seen (table_of s.pages) Image a
  image_at = at_seen (table_of s.pages) Image (paged_meaning s).image (shown s) tt a there

  -- what holds of the record that stands there holds of the one that words stand for, and back
  pub image_is : (P : Rec → Type 0) → P (at (paged_meaning s).image a) → P (record_seen (table_of s.pages) Image a)
  image_is P h = subst P image_at h

  pub image_back : {A : Type 0} (f : Rec → A) (x : A) → x ≡ f (record_seen (table_of s.pages) Image a) →
      x ≡ f (at (paged_meaning s).image a)
  image_back f x e = e ∙ ap f (sym image_at)

-- ---- what a segment sees

pub seen_shown : (s : PagedStore) (k : ℕ) →
    Shows (words_seen (table_of s.pages) (Segment k)) (table_of s.pages).reserved (sees (paged_meaning s) k)
seen_shown s k = fine_seen (paged_of s) k s.sound.fine

module _ (s : PagedStore) (k a : ℕ) (l : k < (paged_meaning s).segments) where
  module _ (there : Has (sees (paged_meaning s) k) a) where
    pub own_read : CanRead (table_of s.pages) (Segment k) a
    own_read = can_read (table_of s.pages) (Segment k) (sees (paged_meaning s) k) (seen_shown s k)
        (table_segment s k l) a
        there

    pub own_at : at (sees (paged_meaning s) k) a ≡ record_seen (table_of s.pages) (Segment k) a
    own_at = at_seen (table_of s.pages) (Segment k) (sees (paged_meaning s) k) (seen_shown s k) (table_segment s k l) a
        there

    pub own_back : {A : Type 0} (f : Rec → A) (x : A) → x ≡ f (record_seen (table_of s.pages) (Segment k) a)
        → x ≡ f (at (sees (paged_meaning s) k) a)
    own_back f x e = e ∙ ap f (sym own_at)

  -- the same where a record is there that has some property
  module _ (P : Rec → Type 0) (w : Where (sees (paged_meaning s) k) a P) where
    pub own_there : Has (sees (paged_meaning s) k) a
    own_there = where_has (table_of s.pages) (Segment k) (sees (paged_meaning s) k) (seen_shown s k)
        (table_segment s k l) a
        P w

    pub own_is : P (record_seen (table_of s.pages) (Segment k) a)
    own_is = where_seen (table_of s.pages) (Segment k) (sees (paged_meaning s) k) (seen_shown s k)
        (table_segment s k l) a
        P w

-- ---- lengths are within the limit

stored_at : (o : Option Rec) → ((r : Rec) → o ≡ Some r → IsStored r) → IsSome o → IsStored (unwrap_or o blank)
stored_at (Some r) p e = p r refl
stored_at None p e = absurd (cc)

one_within : (b : Bool) (n m : ℕ) → n ≤ LENGTH_LIMIT → m ≤ LENGTH_LIMIT → cond b n m ≤ LENGTH_LIMIT
one_within true n m p q = p
one_within false n m p q = q

module _ (s : PagedStore) (k a : ℕ) (there : Has (sees (paged_meaning s) k) a) where
  stored : IsStored (at (sees (paged_meaning s) k) a)
  unfolding at
  stored = stored_at (sees (paged_meaning s) k a)
      ((sees_stored (reserved_of s) (paged_meaning s) k (known_of (paged_of s) s.sound.fine)).each a) there

  pub length_within : length_of (at (sees (paged_meaning s) k) a) ≤ LENGTH_LIMIT
  length_within = one_within (has_bytes (at (sees (paged_meaning s) k) a).kind)
      (length (at (sees (paged_meaning s) k) a).bytes) (length (at (sees (paged_meaning s) k) a).values)
      stored.bytes stored.values

  pub values_within : length (at (sees (paged_meaning s) k) a).values ≤ LENGTH_LIMIT
  values_within = stored.values

-- ---- keys

place_within : (o : Option ℕ) (n m : ℕ) → n ≤ m → IfSome o (λ i. 2 * i + 1 < n) → IfSome o (λ i. 2 * i + 1 < m)
place_within (Some i) n m l p = omega (arith, l, p)
place_within None n m l p = tt

module _ (s : PagedStore) (k d : ℕ) (key : Value) (l : k < (paged_meaning s).segments)
    (can : CanFind (sees (paged_meaning s) k) d key) where
  pub key_there : CanRead (table_of s.pages) (Segment k) d
  key_there = find_there (table_of s.pages) (Segment k) (sees (paged_meaning s) k) (seen_shown s k)
      (table_segment s k l) d
      key can

  pub key_kind : (record_seen (table_of s.pages) (Segment k) d).kind ≡ Dict
  key_kind = find_kind (table_of s.pages) (Segment k) (sees (paged_meaning s) k) (seen_shown s k) (table_segment s k l)
      d
      key can

  pub keys_seen : KeysSeen (table_of s.pages) (Segment k) (record_seen (table_of s.pages) (Segment k) d).values
  keys_seen = find_keys_seen (table_of s.pages) (Segment k) (sees (paged_meaning s) k) (seen_shown s k)
      (table_segment s k l) d key can

  pub key_seen : IsKeySeen (table_of s.pages) (Segment k) key
  key_seen = find_key_seen (table_of s.pages) (Segment k) (sees (paged_meaning s) k) (seen_shown s k)
      (table_segment s k l) d key can

  pub key_knows : KnowsKeys (sees (paged_meaning s) k) (words_seen (table_of s.pages) (Segment k))
      (record_seen (table_of s.pages) (Segment k) d).values key
  key_knows = find_knows (table_of s.pages) (Segment k) (sees (paged_meaning s) k) (seen_shown s k)
      (table_segment s k l) d
      key can

  dict_there : Has (sees (paged_meaning s) k) d
  dict_there = own_there s k d l (λ r. Fits (sees (paged_meaning s) k) r key) can

  dict_is : kind_by (words_seen (table_of s.pages) (Segment k)) d ≡ Dict
  dict_is = sym (kind_is (words_seen (table_of s.pages) (Segment k)) d) ∙ key_kind

  -- its index is right
  pub key_index : IsIndexed (words_seen (table_of s.pages) (Segment k)) d
  key_index = dict_right s k d dict_there dict_is

  pub key_extent : index_by (words_seen (table_of s.pages) (Segment k)) d
      + index_size (words_seen (table_of s.pages) (Segment k)) d ≤ (table_of s.pages).reserved
  key_extent = dict_extent s k d dict_there dict_is

  -- its keys are keys, and differ
  pub key_pairs : ArePairs (heap_seen (table_of s.pages) (Segment k))
      (record_seen (table_of s.pages) (Segment k) d).values
  key_pairs = dict_pairs s k d dict_there dict_is

  pub key_differs : KeysDiffer (heap_seen (table_of s.pages) (Segment k))
      (record_seen (table_of s.pages) (Segment k) d).values
  key_differs = dict_differs s k d dict_there dict_is

  -- the pair that was found, in the heap that the segment sees
  pub key_found : (o : Option ℕ)
      → o ≡ find (sees (paged_meaning s) k) (record_seen (table_of s.pages) (Segment k) d).values key
      → o ≡ find (sees (paged_meaning s) k) (at (sees (paged_meaning s) k) d).values key
  key_found o e = own_back s k d l dict_there (λ r. find (sees (paged_meaning s) k) r.values key) o e

  pub key_within : (o : Option ℕ)
      → IfSome o (λ i. 2 * i + 1 < length (record_seen (table_of s.pages) (Segment k) d).values)
      → IfSome o (λ i. 2 * i + 1 < LENGTH_LIMIT)
  key_within o p = place_within o (length (record_seen (table_of s.pages) (Segment k) d).values) LENGTH_LIMIT
      (subst (λ (r : Rec). length r.values ≤ LENGTH_LIMIT) (own_at s k d l dict_there)
      (values_within s k d dict_there)) p
