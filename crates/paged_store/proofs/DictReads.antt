-- A dictionary that a segment sees: its index is right, and its keys are keys and differ.
use Rattle.std.proofs.Common.{◌≡◌, ℕ, ◌+◌, ◌-◌, ◌<◌, ◌≤◌, true, false, ◌||◌, List, [], ◌∷◌, get_or, Option, Some, None, IsSome, refl, sym, ◌∙◌, subst, arith}
use Rattle.std.proofs.Props.{props}
use Rattle.std.proofs.Math.Logic.{∥∥₁_elim}
use Rattle.py_base.specs.declared.kind.Kind.TheVariants.{Dict}
use Rattle.py_data.specs.declared.value.Value.{Value}
use Rattle.py_data.specs.declared.value.Value.TheVariants.{Unset, None as NoneValue, Bool as BoolValue, Int, Ref, Builtin}
use Rattle.py_data.specs.Heap.{Rec, Heap, Has}
use Rattle.py_data.specs.Shape.{KindIn, is_key_kind, IsKey, ArePairs, KeysDiffer}
use Rattle.seg_store.specs.Meaning.{sees}
use Rattle.page_table.specs.Lists.{table_of}
use Rattle.paged_store.specs.declared.sight.Seen.TheVariants.{Segment}
use Rattle.paged_store.specs.declared.store.PagedStore.{PagedStore}
use Rattle.dict_index.specs.Laws.{KeepsFixed}
use Rattle.dict_index.proofs.Kept.{pairs_kept}
use Rattle.paged_store.specs.Words.{Words, decode, kind_by, index_by, index_size, in_head, in_body, in_index}
use Rattle.paged_store.specs.State.{meaning_in}
use Rattle.paged_store.specs.inner.Sound.{Sound}
use Rattle.paged_store.specs.Paged.{state_of}
use Rattle.paged_store.specs.inner.Indexed.{pairs_by, IsIndexed}
use Rattle.paged_store.specs.inner.Keyed.{IsKeyed}
use Rattle.paged_store.specs.inner.Sight.{heap_seen, words_seen}
use Rattle.paged_store.specs.Stores.{paged_of, paged_meaning}
use Rattle.paged_store.proofs.KeyedLemmas.{dict_keys}
use Rattle.paged_store.proofs.LookCalls.{in_hand}
use Rattle.paged_store.proofs.RecordWords.{kind_is}
use Rattle.paged_store.proofs.IndexLemmas.{index_room}
use Rattle.paged_store.proofs.SpanLemmas.{in_span_at, in_third}
use Rattle.paged_store.proofs.SightLemmas.{seen_reserved, seen_there}
use Rattle.paged_store.proofs.StandLemmas.{Shows, fine_seen}

pub key_prop : (h : Heap) (key : Value) → IsProp (IsKey h key)
key_prop h Unset = hlevel props
key_prop h NoneValue = hlevel props
key_prop h (BoolValue b) = hlevel props
key_prop h (Int i) = hlevel props
key_prop h (Builtin b) = hlevel props
key_prop h (Ref a) = by_record (h a.0)
  where
    by_record : (o : Option Rec) → IsProp (KindIn o (λ k. is_key_kind k ≡ true))
    by_record None = hlevel props
    by_record (Some r) = hlevel props

pub pairs_prop : (h : Heap) (vs : List Value) → IsProp (ArePairs h vs)
pairs_prop h [] = hlevel props
pairs_prop h (k ∷ []) = hlevel props
pairs_prop h (k ∷ v ∷ rest) = hlevel (props, key_prop h k, pairs_prop h rest)

differ_prop : (h : Heap) (vs : List Value) → IsProp (KeysDiffer h vs)
differ_prop h [] = hlevel props
differ_prop h (k ∷ []) = hlevel props
differ_prop h (k ∷ v ∷ rest) = hlevel (props, differ_prop h rest)

seen_shown : (s : PagedStore) (k : ℕ) →
    Shows (words_seen (table_of s.pages) (Segment k)) (table_of s.pages).reserved (sees (paged_meaning s) k)
seen_shown s k = fine_seen (paged_of s) k s.sound.fine

module _ (s : PagedStore) (k d : ℕ) (there : Has (sees (paged_meaning s) k) d)
    (kind : kind_by (words_seen (table_of s.pages) (Segment k)) d ≡ Dict) where
  abbrev w : Words
  w = words_seen (table_of s.pages) (Segment k)

  there_by : (own role : Words) → Sound own role (state_of (paged_of s))
      → (get_or s.present.items d false || in_hand k ((paged_of s).drafts k) d) ≡ true
  unfolding meaning_in state_of
  there_by own role g = seen_there own role (state_of (paged_of s)) k g d there

  seen_flag : (get_or s.present.items d false || in_hand k ((paged_of s).drafts k) d) ≡ true
  seen_flag = ∥∥₁_elim s.sound.fine.sound (hlevel props) (λ x. there_by x.0 x.1.0 x.1.1)

  -- its index is right
  pub dict_right : IsIndexed w d
  unfolding meaning_in state_of
  dict_right = s.sound.fine.indexed.now k d seen_flag kind

  index_last : (own role : Words) → Sound own role (state_of (paged_of s)) → (p : ℕ) → in_index w d p ≡ true
      → p < (table_of s.pages).reserved
  unfolding meaning_in state_of
  index_last own role g p i = seen_reserved own role (state_of (paged_of s)) k g d p seen_flag
      (in_third (in_head d p) (in_body w d p) (in_index w d p) i)

  pub dict_extent : index_by w d + index_size w d ≤ (table_of s.pages).reserved
  dict_extent =
      let some : pairs_by w d < index_size w d = index_room w d (kind_is w d ∙ kind)
      ((seen_shown s k).stands d there).formed in
      let l : index_by w d + (index_size w d - 1) < (table_of s.pages).reserved =
      ∥∥₁_elim s.sound.fine.sound (hlevel props)
      (λ x. index_last x.0 x.1.0 x.1.1 (index_by w d + (index_size w d - 1))
      (in_span_at (index_by w d) (index_size w d) (index_size w d - 1) (omega (arith, some)))) in
      omega (arith, l, some)

  keys_stay : KeepsFixed (sees (paged_meaning s) k) (heap_seen (table_of s.pages) (Segment k))
  keys_stay a r e t = sym ((seen_shown s k).is a (subst IsSome (sym e) refl)) ∙ e

  keys_kept : IsKeyed (paged_meaning s)
      → ArePairs (heap_seen (table_of s.pages) (Segment k)) (decode w d).values
      × KeysDiffer (heap_seen (table_of s.pages) (Segment k)) (decode w d).values
  keys_kept q =
      let p = dict_keys (paged_meaning s) k d (decode w d) q ((seen_shown s k).is d there) (kind_is w d ∙ kind) in
      pairs_kept (sees (paged_meaning s) k) (heap_seen (table_of s.pages) (Segment k)) (decode w d).values keys_stay p.0
      p.1

  -- its keys are keys, and differ
  pub dict_pairs : ArePairs (heap_seen (table_of s.pages) (Segment k)) (decode w d).values
  dict_pairs = ∥∥₁_elim s.sound.fine.keyed (pairs_prop (heap_seen (table_of s.pages) (Segment k)) (decode w d).values)
      (λ q. (keys_kept q).0)

  pub dict_differs : KeysDiffer (heap_seen (table_of s.pages) (Segment k)) (decode w d).values
  dict_differs = ∥∥₁_elim s.sound.fine.keyed
      (differ_prop (heap_seen (table_of s.pages) (Segment k)) (decode w d).values) (λ q. (keys_kept q).1)
